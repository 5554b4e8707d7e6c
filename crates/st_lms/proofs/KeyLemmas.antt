-- Strings written part by part, and split again.
use Rattle.std.proofs.Common.{◌≡◌, ℕ, ◌+◌, ◌<◌, ◌≤◌, ◌^◌, List, ◌++◌, length, take, drop, get_or, inl, inr, ap, ◌∙◌, refl, arith, ◌-◌, ◌*◌, ◌/◌, ◌%◌, bit_and, append_assoc, subst, sym}
use Rattle.std.proofs.lemmas.Bool.{cases_lt}
use Rattle.std.proofs.lemmas.List.{length-take, get_or-take, get_or-drop, get_or_past, take_at, drop_at, take-append-drop, length-take-le, length-drop, length-append}
use Rattle.std.proofs.lemmas.Nat.{be_bytes_4, from_be_bytes-to_be_bytes_4, and_mask}
use Rattle.st_base.proofs.TextLemmas.{same_cut}
use Rattle.st_lms.proofs.TreeLemmas.{small_leaf}
use Rattle.st_lms.specs.Tree.{PublicKey, IsPublicKey, public_text, tree_type_in, one_time_type_in, SecretKey, IsSecretKey}
use Rattle.st_lms.specs.OneTime.{IsOneTimeType, IsTreeType, chains, height, one_time_number, tree_number}
use Rattle.st_lms.specs.Signature.{SignatureParts, parts_in, IsSignature}
use Rattle.st_lms.specs.Strings.{u32str, str_to_u32, u16str, coef}
use Rattle.st_lms.specs.declared.parameters.OneTimeType.{OneTimeType}
use Rattle.st_lms.specs.declared.parameters.OneTimeType.TheVariants.{Width1, Width2, Width4, Width8}
use Rattle.st_lms.specs.declared.parameters.TreeType.{TreeType}
use Rattle.st_lms.specs.declared.parameters.TreeType.TheVariants.{Height5, Height10}
use Rattle.st_lms.specs.declared.public.Public.TheInside as public
use Rattle.st_lms.specs.declared.secret.Secret.TheInside as secret
use Rattle.st_lms.specs.inside.Parts.{PartsHold}

-- one more part after those already written; `put` gives the second premise
pub written : (before part old new : List ℕ) (at : ℕ) → take at old ≡ before
    → take (at + length part) new ≡ take at old ++ part
    → take (at + length part) new ≡ before ++ part
written before part old new at e put = put ∙ ap (λ front. front ++ part) e

-- ---- bytes that are numbers

-- each is a byte
abbrev pub AreBytes : List ℕ → Type 0
AreBytes xs = (i : ℕ) → get_or xs i 0 < 256

pub bytes_of_take : (n : ℕ) (xs : List ℕ) → AreBytes xs → AreBytes (take n xs)
bytes_of_take n xs h i = elim (cases_lt i n) [
  | inl below ↦ rw (get_or-take n xs i 0 below) (h i)
  | inr past ↦
      let short : length (take n xs) ≤ i = omega (arith, length-take n xs) in
      rw (get_or_past (take n xs) i 0 short) (omega arith)
]

pub bytes_of_drop : (n : ℕ) (xs : List ℕ) → AreBytes xs → AreBytes (drop n xs)
bytes_of_drop n xs h i = rw (get_or-drop n xs i 0) (h (n + i))

pub u32str-str_to_u32 : (bytes : List ℕ) → length bytes ≡ 4 → AreBytes bytes → u32str (str_to_u32 bytes) ≡ bytes
unfolding u32str str_to_u32
u32str-str_to_u32 bytes long small = be_bytes_4 bytes _ long small refl

pub str_to_u32-u32str : (n : ℕ) → n < 2 ^ 32 → str_to_u32 (u32str n) ≡ n
unfolding u32str str_to_u32
str_to_u32-u32str n h = from_be_bytes-to_be_bytes_4 n h

-- ---- Lengths of strings, and how digits are read.

pub length-u32str : (n : ℕ) → length (u32str n) ≡ 4
unfolding u32str
length-u32str n = refl

pub length-u16str : (n : ℕ) → length (u16str n) ≡ 2
unfolding u16str
length-u16str n = refl

-- a byte that is shifted down and masked is the digit
pub shifted-coef : (s : List ℕ) (i w greatest : ℕ) → greatest ≡ 2 ^ w - 1 →
    bit_and (get_or s (i * w / 8) 0 / 2 ^ (8 - (w * (i % (8 / w)) + w))) greatest ≡ coef s i w
unfolding coef
shifted-coef s i w greatest e = rw (e, and_mask)

-- ---- The text of a public key, written and read.

-- the parts of a text as a key
abbrev pub key_in : List ℕ → PublicKey
key_in text = record {
  ots = str_to_u32 (take 4 (drop 4 text));
  tree = str_to_u32 (take 4 text);
  id = take 16 (drop 4 (drop 4 text));
  root = drop 16 (drop 4 (drop 4 text));
}

-- four strings joined, grouped from the right
pub four_parts : (a b c d : List ℕ) → a ++ b ++ c ++ d ≡ a ++ (b ++ (c ++ d))
four_parts a b c d = simp append_assoc

-- a text is that of its parts
pub public_text-key_in : (text : List ℕ) → length text ≡ 56 → AreBytes text → public_text (key_in text) ≡ text
unfolding public_text
public_text-key_in text long small =
    let rest = drop 4 text in
    let four : length (take 4 text) ≡ 4 = length-take-le 4 text (omega arith) in
    let more : length (take 4 rest) ≡ 4 = length-take-le 4 rest (omega (arith, length-drop 4 text)) in
    let tree : u32str (str_to_u32 (take 4 text)) ≡ take 4 text =
    u32str-str_to_u32 (take 4 text) four (bytes_of_take 4 text small) in
    let ots : u32str (str_to_u32 (take 4 rest)) ≡ take 4 rest =
    u32str-str_to_u32 (take 4 rest) more (bytes_of_take 4 rest (bytes_of_drop 4 text small)) in
    four_parts (u32str (str_to_u32 (take 4 text))) (u32str (str_to_u32 (take 4 rest))) (take 16 (drop 4 rest)) (drop 16 (drop 4 rest))
    ∙ ap (λ xs. xs ++ (u32str (str_to_u32 (take 4 rest)) ++ (take 16 (drop 4 rest) ++ drop 16 (drop 4 rest)))) tree
    ∙ ap (λ xs. take 4 text ++ (xs ++ (take 16 (drop 4 rest) ++ drop 16 (drop 4 rest)))) ots
    ∙ ap (λ xs. take 4 text ++ (take 4 rest ++ xs)) (take-append-drop 16 (drop 4 rest))
    ∙ ap (λ xs. take 4 text ++ xs) (take-append-drop 4 rest)
    ∙ take-append-drop 4 text

-- how the text of a key determines the key
pub record ShowsKey (key : PublicKey) (text : List ℕ) : Type 0 where
  pub long : length text ≡ 56
  pub one_time_type : one_time_type_in text ≡ key.ots
  pub tree_type : tree_type_in text ≡ key.tree
  pub parts : key_in text ≡ key

pub shows_key : (key : PublicKey) (text : List ℕ) → IsPublicKey key → text ≡ public_text key → ShowsKey key text
unfolding public_text one_time_type_in tree_type_in
shows_key key text is e =
    let tree = u32str key.tree in
    let ots = u32str key.ots in
    let grouped : text ≡ tree ++ (ots ++ (key.id ++ key.root)) = e ∙ four_parts tree ots key.id key.root in
    let first : take 4 text ≡ tree = ap (take 4) grouped ∙ take_at tree (ots ++ (key.id ++ key.root)) 4 (length-u32str key.tree) in
    let rest : drop 4 text ≡ ots ++ (key.id ++ key.root) =
    ap (drop 4) grouped ∙ drop_at tree (ots ++ (key.id ++ key.root)) 4 (length-u32str key.tree) in
    let second : take 4 (drop 4 text) ≡ ots = ap (take 4) rest ∙ take_at ots (key.id ++ key.root) 4 (length-u32str key.ots) in
    let last : drop 4 (drop 4 text) ≡ key.id ++ key.root = ap (drop 4) rest ∙ drop_at ots (key.id ++ key.root) 4 (length-u32str key.ots) in
    let id : take 16 (drop 4 (drop 4 text)) ≡ key.id = ap (take 16) last ∙ take_at key.id key.root 16 is.id in
    let root : drop 16 (drop 4 (drop 4 text)) ≡ key.root = ap (drop 16) last ∙ drop_at key.id key.root 16 is.id in
    let ots_small : key.ots < 2 ^ 32 = omega (arith, is.ots) in
    let tree_small : key.tree < 2 ^ 32 = omega (arith, is.tree) in
    let ots_is : str_to_u32 (take 4 (drop 4 text)) ≡ key.ots = ap str_to_u32 second ∙ str_to_u32-u32str key.ots ots_small in
    let tree_is : str_to_u32 (take 4 text) ≡ key.tree = ap str_to_u32 first ∙ str_to_u32-u32str key.tree tree_small in
    record {
      long = ap length grouped ∙ omega (
        arith,
        length-u32str key.tree,
        length-u32str key.ots,
        is.id,
        is.root,
        length-append tree (ots ++ (key.id ++ key.root)),
        length-append ots (key.id ++ key.root),
        length-append key.id key.root,
      );
      one_time_type = ots_is;
      tree_type = tree_is;
      parts = rw (ots_is, tree_is, id, root);
    }

-- a key with the parts of a text
pub same_key : (key : PublicKey) (text : List ℕ) → key.ots ≡ (key_in text).ots → key.tree ≡ (key_in text).tree
    → key.id ≡ (key_in text).id → key.root ≡ (key_in text).root
    → key ≡ key_in text
same_key key text ots tree id root =
    ap (λ t. record key { ots = t }) ots
    ∙ ap (λ t. record key { ots = (key_in text).ots; tree = t }) tree
    ∙ ap (λ t. record (key_in text) { id = t; root = key.root }) id
    ∙ ap (λ t. record (key_in text) { root = t }) root

-- ---- Each type is in its table.

pub one_time_known : (kind : OneTimeType) → IsOneTimeType (one_time_number kind)
one_time_known Width1 = (omega arith, omega arith)
one_time_known Width2 = (omega arith, omega arith)
one_time_known Width4 = (omega arith, omega arith)
one_time_known Width8 = (omega arith, omega arith)

pub tree_known : (kind : TreeType) → IsTreeType (tree_number kind)
tree_known Height5 = (omega arith, omega arith)
tree_known Height10 = (omega arith, omega arith)

-- ---- A key value satisfies the rules of a key.

abbrev seen_public : public.Inside → PublicKey
seen_public a = record { ots = one_time_number a.ots; tree = tree_number a.tree; id = a.id; root = a.root }

pub known_public : (key : PublicKey) (a : public.Inside) → seen_public a ≡ key → length a.id ≡ 16 → length a.root ≡ 32
    → IsPublicKey key
known_public key a is id root = subst IsPublicKey is (record {
  ots = one_time_known a.ots;
  tree = tree_known a.tree;
  id = id;
  root = root;
})

abbrev seen_secret : secret.Inside → SecretKey
seen_secret a = record { ots = one_time_number a.ots; tree = tree_number a.tree; id = a.id; seed = a.seed }

pub known_secret : (key : SecretKey) (a : secret.Inside) → seen_secret a ≡ key → length a.id ≡ 16 → length a.seed ≡ 32
    → IsSecretKey key
known_secret key a is id seed = subst IsSecretKey is (record {
  ots = one_time_known a.ots;
  tree = tree_known a.tree;
  id = id;
  seed = seed;
})

-- ---- A signature and its parts.

-- the bytes of these parts
abbrev pub whole_of : SignatureParts → List ℕ
whole_of parts = parts.q ++ parts.ots ++ parts.randomizer ++ parts.values ++ parts.tree ++ parts.path

-- a signature split into parts, with n bytes of values
pub record IsCut (n : ℕ) (signature : List ℕ) (parts : SignatureParts) : Type 0 where
  pub whole : signature ≡ whole_of parts
  pub q : length parts.q ≡ 4
  pub ots : length parts.ots ≡ 4
  pub randomizer : length parts.randomizer ≡ 32
  pub values : length parts.values ≡ n
  pub tree : length parts.tree ≡ 4

length-whole_of : (parts : SignatureParts) → length (whole_of parts)
    ≡ length parts.q + length parts.ots + length parts.randomizer + length parts.values + length parts.tree + length parts.path
length-whole_of parts =
    let four = parts.q ++ parts.ots ++ parts.randomizer ++ parts.values in
    omega (
      arith,
      length-append (four ++ parts.tree) parts.path,
      length-append four parts.tree,
      length-append (parts.q ++ parts.ots ++ parts.randomizer) parts.values,
      length-append (parts.q ++ parts.ots) parts.randomizer,
      length-append parts.q parts.ots,
    )

-- the path is the rest after the other parts
pub length-path : (n m : ℕ) (signature : List ℕ) (parts : SignatureParts) → IsCut n signature parts
    → length signature ≡ 44 + n + m
    → length parts.path ≡ m
length-path n m signature parts cut long = omega (arith, ap length cut.whole, length-whole_of parts)

abbrev parts_of : (public : PublicKey) (message signature : List ℕ) → IsSignature public message signature → SignatureParts
parts_of public message signature is = record {
  q = u32str is.q;
  ots = u32str public.ots;
  randomizer = is.randomizer;
  values = is.values;
  tree = u32str public.tree;
  path = is.path;
}

-- a signature has the length of its public key's types
pub length-signature : (public : PublicKey) (message signature : List ℕ) → IsSignature public message signature
    → length signature ≡ 44 + 32 * chains public.ots + 32 * height public.tree
length-signature public message signature is =
    ap length is.whole
    ∙ omega (
      arith,
      length-whole_of (parts_of public message signature is),
      length-u32str is.q,
      length-u32str public.ots,
      length-u32str public.tree,
      is.randomizer_long,
      is.values_long,
      is.path_long,
    )

-- two splits of a signature are the same
pub record SameParts (one other : SignatureParts) : Type 0 where
  pub q : one.q ≡ other.q
  pub ots : one.ots ≡ other.ots
  pub randomizer : one.randomizer ≡ other.randomizer
  pub values : one.values ≡ other.values
  pub tree : one.tree ≡ other.tree
  pub path : one.path ≡ other.path

same_parts : (n : ℕ) (signature : List ℕ) (one other : SignatureParts) → IsCut n signature one
    → IsCut n signature other
    → length one.path ≡ length other.path
    → SameParts one other
same_parts n signature one other a b paths =
    let whole = sym a.whole ∙ b.whole in
    let six = same_cut (one.q ++ one.ots ++ one.randomizer ++ one.values ++ one.tree) one.path (other.q ++ other.ots ++ other.randomizer ++ other.values ++ other.tree) other.path whole paths in
    let five = same_cut (one.q ++ one.ots ++ one.randomizer ++ one.values) one.tree (other.q ++ other.ots ++ other.randomizer ++ other.values) other.tree six.front_is (a.tree ∙ sym b.tree) in
    let four = same_cut (one.q ++ one.ots ++ one.randomizer) one.values (other.q ++ other.ots ++ other.randomizer) other.values five.front_is (a.values ∙ sym b.values) in
    let three = same_cut (one.q ++ one.ots) one.randomizer (other.q ++ other.ots) other.randomizer four.front_is (a.randomizer ∙ sym b.randomizer) in
    let two = same_cut one.q one.ots other.q other.ots three.front_is (a.ots ∙ sym b.ots) in
    record {
      q = two.front_is;
      ots = two.back_is;
      randomizer = three.back_is;
      values = four.back_is;
      tree = five.back_is;
      path = six.back_is;
    }

pub parts_hold_of : (public : PublicKey) (message signature : List ℕ) (parts : SignatureParts)
    → IsCut (32 * chains public.ots) signature parts
    → IsSignature public message signature
    → PartsHold public message parts
parts_hold_of public message signature parts cut is =
    let n = 32 * chains public.ots in
    let said = parts_of public message signature is in
    let said_cut : IsCut n signature said = record {
      whole = is.whole;
      q = length-u32str is.q;
      ots = length-u32str public.ots;
      randomizer = is.randomizer_long;
      values = is.values_long;
      tree = length-u32str public.tree;
    } in
    let path = length-path n (32 * height public.tree) signature parts cut (length-signature public message signature is) in
    let same = same_parts n signature parts said cut said_cut (path ∙ sym is.path_long) in
    let number : str_to_u32 parts.q ≡ is.q = ap str_to_u32 same.q ∙ str_to_u32-u32str is.q (small_leaf public.tree is.q is.in_tree) in
    record {
      ots = same.ots;
      tree = same.tree;
      in_tree = rw number is.in_tree;
      root = rw (number, same.randomizer, same.values, same.path) is.root;
    }

grouped : (parts : SignatureParts) → whole_of parts ≡ parts.q ++ (parts.ots ++ parts.randomizer ++ parts.values ++ parts.tree ++ parts.path)
grouped parts = simp append_assoc

-- parts that hold make a signature
pub signature_of_parts : (public : PublicKey) (message signature : List ℕ) (parts : SignatureParts)
    → IsCut (32 * chains public.ots) signature parts
    → length signature ≡ 44 + 32 * chains public.ots + 32 * height public.tree
    → AreBytes signature
    → PartsHold public message parts
    → IsSignature public message signature
signature_of_parts public message signature parts cut long small hold =
    let behind = parts.ots ++ parts.randomizer ++ parts.values ++ parts.tree ++ parts.path in
    let first : take 4 signature ≡ parts.q = ap (take 4) (cut.whole ∙ grouped parts) ∙ take_at parts.q behind 4 cut.q in
    let q_small : AreBytes parts.q = rw first at (bytes_of_take 4 signature small) in
    let q_is : parts.q ≡ u32str (str_to_u32 parts.q) = sym (u32str-str_to_u32 parts.q cut.q q_small) in
    record {
      q = str_to_u32 parts.q;
      randomizer = parts.randomizer;
      values = parts.values;
      path = parts.path;
      whole =
          cut.whole
          ∙ ap (λ q. q ++ parts.ots ++ parts.randomizer ++ parts.values ++ parts.tree ++ parts.path) q_is
          ∙ ap (λ ots. u32str (str_to_u32 parts.q) ++ ots ++ parts.randomizer ++ parts.values ++ parts.tree ++ parts.path) hold.ots
          ∙ ap (λ tree. u32str (str_to_u32 parts.q) ++ u32str public.ots ++ parts.randomizer ++ parts.values ++ tree ++ parts.path) hold.tree;
      randomizer_long = cut.randomizer;
      values_long = cut.values;
      path_long = length-path (32 * chains public.ots) (32 * height public.tree) signature parts cut long;
      in_tree = hold.in_tree;
      root = hold.root;
    }

-- bytes of the right length, split by their lengths
pub cut-parts_in : (n : ℕ) (signature : List ℕ) → 44 + n ≤ length signature → IsCut n signature (parts_in n signature)
unfolding parts_in
cut-parts_in n signature long =
    let one = drop 4 signature in
    let two = drop 4 one in
    let three = drop 32 two in
    let four = drop n three in
    let one_long : 40 + n ≤ length one = omega (arith, length-drop 4 signature) in
    let two_long : 36 + n ≤ length two = omega (arith, length-drop 4 one) in
    let three_long : 4 + n ≤ length three = omega (arith, length-drop 32 two) in
    let four_long : 4 ≤ length four = omega (arith, length-drop n three) in
    record {
      whole =
          sym (ap (λ xs. take 4 signature ++ (take 4 one ++ (take 32 two ++ (take n three ++ xs)))) (take-append-drop 4 four)
          ∙ ap (λ xs. take 4 signature ++ (take 4 one ++ (take 32 two ++ xs))) (take-append-drop n three)
          ∙ ap (λ xs. take 4 signature ++ (take 4 one ++ xs)) (take-append-drop 32 two)
          ∙ ap (λ xs. take 4 signature ++ xs) (take-append-drop 4 one)
          ∙ take-append-drop 4 signature)
          ∙ regrouped (take 4 signature) (take 4 one) (take 32 two) (take n three) (take 4 four) (drop 4 four);
      q = length-take-le 4 signature (omega arith);
      ots = length-take-le 4 one (omega arith);
      randomizer = length-take-le 32 two (omega arith);
      values = length-take-le n three (omega arith);
      tree = length-take-le 4 four (omega arith);
    } where
      regrouped : (a b c d e f : List ℕ) → a ++ (b ++ (c ++ (d ++ (e ++ f)))) ≡ a ++ b ++ c ++ d ++ e ++ f
      regrouped a b c d e f = sym (simp append_assoc)
