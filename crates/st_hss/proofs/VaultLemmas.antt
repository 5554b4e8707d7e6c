-- The key in bytes, by each of the tests in turn.
use Rattle.std.proofs.Common.{◌≡◌, ◌≢◌, ◌∙◌, ℕ, List, ◌++◌, length, take, drop, Option, Some, Result, Ok, Err, sym, ap, refl, arith, ◌<◌, ◌^◌, inl, inr, ◌+◌, ◌*◌, ◌≤◌, ◌-◌}
use Rattle.std.proofs.lemmas.Bool.{ne_eqb, false_from_ne_true}
use Rattle.std.proofs.lemmas.Bool.Decides.{eqb_tells}
use Rattle.std.proofs.lemmas.List.{take_at, drop_at, length-append}
use Rattle.std.specs.Cmp.Lexicographic.{bytes_decides}
use Rattle.std.specs.Prelude.{ok_or, bytes_eq}
use Rattle.st_base.proofs.TextLemmas.{same_cut}
use Rattle.st_base.specs.Answers.{◌>>=◌}
use Rattle.st_lms.proofs.LawLemmas.{public_in-public_text, public_in-none, length-node}
use Rattle.st_lms.proofs.KeyLemmas.{length-signature, shows_key, length-u32str}
use Rattle.st_lms.specs.Signature.{public_in, public_of}
use Rattle.st_lms.specs.Tree.{PublicKey, IsPublicKey, public_text, SecretKey, IsSecretKey}
use Rattle.st_lms.specs.OneTime.{IsOneTimeType, height, chains}
use Rattle.st_lms.specs.Strings.{u32str}
use Rattle.st_vault.proofs.ImageLemmas.{known_child}
use Rattle.st_vault.specs.Image.{child_of, VaultValue, count_of, left_of}
use Rattle.st_hss.specs.Public.{hss_public_in, hss_public_text, IsHssSignature}
use Rattle.st_hss.specs.declared.public.HssPublic.{HssPublic}
use Rattle.st_hss.specs.declared.public.HssRefused.{HssRefused}
use Rattle.st_hss.specs.declared.public.HssRefused.TheVariants.{BadLength, BadLevels, BadType}
use Rattle.st_hss.specs.inside.Parts.{PartsHold}

pub read-bad_length : (bytes : List ℕ) → length bytes ≢ 60 → hss_public_in bytes ≡ Err BadLength
unfolding hss_public_in
read-bad_length bytes wrong = rw (ne_eqb (length bytes) 60 wrong)

pub read-bad_levels : (bytes : List ℕ) → length bytes ≡ 60 → take 4 bytes ≢ u32str 2 → hss_public_in bytes ≡ Err BadLevels
unfolding hss_public_in
read-bad_levels bytes long wrong =
    let test = false_from_ne_true (bytes_eq (take 4 bytes) (u32str 2)) (λ e. wrong ((bytes_decides (take 4 bytes) (u32str 2)).0 e)) in
    rw (long, test)

-- the HSS key with this top key, if any
abbrev pub with_top : Option PublicKey → Result HssPublic HssRefused
with_top top = ok_or top BadType >>= (λ top. Ok (record { top = top }))

pub read-top : (bytes : List ℕ) (top : Option PublicKey) → length bytes ≡ 60 → take 4 bytes ≡ u32str 2 → top ≡ public_in (drop 4 bytes)
    → hss_public_in bytes ≡ with_top top
unfolding hss_public_in
read-top bytes top long levels is =
    rw (long, (bytes_decides (take 4 bytes) (u32str 2)).1 levels, sym is)

-- a key is read from its own text
pub read-text : (public : HssPublic) → IsPublicKey public.top → hss_public_in (hss_public_text public) ≡ Ok public
unfolding hss_public_text
read-text public known =
    let text = public_text public.top in
    let long : length (u32str 2 ++ text) ≡ 60 =
    omega (arith, length-append (u32str 2) text, length-u32str 2, (shows_key public.top text known refl).long) in
    read-top (u32str 2 ++ text) (Some public.top) long (take_at (u32str 2) text 4 (length-u32str 2))
    (sym (ap public_in (drop_at (u32str 2) text 4 (length-u32str 2)) ∙ public_in-public_text public.top known))

-- ---- Public keys of children, and their leaves.

-- the text of a key has 56 bytes
pub length-public_in : (text : List ℕ) (key : PublicKey) → public_in text ≡ Some key → length text ≡ 56
length-public_in text key is =
    elim (eqb_tells (length text) 56) [
      | inl same ↦ same.1
      | inr other ↦ let none = public_in-none text (λ long _ _. other.1 long) in absurd (cc)
    ]

pub known-child : (secret : SecretKey) (n : ℕ) → IsOneTimeType secret.ots → IsPublicKey (public_of (child_of secret n))
unfolding public_of
known-child secret n known =
    let child = known_child secret n known in
    record { ots = child.ots; tree = child.tree; id = child.id; root = length-node _ _ 1 }

-- a child has 32 leaves
pub leaf_of_child : (secret : SecretKey) (n q : ℕ) → q < 32 → q < 2 ^ height (child_of secret n).tree
unfolding child_of height
leaf_of_child secret n q below = below

pub known_from_child : (secret child : SecretKey) (n : ℕ) → child ≡ child_of secret n → IsSecretKey child → IsOneTimeType secret.ots
unfolding child_of
known_from_child secret child n is known = (rw is at known).ots

-- ---- A signature and its parts.

-- a signature split into its four parts, the second of n bytes
pub record Cut (n : ℕ) (signature : List ℕ) : Type 0 where
  pub a : List ℕ
  pub b : List ℕ
  pub c : List ℕ
  pub d : List ℕ
  pub whole : signature ≡ a ++ b ++ c ++ d
  pub a_long : length a ≡ 4
  pub b_long : length b ≡ n
  pub c_long : length c ≡ 56

length-parts : (a b c d : List ℕ) → length (a ++ b ++ c ++ d) ≡ length a + length b + length c + length d
length-parts a b c d = omega (arith, length-append (a ++ b ++ c) d, length-append (a ++ b) c, length-append a b)

-- two splits are the same
same_parts : {n : ℕ} {signature : List ℕ} (one other : Cut n signature)
    → (one.a ≡ other.a) × (one.b ≡ other.b) × (one.c ≡ other.c) × (one.d ≡ other.d)
same_parts one other =
    let whole : one.a ++ one.b ++ one.c ++ one.d ≡ other.a ++ other.b ++ other.c ++ other.d = sym one.whole ∙ other.whole in
    let last : length one.d ≡ length other.d = omega (
      arith,
      ap length whole,
      length-parts one.a one.b one.c one.d,
      length-parts other.a other.b other.c other.d,
      one.a_long,
      one.b_long,
      one.c_long,
      other.a_long,
      other.b_long,
      other.c_long,
    ) in
    let four = same_cut (one.a ++ one.b ++ one.c) one.d (other.a ++ other.b ++ other.c) other.d whole last in
    let three = same_cut (one.a ++ one.b) one.c (other.a ++ other.b) other.c four.front_is (one.c_long ∙ sym other.c_long) in
    let two = same_cut one.a one.b other.a other.b three.front_is (one.b_long ∙ sym other.b_long) in
    (two.front_is, two.back_is, three.back_is, four.back_is)

-- the size of a signature under a key
abbrev pub signature_len : PublicKey → ℕ
signature_len key = 44 + 32 * chains key.ots + 32 * height key.tree

-- a signature has this split
abbrev cut_of : (public : HssPublic) (message signature : List ℕ) → IsHssSignature public message signature → Cut (signature_len public.top) signature
cut_of public message signature is = record {
  a = u32str 1;
  b = is.key_signature;
  c = is.key_text;
  d = is.message_signature;
  whole = is.whole;
  a_long = length-u32str 1;
  b_long = length-signature public.top is.key_text is.key_signature is.signs_key;
  c_long = length-public_in is.key_text is.lower is.lower_is;
}

-- so it has at least this many bytes
pub least : (public : HssPublic) (message signature : List ℕ) → IsHssSignature public message signature
    → 60 + signature_len public.top ≤ length signature
least public message signature is =
    let cut = cut_of public message signature is in
    omega (arith, ap length cut.whole, length-parts cut.a cut.b cut.c cut.d, cut.a_long, cut.b_long, cut.c_long)

-- a signature makes the parts of a split hold
pub parts_hold_of : (public : HssPublic) (message signature : List ℕ) (cut : Cut (signature_len public.top) signature)
    → IsHssSignature public message signature → PartsHold public message cut.a cut.b cut.c cut.d
parts_hold_of public message signature cut is =
    let same : (cut.a ≡ u32str 1) × (cut.b ≡ is.key_signature) × (cut.c ≡ is.key_text) × (cut.d ≡ is.message_signature)
    = same_parts cut (cut_of public message signature is) in
    record {
      lower = is.lower;
      one = same.0;
      lower_is = rw same.2 is.lower_is;
      signs_key = rw (same.1, same.2) is.signs_key;
      signs_message = rw same.3 is.signs_message;
    }

-- parts that hold make a signature
pub signature_of_parts : (public : HssPublic) (message signature : List ℕ) (cut : Cut (signature_len public.top) signature)
    → PartsHold public message cut.a cut.b cut.c cut.d → IsHssSignature public message signature
signature_of_parts public message signature cut hold = record {
  key_signature = cut.b;
  key_text = cut.c;
  message_signature = cut.d;
  lower = hold.lower;
  whole = cut.whole ∙ ap (λ one. one ++ cut.b ++ cut.c ++ cut.d) hold.one;
  lower_is = hold.lower_is;
  signs_key = hold.signs_key;
  signs_message = hold.signs_message;
}

-- ---- The counter that a signature uses.

-- the next counter of a vault with 1,024, from the number left
pub next_of_left : (vault : VaultValue) (left : ℕ) → vault.key.tree ≡ 6 → vault.next ≤ count_of vault.key → left ≡ left_of vault
    → 1024 - left ≡ vault.next
unfolding height
next_of_left vault left six within is =
    let most : vault.next ≤ 1024 = rw six at within in
    let left_is : left ≡ 1024 - vault.next = rw six at is in
    omega arith
