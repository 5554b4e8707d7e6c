-- The values that a secret signs give its public key.
use Rattle.std.proofs.Common.{◌≡◌, ℕ, zero, suc, ◌+◌, ◌-◌, ◌*◌, ◌<◌, List, length, sym, ap, ◌∙◌, arith, ◌/◌, ◌%◌, ◌^◌, ◌++◌, take, drop, inl, inr, refl, ◌↔◌, IsTrue, ◌≤◌, Bool, true, false, ◌==◌, bytes_eq, nat_le, nat_lt, Some, None}
use Rattle.std.proofs.lemmas.Bool.{cases_lt, and_parts, cond-false, eqb-true, eq-eqb, false_from_ne_true}
use Rattle.std.proofs.lemmas.Bool.Decides.{nat_tests}
use Rattle.std.proofs.lemmas.List.{take_at, drop_at, length-append}
use Rattle.std.proofs.lemmas.Nat.{shr-shr, div-mul-add}
use Rattle.std.specs.Cmp.Lexicographic.{bytes_decides}
use Rattle.sha2.proofs.Facts256.{length-sha256}
use Rattle.st_lms.proofs.ChainLemmas.{chain-add, coef-greatest, length-joined, value_at-joined, joined-same}
use Rattle.st_lms.proofs.KeyLemmas.{cut-parts_in, length-signature, parts_hold_of, signature_of_parts, key_in, shows_key, AreBytes}
use Rattle.st_lms.specs.Signature.{is_one_time_type, is_tree_type, public_in, is_signature, SignatureParts, parts_in, parts_hold, IsSignature, root_of, public_of, randomizer_of, signature_of}
use Rattle.st_lms.specs.Tree.{SecretKey, PublicKey, IsPublicKey, public_text, one_time_type_in, tree_type_in, leaf, inner, node, parent, sibling, node_above, path_from}
use Rattle.st_lms.specs.OneTime.{chain, chain_step, secret_element, signed_value, signed_values, end_of_secret, end_of_value, key_of_ends, one_time_public, candidate_key, message_hash, checked, width, chains, greatest_digit, height, IsOneTimeType, IsTreeType}
use Rattle.st_lms.specs.Strings.{coef, u32str, str_to_u32}
use Rattle.st_lms.specs.inside.Parts.{PartsHold}

-- each value of a chain has 32 bytes
pub length-secret_element : (id : List ℕ) (q i : ℕ) (seed : List ℕ) → length (secret_element id q i seed) ≡ 32
unfolding secret_element
length-secret_element id q i seed = length-sha256 _

length-chain : (id : List ℕ) (q i j n : ℕ) (value : List ℕ) → length value ≡ 32 → length (chain id q i j n value) ≡ 32
unfolding chain chain_step
length-chain id q i j zero value h = h
length-chain id q i j (suc n) value h = length-sha256 _

length-signed_value : (t : ℕ) (id : List ℕ) (q : ℕ) (seed digits : List ℕ) (i : ℕ)
    → length (signed_value t id q seed digits i) ≡ 32
unfolding signed_value
length-signed_value t id q seed digits i =
    length-chain id q i 0 (coef digits i (width t)) (secret_element id q i seed) (length-secret_element id q i seed)

pub length-signed_values : (t : ℕ) (id : List ℕ) (q : ℕ) (seed digits : List ℕ)
    → length (signed_values t id q seed digits) ≡ 32 * chains t
unfolding signed_values
length-signed_values t id q seed digits =
    length-joined (signed_value t id q seed digits) (length-signed_value t id q seed digits) (chains t)

-- the rest of a chain leads to its end
end_of_value-signed : (t : ℕ) (id : List ℕ) (q : ℕ) (seed digits : List ℕ) (i : ℕ) → i < chains t →
    end_of_value t id q digits (signed_values t id q seed digits) i ≡ end_of_secret t id q seed i
unfolding end_of_value end_of_secret signed_values signed_value
end_of_value-signed t id q seed digits i h =
    let value = value_at-joined (signed_value t id q seed digits) (length-signed_value t id q seed digits) (chains t) i h in
    let digit = coef digits i (width t) in
    let rest = greatest_digit t - digit in
    let element = secret_element id q i seed in
    let start : 0 + digit ≡ digit = omega arith in
    let whole : digit + rest ≡ greatest_digit t = omega (arith, coef-greatest digits i t) in
    let parts = chain-add id q i 0 digit rest element in
    ap (chain id q i digit rest) value
    ∙ sym (rw start at parts)
    ∙ ap (λ n. chain id q i 0 n element) whole

-- the key computed from a secret's values is its public key
pub candidate_key-signed : (t : ℕ) (id : List ℕ) (q : ℕ) (seed digits : List ℕ) →
    candidate_key t id q digits (signed_values t id q seed digits) ≡ one_time_public t id q seed
unfolding candidate_key one_time_public key_of_ends
candidate_key-signed t id q seed digits =
    let same = joined-same (end_of_value t id q digits (signed_values t id q seed digits)) (end_of_secret t id q seed) (chains t)
    (end_of_value-signed t id q seed digits) in
    rw same

-- ---- A secret's signature is a signature under its public key.

-- nodes have 32 bytes, and a path has one node for each level
pub length-node : (secret : SecretKey) (n r : ℕ) → length (node secret n r) ≡ 32
unfolding node leaf inner
length-node secret zero r = length-sha256 _
length-node secret (suc n) r = length-sha256 _

pub length-path_from : (secret : SecretKey) (n r m : ℕ) → length (path_from secret n r m) ≡ 32 * m
unfolding path_from
length-path_from secret n r zero = refl
length-path_from secret n r (suc m) =
    let rest : length (path_from secret (suc n) (r / 2) m) ≡ 32 * m = length-path_from secret (suc n) (r / 2) m in
    omega (arith, rest, length-node secret n (sibling r), length-append (node secret n (sibling r)) (path_from secret (suc n) (r / 2) m))

-- a node and its sibling give the node above them
pub parent-sibling : (secret : SecretKey) (n r : ℕ) →
    parent secret.id r (node secret n r) (node secret n (sibling r)) ≡ node secret (suc n) (r / 2)
unfolding parent sibling node
parent-sibling secret n r =
    elim (cases_lt (r % 2) 1) [
      | inl below ↦
          let even : r % 2 ≡ 0 = omega arith in
          let whole : 2 * (r / 2) ≡ r = omega arith in
          rw (even, whole)
      | inr past ↦
          let odd : r % 2 ≡ 1 = omega arith in
          let right : 2 * (r / 2) + 1 ≡ r = omega arith in
          let left : 2 * (r / 2) ≡ r - 1 = omega arith in
          rw (odd, right, left)
    ]

-- the way up from a node
pub node_above-path_from : (secret : SecretKey) (n r m : ℕ) →
    node_above secret.id r (node secret n r) (path_from secret n r m) m ≡ node secret (n + m) (r / 2 ^ m)
unfolding node_above path_from
node_above-path_from secret n r zero =
    let level : n + 0 ≡ n = omega arith in
    let same : r / 1 ≡ r = omega arith in
    rw (level, same)
node_above-path_from secret n r (suc m) =
    let other = node secret n (sibling r) in
    let rest = path_from secret (suc n) (r / 2) m in
    let first : take 32 (other ++ rest) ≡ other = take_at other rest 32 (length-node secret n (sibling r)) in
    let left : drop 32 (other ++ rest) ≡ rest = drop_at other rest 32 (length-node secret n (sibling r)) in
    let up : parent secret.id r (node secret n r) (take 32 (other ++ rest)) ≡ node secret (suc n) (r / 2) =
    ap (parent secret.id r (node secret n r)) first ∙ parent-sibling secret n r in
    let levels : suc n + m ≡ n + suc m = omega arith in
    let more : 1 + m ≡ suc m = omega arith in
    let halves : r / 2 / 2 ^ m ≡ r / 2 ^ suc m = shr-shr r 1 m ∙ ap (λ k. r / 2 ^ k) more in
    ap (λ at. node_above secret.id (r / 2) at (drop 32 (other ++ rest)) m) up
    ∙ ap (λ path. node_above secret.id (r / 2) (node secret (suc n) (r / 2)) path m) left
    ∙ node_above-path_from secret (suc n) (r / 2) m
    ∙ ap (λ k. node secret k (r / 2 / 2 ^ m)) levels
    ∙ ap (λ k. node secret (n + suc m) k) halves

leaf-node : (secret : SecretKey) (q : ℕ) →
    leaf secret.id (2 ^ height secret.tree + q) (one_time_public secret.ots secret.id q secret.seed) ≡ node secret 0 (2 ^ height secret.tree + q)
unfolding node
leaf-node secret q =
    let place : 2 ^ height secret.tree + q - 2 ^ height secret.tree ≡ q = omega arith in
    rw place

-- the digits that a secret signs
abbrev digits_of : SecretKey → ℕ → List ℕ → List ℕ
digits_of secret q message = checked secret.ots (message_hash secret.id q (randomizer_of secret q) message)

-- the parts of a secret's signature give its root
root_of-signed : (secret : SecretKey) (q : ℕ) (message : List ℕ) → q < 2 ^ height secret.tree →
    root_of (public_of secret) q (randomizer_of secret q)
    (signed_values secret.ots secret.id q secret.seed (digits_of secret q message))
    (path_from secret 0 (2 ^ height secret.tree + q) (height secret.tree)) message
    ≡ node secret (height secret.tree) 1
unfolding root_of public_of
root_of-signed secret q message h =
    let top = height secret.tree in
    let r = 2 ^ top + q in
    let path = path_from secret 0 r top in
    let key = candidate_key-signed secret.ots secret.id q secret.seed (digits_of secret q message) in
    let none : 0 + top ≡ top = omega arith in
    let one : 1 * 2 ^ top + q ≡ r = omega arith in
    let first : r / 2 ^ top ≡ 1 = ap (λ n. n / 2 ^ top) (sym one) ∙ div-mul-add 1 (2 ^ top) q h in
    ap (λ k. node_above secret.id r (leaf secret.id r k) path top) key
    ∙ ap (λ n. node_above secret.id r n path top) (leaf-node secret q)
    ∙ node_above-path_from secret 0 r top
    ∙ ap (λ n. node secret n (r / 2 ^ top)) none
    ∙ ap (λ n. node secret top n) first

length-randomizer_of : (secret : SecretKey) (q : ℕ) → length (randomizer_of secret q) ≡ 32
unfolding randomizer_of
length-randomizer_of secret q = length-secret_element _ _ _ _

-- a signature of a secret is one under its public key, for each of its one-time keys and each message
pub signature_of-IsSignature : (secret : SecretKey) (q : ℕ) (message : List ℕ) → q < 2 ^ height secret.tree →
    IsSignature (public_of secret) message (signature_of secret q message)
unfolding public_of signature_of
signature_of-IsSignature secret q message h = record {
  q = q;
  randomizer = randomizer_of secret q;
  values = signed_values secret.ots secret.id q secret.seed (digits_of secret q message);
  path = path_from secret 0 (2 ^ height secret.tree + q) (height secret.tree);
  whole = refl;
  randomizer_long = length-randomizer_of secret q;
  values_long = length-signed_values secret.ots secret.id q secret.seed (digits_of secret q message);
  path_long = length-path_from secret 0 (2 ^ height secret.tree + q) (height secret.tree);
  in_tree = h;
  root = root_of-signed secret q message h;
}

-- ---- The key in bytes, and whether bytes are a signature, by computation.

-- ---- tests

one_time_test : (t : ℕ) → IsOneTimeType t → is_one_time_type t ≡ true
one_time_test t h =
    let low : nat_le 1 t ≡ true = grind (arith, nat_tests) in
    let high : nat_le t 4 ≡ true = grind (arith, nat_tests) in
    rw (low, high) refl

tree_test : (t : ℕ) → IsTreeType t → is_tree_type t ≡ true
tree_test t h =
    let low : nat_le 5 t ≡ true = grind (arith, nat_tests) in
    let high : nat_le t 6 ≡ true = grind (arith, nat_tests) in
    rw (low, high) refl

one_time_from_test : (t : ℕ) → is_one_time_type t ≡ true → IsOneTimeType t
one_time_from_test t e =
    let parts = and_parts (nat_le 1 t) (nat_le t 4) e in
    let low : 1 ≤ t = grind (arith, nat_tests) in
    let high : t ≤ 4 = grind (arith, nat_tests) in
    (low, high)

tree_from_test : (t : ℕ) → is_tree_type t ≡ true → IsTreeType t
tree_from_test t e =
    let parts = and_parts (nat_le 5 t) (nat_le t 6) e in
    let low : 5 ≤ t = grind (arith, nat_tests) in
    let high : t ≤ 6 = grind (arith, nat_tests) in
    (low, high)

-- ---- the key in bytes

pub public_in-known : (text : List ℕ) → length text ≡ 56 → IsOneTimeType (one_time_type_in text)
    → IsTreeType (tree_type_in text)
    → public_in text ≡ Some (key_in text)
unfolding public_in one_time_type_in tree_type_in
public_in-known text long ots tree =
    rw (eq-eqb (length text) 56 long, one_time_test (one_time_type_in text) ots, tree_test (tree_type_in text) tree) refl

pub public_in-none : (text : List ℕ)
    → (length text ≡ 56 → IsOneTimeType (one_time_type_in text) → IsTreeType (tree_type_in text) → ⊥)
    → public_in text ≡ None
unfolding public_in
public_in-none text wrong = cond-false _ _ _ (false_from_ne_true _ (λ e.
    let long = and_parts (length text == 56) _ e in
    let types = and_parts (is_one_time_type (one_time_type_in text)) (is_tree_type (tree_type_in text)) long.1 in
    wrong (eqb-true _ _ long.0) (one_time_from_test _ types.0) (tree_from_test _ types.1)))

-- a key is read from its own text
pub public_in-public_text : (key : PublicKey) → IsPublicKey key → public_in (public_text key) ≡ Some key
public_in-public_text key is =
    let shows = shows_key key (public_text key) is refl in
    public_in-known (public_text key) shows.long (rw shows.one_time_type is.ots) (rw shows.tree_type is.tree) ∙ ap Some shows.parts

-- ---- whether bytes are a signature

-- the test of parts that hold
test_of_parts : (public : PublicKey) (message : List ℕ) (parts : SignatureParts) → PartsHold public message parts
    → parts_hold public message parts ≡ true
test_of_parts public message parts hold =
    let root = root_of public (str_to_u32 parts.q) parts.randomizer parts.values parts.path message in
    let ots : bytes_eq parts.ots (u32str public.ots) ≡ true = (bytes_decides parts.ots (u32str public.ots)).1 hold.ots in
    let tree : bytes_eq parts.tree (u32str public.tree) ≡ true = (bytes_decides parts.tree (u32str public.tree)).1 hold.tree in
    let under : str_to_u32 parts.q < 2 ^ height public.tree = hold.in_tree in
    let below : nat_lt (str_to_u32 parts.q) (2 ^ height public.tree) ≡ true = grind (arith, nat_tests) in
    let same : bytes_eq root public.root ≡ true = (bytes_decides root public.root).1 hold.root in
    rw (ots, tree, below, same) refl

parts_from_test : (public : PublicKey) (message : List ℕ) (parts : SignatureParts) → parts_hold public message parts ≡ true
    → PartsHold public message parts
parts_from_test public message parts e =
    let root = root_of public (str_to_u32 parts.q) parts.randomizer parts.values parts.path message in
    let one = and_parts (bytes_eq parts.ots (u32str public.ots)) _ e in
    let two = and_parts (bytes_eq parts.tree (u32str public.tree)) _ one.1 in
    let three = and_parts (nat_lt (str_to_u32 parts.q) (2 ^ height public.tree)) (bytes_eq root public.root) two.1 in
    let test : nat_lt (str_to_u32 parts.q) (2 ^ height public.tree) ≡ true = three.0 in
    let below : str_to_u32 parts.q < 2 ^ height public.tree = grind (arith, nat_tests) in
    record {
      ots = (bytes_decides parts.ots (u32str public.ots)).0 one.0;
      tree = (bytes_decides parts.tree (u32str public.tree)).0 two.0;
      in_tree = below;
      root = (bytes_decides root public.root).0 three.1;
    }

pub is_signature-IsSignature : (public : PublicKey) (message signature : List ℕ)
    → IsSignature public message signature
    → is_signature public message signature ≡ true
unfolding is_signature
is_signature-IsSignature public message signature is =
    let n = 32 * chains public.ots in
    let long = length-signature public message signature is in
    let cut = cut-parts_in n signature (omega (arith, long)) in
    let test = test_of_parts public message (parts_in n signature) (parts_hold_of public message signature (parts_in n signature) cut is) in
    rw (eq-eqb (length signature) (44 + n + 32 * height public.tree) long, test) refl

pub IsSignature-is_signature : (public : PublicKey) (message signature : List ℕ) → AreBytes signature
    → is_signature public message signature ≡ true
    → IsSignature public message signature
unfolding is_signature
IsSignature-is_signature public message signature small e =
    let n = 32 * chains public.ots in
    let tests = and_parts (length signature == 44 + n + 32 * height public.tree) (parts_hold public message (parts_in n signature)) e in
    let long = eqb-true (length signature) (44 + n + 32 * height public.tree) tests.0 in
    let cut = cut-parts_in n signature (omega (arith, long)) in
    signature_of_parts public message signature (parts_in n signature) cut long small (parts_from_test public message (parts_in n signature) tests.1)

-- an answer that is true if and only if the bytes are a signature
pub decided : (public : PublicKey) (message signature : List ℕ) (answer : Bool) → AreBytes signature
    → IsTrue answer ↔ IsSignature public message signature → answer ≡ is_signature public message signature
decided public message signature true small h = sym (is_signature-IsSignature public message signature (h.0 refl))
decided public message signature false small h = no_signature (is_signature public message signature) refl where
  no_signature : (b : Bool) → is_signature public message signature ≡ b → false ≡ b
  no_signature true e = h.1 (IsSignature-is_signature public message signature small e)
  no_signature false e = refl
