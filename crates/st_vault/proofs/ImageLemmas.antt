-- The header of a key, written and read.
use Rattle.std.proofs.Common.{◌≡◌, ◌∙◌, ℕ, ◌<◌, ◌^◌, List, ◌++◌, length, take, drop, ap, sym, refl, arith, append_assoc, length-append, ◌≢◌, ◌+◌, ◌≤◌, Bool, true, false, ◌==◌, ◌&&◌, nat_le, cond, get_or, ◌⊎◌, inl, inr, ⊎_elim, zero, suc, max, [], ◌∷◌, replicate, subst}
use Rattle.std.proofs.lemmas.Bool.{and_from, and_left, and_parts, and_right, cond-false, cond-true, eq-eqb, eqb-true, false_from_ne_true, le-leb, leb-true, lt-leb, ne_eqb, cond_both, eqb-false}
use Rattle.std.proofs.lemmas.List.{drop-drop, drop-take, drop_at, take-take, take_at, append-nil, length-take-le, take_more}
use Rattle.std.specs.List.{Contains}
use Rattle.sha2.proofs.Facts256.{length-sha256}
use Rattle.st_lms.proofs.KeyLemmas.{length-u32str, str_to_u32-u32str}
use Rattle.st_lms.specs.Signature.{is_one_time_type, is_tree_type}
use Rattle.st_lms.specs.Tree.{SecretKey, IsSecretKey}
use Rattle.st_lms.specs.OneTime.{IsOneTimeType, IsTreeType}
use Rattle.st_lms.specs.Strings.{u32str, str_to_u32}
use Rattle.st_vault.specs.Image.{child_hash, child_of, header_of, key_in, key_of_header, is_formatted, is_whole, kind_of, map_in, open_gate, nonzero_from, one_past, count_of}
use Rattle.st_vault.specs.Image.Kind.{Blank, Damaged, Whole}

-- the first 56 bytes determine the key
pub key_of_header-take : (header : List ℕ) → key_of_header (take 56 header) ≡ key_of_header header
unfolding key_of_header
key_of_header-take header =
    let ots : take 4 (take 56 header) ≡ take 4 header = take-take 4 56 header (omega arith) in
    let tree : take 4 (drop 4 (take 56 header)) ≡ take 4 (drop 4 header) = ap (take 4) (drop-take 4 52 header) ∙ take-take 4 52 (drop 4 header) (omega arith) in
    let id : take 16 (drop 8 (take 56 header)) ≡ take 16 (drop 8 header) = ap (take 16) (drop-take 8 48 header) ∙ take-take 16 48 (drop 8 header) (omega arith) in
    let seed : take 32 (drop 24 (take 56 header)) ≡ take 32 (drop 24 header) = ap (take 32) (drop-take 24 32 header) ∙ take-take 32 32 (drop 24 header) (omega arith) in
    rw (ots, tree, id, seed) refl

-- two images with the same first 57 bytes have the same key
pub same_key : (a b : List ℕ) → take 57 a ≡ take 57 b → key_in a ≡ key_in b
same_key a b same =
    let heads : take 56 (drop 1 a) ≡ take 56 (drop 1 b) = sym (drop-take 1 56 a) ∙ ap (drop 1) same ∙ drop-take 1 56 b in
    sym (key_of_header-take (drop 1 a)) ∙ ap key_of_header heads ∙ key_of_header-take (drop 1 b)

pub length-header_of : (key : SecretKey) → IsSecretKey key → length (header_of key) ≡ 56
unfolding header_of
length-header_of key known =
    let ots = u32str key.ots in
    let tree = u32str key.tree in
    omega (arith, length-append (ots ++ tree ++ key.id) key.seed, length-append (ots ++ tree) key.id, length-append ots tree, length-u32str key.ots, length-u32str key.tree, known.id, known.seed)

-- a written header is read again
pub key_of_header-header_of : (key : SecretKey) (rest : List ℕ) → IsSecretKey key → key_of_header (header_of key ++ rest) ≡ key
unfolding key_of_header header_of
key_of_header-header_of key rest known =
    let ots = u32str key.ots in
    let tree = u32str key.tree in
    let text = ots ++ tree ++ key.id ++ key.seed ++ rest in
    let nested : text ≡ ots ++ (tree ++ (key.id ++ (key.seed ++ rest))) = simp append_assoc in
    let behind_ots : drop 4 text ≡ tree ++ (key.id ++ (key.seed ++ rest)) = ap (drop 4) nested ∙ drop_at ots _ 4 (length-u32str key.ots) in
    let behind_tree : drop 8 text ≡ key.id ++ (key.seed ++ rest) = sym (drop-drop 4 4 text) ∙ ap (drop 4) behind_ots ∙ drop_at tree _ 4 (length-u32str key.tree) in
    let behind_id : drop 24 text ≡ key.seed ++ rest = sym (drop-drop 16 8 text) ∙ ap (drop 16) behind_tree ∙ drop_at key.id _ 16 known.id in
    let ots_small : key.ots < 2 ^ 32 = omega (arith, known.ots) in
    let tree_small : key.tree < 2 ^ 32 = omega (arith, known.tree) in
    let ots_is : str_to_u32 (take 4 text) ≡ key.ots = ap (λ l. str_to_u32 (take 4 l)) nested ∙ ap str_to_u32 (take_at ots _ 4 (length-u32str key.ots)) ∙ str_to_u32-u32str key.ots ots_small in
    let tree_is : str_to_u32 (take 4 (drop 4 text)) ≡ key.tree = ap (λ l. str_to_u32 (take 4 l)) behind_ots ∙ ap str_to_u32 (take_at tree _ 4 (length-u32str key.tree)) ∙ str_to_u32-u32str key.tree tree_small in
    let id_is : take 16 (drop 8 text) ≡ key.id = ap (take 16) behind_tree ∙ take_at key.id _ 16 known.id in
    let seed_is : take 32 (drop 24 text) ≡ key.seed = ap (take 32) behind_id ∙ take_at key.seed rest 32 known.seed in
    rw (ots_is, tree_is, id_is, seed_is) refl

-- ---- The kind of an image, by its bytes.

-- ---- the gate

-- the gate is open, over enough bytes
pub record IsOpen (image : List ℕ) : Type 0 where
  pub long : 64 ≤ length image
  pub gate : get_or image 0 0 ≡ open_gate

pub formatted-open : (image : List ℕ) → IsOpen image → is_formatted image ≡ true
formatted-open image is = and_from (nat_le 64 (length image)) (get_or image 0 0 == open_gate) (le-leb _ _ is.long) (eq-eqb _ _ is.gate)

pub open-formatted : (image : List ℕ) → is_formatted image ≡ true → IsOpen image
open-formatted image is =
    let parts = and_parts (nat_le 64 (length image)) (get_or image 0 0 == open_gate) is in
    record { long = leb-true _ _ parts.0; gate = eqb-true _ _ parts.1 }

pub unformatted-short : (image : List ℕ) → length image < 64 → is_formatted image ≡ false
unformatted-short image short = and_left (nat_le 64 (length image)) (get_or image 0 0 == open_gate) (lt-leb _ _ short)

pub unformatted-shut : (image : List ℕ) → get_or image 0 0 ≢ open_gate → is_formatted image ≡ false
unformatted-shut image shut = and_right (nat_le 64 (length image)) (get_or image 0 0 == open_gate) (ne_eqb _ _ shut)

-- ---- the kind

-- properties of the header and the length of a vault
pub record IsVault (key : SecretKey) (len : ℕ) : Type 0 where
  pub ots : IsOneTimeType key.ots
  pub tree : IsTreeType key.tree
  pub long : 64 + count_of key ≤ len

pub whole-vault : (key : SecretKey) (len : ℕ) → IsVault key len → is_whole key len ≡ true
whole-vault key len is =
    and_from (is_one_time_type key.ots && is_tree_type key.tree) (nat_le (64 + count_of key) len)
    (and_from (is_one_time_type key.ots) (is_tree_type key.tree)
    (and_from (nat_le 1 key.ots) (nat_le key.ots 4) (le-leb _ _ is.ots.0) (le-leb _ _ is.ots.1))
    (and_from (nat_le 5 key.tree) (nat_le key.tree 6) (le-leb _ _ is.tree.0) (le-leb _ _ is.tree.1)))
    (le-leb _ _ is.long)

pub vault-whole : (key : SecretKey) (len : ℕ) → is_whole key len ≡ true → IsVault key len
vault-whole key len is =
    let parts = and_parts (is_one_time_type key.ots && is_tree_type key.tree) (nat_le (64 + count_of key) len) is in
    let types = and_parts (is_one_time_type key.ots) (is_tree_type key.tree) parts.0 in
    let ots = and_parts (nat_le 1 key.ots) (nat_le key.ots 4) types.0 in
    let tree = and_parts (nat_le 5 key.tree) (nat_le key.tree 6) types.1 in
    record {
      ots = (leb-true _ _ ots.0, leb-true _ _ ots.1);
      tree = (leb-true _ _ tree.0, leb-true _ _ tree.1);
      long = leb-true _ _ parts.1;
    }

pub kind-blank : (image : List ℕ) → is_formatted image ≡ false → kind_of image ≡ Blank
unfolding kind_of
kind-blank image isnt = cond-false (is_formatted image) _ Blank isnt

pub kind-damaged : (image : List ℕ) → is_formatted image ≡ true → is_whole (key_in image) (length image) ≡ false → kind_of image ≡ Damaged
unfolding kind_of
kind-damaged image is isnt = cond-true (is_formatted image) _ Blank is ∙ cond-false (is_whole (key_in image) (length image)) _ Damaged isnt

-- an image is a vault's, in parts
pub record Parts (image : List ℕ) : Type 0 where
  pub opened : IsOpen image
  pub vault : IsVault (key_in image) (length image)

pub kind-whole : (image : List ℕ) → Parts image → kind_of image ≡ Whole (key_in image) (map_in (count_of (key_in image)) image)
unfolding kind_of
kind-whole image parts =
    cond-true (is_formatted image) _ Blank (formatted-open image parts.opened)
    ∙ cond-true (is_whole (key_in image) (length image)) _ Damaged (whole-vault (key_in image) (length image) parts.vault)

-- the key and the map of a vault's image
pub record IsWholeOf (image : List ℕ) (key : SecretKey) (map : List ℕ) : Type 0 where
  pub parts : Parts image
  pub key_is : key_in image ≡ key
  pub map_is : map_in (count_of (key_in image)) image ≡ map

pub whole-kind : (image : List ℕ) (key : SecretKey) (map : List ℕ) → kind_of image ≡ Whole key map → IsWholeOf image key map
unfolding kind_of
whole-kind image key map kind = by_tests (is_formatted image) (is_whole (key_in image) (length image)) refl refl kind
  where
    by_tests : (opened whole : Bool) → is_formatted image ≡ opened → is_whole (key_in image) (length image) ≡ whole
        → (cond opened (cond whole (Whole (key_in image) (map_in (count_of (key_in image)) image)) Damaged) Blank) ≡ Whole key map
        → IsWholeOf image key map
    by_tests false whole is_open is_vault same = absurd (cc)
    by_tests true false is_open is_vault same = absurd (cc)
    by_tests true true is_open is_vault same = record {
      parts = record { opened = open-formatted image is_open; vault = vault-whole (key_in image) (length image) is_vault };
      key_is = cc;
      map_is = cc;
    }

-- an image that is formatted is not blank
pub not_blank : (image : List ℕ) → is_formatted image ≡ true → kind_of image ≢ Blank
unfolding kind_of
not_blank image is blank = by_test (is_whole (key_in image) (length image)) (sym (cond-true (is_formatted image) _ Blank is) ∙ blank)
  where
    by_test : (whole : Bool) → cond whole (Whole (key_in image) (map_in (count_of (key_in image)) image)) Damaged ≡ Blank → ⊥
    by_test true same = cc
    by_test false same = cc

-- and a blank one is not formatted
pub blank-unformatted : (image : List ℕ) → kind_of image ≡ Blank → is_formatted image ≡ false
blank-unformatted image blank = false_from_ne_true (is_formatted image) (λ is. not_blank image is blank)

-- ---- The places of nonzero bytes in a map, and the next one after them.

-- ---- members of a list

first_in : (n : ℕ) (ns : List ℕ) → Contains (n ∷ ns) n
first_in n ns = (0, omega arith, refl)

later_in : (n m : ℕ) (ns : List ℕ) → Contains ns m → Contains (n ∷ ns) m
later_in n m ns there = (suc there.0, omega (arith, there.1), there.2)

first_or_later : (n m : ℕ) (ns : List ℕ) → Contains (n ∷ ns) m → (n ≡ m) ⊎ Contains ns m
first_or_later n m ns there = at_place there.0 there.1 there.2
  where
    at_place : (k : ℕ) → k < length (n ∷ ns) → get_or (n ∷ ns) k m ≡ m → (n ≡ m) ⊎ Contains ns m
    at_place zero within is = inl is
    at_place (suc k) within is = inr (k, omega (arith, within), is)

pub none_in : (m : ℕ) → Contains [] m → ⊥
none_in m there = omega (arith, there.1)

-- ---- nonzero bytes

pub nonzero-marked : (place : ℕ) (map : List ℕ) (k : ℕ) → k < length map → get_or map k 0 ≢ 0 → Contains (nonzero_from place map) (place + k)
nonzero-marked place [] k within mark = absurd (omega arith)
nonzero-marked place (byte ∷ map) zero within mark =
    let isnt : (byte == 0) ≡ false = ne_eqb byte 0 mark in
    let at : place ≡ place + 0 = omega arith in
    rw isnt (subst (Contains (place ∷ nonzero_from (place + 1) map)) at (first_in place (nonzero_from (place + 1) map)))
nonzero-marked place (byte ∷ map) (suc k) within mark =
    let at : place + 1 + k ≡ place + suc k = omega arith in
    let rest = nonzero_from (place + 1) map in
    let there : Contains rest (place + suc k) = subst (Contains rest) at (nonzero-marked (place + 1) map k (omega (arith, within)) mark) in
    cond_both (byte == 0) rest (place ∷ rest) (λ l. Contains l (place + suc k)) (λ _. there) (λ _. later_in place (place + suc k) rest there)

-- a place where a byte is not 0
pub record IsMarked (place : ℕ) (map : List ℕ) (q : ℕ) : Type 0 where
  pub at : ℕ
  pub is : q ≡ place + at
  pub within : at < length map
  pub mark : get_or map at 0 ≢ 0

pub marked-nonzero : (place : ℕ) (map : List ℕ) (q : ℕ) → Contains (nonzero_from place map) q → IsMarked place map q
marked-nonzero place [] q there = absurd (none_in q there)
marked-nonzero place (byte ∷ map) q there = by_test (marked-nonzero (place + 1) map q) (byte == 0) refl there
  where
    rest : List ℕ
    rest = nonzero_from (place + 1) map

    behind : IsMarked (place + 1) map q → IsMarked place (byte ∷ map) q
    behind m = record { at = suc m.at; is = omega (arith, m.is); within = omega (arith, m.within); mark = m.mark }

    by_test : (Contains rest q → IsMarked (place + 1) map q) → (is_zero : Bool) → (byte == 0) ≡ is_zero
        → Contains (cond is_zero rest (place ∷ rest)) q → IsMarked place (byte ∷ map) q
    by_test more true zero_is there = behind (more there)
    by_test more false isnt there = ⊎_elim
        (λ here. record { at = 0; is = omega (arith, here); within = omega arith; mark = eqb-false byte 0 isnt })
        (λ later. behind (more later))
        (first_or_later place q rest there)

pub nonzero-zeros : (place n : ℕ) → nonzero_from place (replicate n 0) ≡ []
nonzero-zeros place zero = refl
nonzero-zeros place (suc n) = nonzero-zeros (place + 1) n

nonzero-push : (place : ℕ) (map : List ℕ) (byte : ℕ)
    → nonzero_from place (map ++ byte ∷ []) ≡ nonzero_from place map ++ cond (byte == 0) [] ((place + length map) ∷ [])
nonzero-push place [] byte = rw (place_is) refl
  where
    place_is : place + 0 ≡ place
    place_is = omega arith
nonzero-push place (first ∷ map) byte =
    let next_is : place + 1 + length map ≡ place + suc (length map) = omega arith in
    by_test (first == 0) (nonzero-push (place + 1) map byte ∙ ap (λ n. nonzero_from (place + 1) map ++ cond (byte == 0) [] (n ∷ [])) next_is)
  where
    by_test : (is_zero : Bool)
        → nonzero_from (place + 1) (map ++ byte ∷ []) ≡ nonzero_from (place + 1) map ++ cond (byte == 0) [] ((place + suc (length map)) ∷ [])
        → cond is_zero (nonzero_from (place + 1) (map ++ byte ∷ [])) (place ∷ nonzero_from (place + 1) (map ++ byte ∷ []))
        ≡ cond is_zero (nonzero_from (place + 1) map) (place ∷ nonzero_from (place + 1) map) ++ cond (byte == 0) [] ((place + suc (length map)) ∷ [])
    by_test true more = more
    by_test false more = ap (λ l. place ∷ l) more

-- ---- one past the greatest

pub one_past-above : (ns : List ℕ) (q : ℕ) → Contains ns q → q < one_past ns
one_past-above [] q there = absurd (none_in q there)
one_past-above (n ∷ ns) q there =
    ⊎_elim (λ here. omega (arith, here)) (λ later. omega (arith, one_past-above ns q later)) (first_or_later n q ns there)

pub one_past-least : (ns : List ℕ) (m : ℕ) → ((q : ℕ) → Contains ns q → q < m) → one_past ns ≤ m
one_past-least [] m below = omega arith
one_past-least (n ∷ ns) m below =
    omega (arith, below n (first_in n ns), one_past-least ns m (λ q there. below q (later_in n q ns there)))

-- counters spent up to a last one
pub one_past-last : (ns : List ℕ) (last : ℕ) → Contains ns last → ((q : ℕ) → Contains ns q → q < last + 1) → one_past ns ≡ last + 1
one_past-last ns last there below = omega (arith, one_past-above ns last there, one_past-least ns (last + 1) below)

one_past-push : (ns : List ℕ) (n : ℕ) → one_past (ns ++ n ∷ []) ≡ max (one_past ns) (n + 1)
one_past-push [] n = omega arith
one_past-push (m ∷ ns) n = omega (arith, one_past-push ns n)

-- one more byte of a map
pub next_more : (map : List ℕ) (at : ℕ) → at < length map → one_past (nonzero_from 0 (take at map)) ≤ at
    → one_past (nonzero_from 0 (take (at + 1) map)) ≡ cond (get_or map at 0 == 0) (one_past (nonzero_from 0 (take at map))) (at + 1)
next_more map at within small =
    let byte = get_or map at 0 in
    let before = nonzero_from 0 (take at map) in
    let long : length (take at map) ≡ at = length-take-le at map (omega arith) in
    let all : nonzero_from 0 (take (at + 1) map) ≡ before ++ cond (byte == 0) [] ((0 + length (take at map)) ∷ [])
    = ap (nonzero_from 0) (take_more map at 0 within) ∙ nonzero-push 0 (take at map) byte in
    ap one_past all ∙ by_test (byte == 0) (0 + length (take at map)) (omega (arith, long))
  where
    by_test : (is_zero : Bool) (n : ℕ) → n ≡ at
        → one_past (nonzero_from 0 (take at map) ++ cond is_zero [] (n ∷ [])) ≡ cond is_zero (one_past (nonzero_from 0 (take at map))) (at + 1)
    by_test true n is = ap one_past (append-nil (nonzero_from 0 (take at map)))
    by_test false n is = omega (arith, one_past-push (nonzero_from 0 (take at map)) n, is, small)

-- ---- For crates above: a child of a key is a key.

-- a child of a key of a known one-time type satisfies the rules of a key
pub known_child : (key : SecretKey) (n : ℕ) → IsOneTimeType key.ots → IsSecretKey (child_of key n)
unfolding child_of child_hash
known_child key n known = record {
  ots = known;
  tree = (omega arith, omega arith);
  id = length-take-le 16 _ (omega (arith, length-sha256));
  seed = length-sha256 _;
}
