-- The order of names by their UTF-16 code units is that of the ranks of their bytes in UTF-8.
use Rattle.std.proofs.Common.{◌≡◌, ℕ, ◌+◌, ◌-◌, ◌/◌, ◌%◌, ◌<◌, ◌≤◌, ◌⊎◌, inl, inr, nat_lt, Bool, true, false, cond, List, [], ◌∷◌, ◌++◌, map, Ordering, Less, Equal, Greater, refl, subst, sym, ap, ap₂, ◌∙◌, arith}
use Rattle.std.specs.Char.Escape.{encode_utf16}
use Rattle.std.specs.Cmp.{nat_cmp_is, ranked}
use Rattle.std.specs.Cmp.Lexicographic.{slice_cmp, nat_list_cmp_total}
use Rattle.std.specs.List.{flat_map}
use Rattle.std.specs.Ordering.{MatchOrdering, nat_cmp, ordering_reverse, ordering_then}
use Rattle.std.specs.Str.{IsUtf8, chars}
use Rattle.std.proofs.lemmas.Bool.{and_parts}
use Rattle.std.proofs.lemmas.Bool.Decides.{nat_tests}
use Rattle.std.proofs.lemmas.List.{map-append}
use Rattle.std.proofs.lemmas.Str.{encodes-chars, scalars-chars}
use Rattle.st_plain.specs.inside.Objects.{rank}
use Rattle.st_plain.specs.Names.{name_cmp}
use lib.Utf8.{encode, encodes, next, scalar, scalars, scalar_cases}

-- ---- lists of numbers, digit by digit

less_first : (a b : ℕ) (x y : List ℕ) → a < b → slice_cmp nat_cmp (a ∷ x) (b ∷ y) ≡ Less
less_first a b x y lt = ap (λ o. ordering_then o (slice_cmp nat_cmp x y)) (sym (nat_cmp_is a b Less lt))

same_first : (a b : ℕ) (x y : List ℕ) → a ≡ b → slice_cmp nat_cmp (a ∷ x) (b ∷ y) ≡ slice_cmp nat_cmp x y
same_first a b x y is = ap (λ o. ordering_then o (slice_cmp nat_cmp x y)) (sym (nat_cmp_is a b Equal is))

by_digit : (a b : ℕ) (x y : List ℕ) → a ≤ b → (a ≡ b → slice_cmp nat_cmp x y ≡ Less) → slice_cmp nat_cmp (a ∷ x) (b ∷ y) ≡ Less
by_digit a b x y up rest = at (nat_cmp a b) (ranked a b (nat_cmp a b) refl)
  where
    at : (o : Ordering) → MatchOrdering o (a < b) (a ≡ b) (b < a) → slice_cmp nat_cmp (a ∷ x) (b ∷ y) ≡ Less
    at Less lt = less_first a b x y lt
    at Equal is = same_first a b x y is ∙ rest is
    at Greater gt = absurd (omega (arith, up, gt))

same_front : (front x y : List ℕ) → slice_cmp nat_cmp (front ++ x) (front ++ y) ≡ slice_cmp nat_cmp x y
same_front [] x y = refl
same_front (a ∷ front) x y = same_first a a (front ++ x) (front ++ y) refl ∙ same_front front x y

-- ---- characters

-- how many bytes it takes in UTF-8, in the order of UTF-16; characters of three bytes are on both sides of the
-- surrogates
data Kind (c : ℕ) : Type 0 where
  one : c < 128 → Kind c
  two : 128 ≤ c → c < 2048 → Kind c
  three : 2048 ≤ c → c < 55296 → Kind c
  four : 65536 ≤ c → c < 1114112 → Kind c
  high : 57344 ≤ c → c < 65536 → Kind c

kind_of : (c : ℕ) → scalar c ≡ true → Kind c
kind_of c is = at (nat_lt c 128) (nat_lt c 2048) (nat_lt c 65536) refl refl refl (scalar_cases c is)
  where
    at : (s t u : Bool) → nat_lt c 128 ≡ s → nat_lt c 2048 ≡ t → nat_lt c 65536 ≡ u → (c < 55296) ⊎ ((57344 ≤ c) × (c < 1114112)) → Kind c
    at true t u a b e range = one (grind (arith, nat_tests))
    at false true u a b e range = two (grind (arith, nat_tests)) (grind (arith, nat_tests))
    at false false u a b e (inl low) = three (grind (arith, nat_tests)) low
    at false false true a b e (inr range) = high range.0 (grind (arith, nat_tests))
    at false false false a b e (inr range) = four (grind (arith, nat_tests)) range.1

-- the number that gives its place in the order
abbrev place : (c : ℕ) → Kind c → ℕ
place c (one a) = c
place c (two a b) = c
place c (three a b) = c
place c (four a b) = c
place c (high a b) = c + 2000000

-- ---- its code units, and the ranks of its bytes

abbrev units_of : (c : ℕ) → Kind c → List ℕ
units_of c (one a) = c ∷ []
units_of c (two a b) = c ∷ []
units_of c (three a b) = c ∷ []
units_of c (four a b) = (55296 + (c - 65536) / 1024) ∷ (56320 + (c - 65536) % 1024) ∷ []
units_of c (high a b) = c ∷ []

abbrev ranks_of : (c : ℕ) → Kind c → List ℕ
ranks_of c (one a) = c ∷ []
ranks_of c (two a b) = (192 + c / 64) ∷ next c ∷ []
ranks_of c (three a b) = (224 + c / 4096) ∷ next (c / 64) ∷ next c ∷ []
ranks_of c (four a b) = (240 + c / 262144) ∷ next (c / 4096) ∷ next (c / 64) ∷ next c ∷ []
ranks_of c (high a b) = (224 + c / 4096 + 7) ∷ next (c / 64) ∷ next c ∷ []

one_unit : (c : ℕ) → c < 65536 → encode_utf16 c ≡ c ∷ []
one_unit c low =
    let is : nat_lt c 65536 ≡ true = grind (arith, nat_tests) in
    ap (λ t. cond t (c ∷ []) ((55296 + (c - 65536) / 1024) ∷ (56320 + (c - 65536) % 1024) ∷ [])) is

units_are : (c : ℕ) (k : Kind c) → encode_utf16 c ≡ units_of c k
units_are c (one a) = one_unit c (omega arith)
units_are c (two a b) = one_unit c (omega arith)
units_are c (three a b) = one_unit c (omega arith)
units_are c (high a b) = one_unit c b
units_are c (four a b) =
    let is : nat_lt c 65536 ≡ false = grind (arith, nat_tests) in
    ap (λ t. cond t (c ∷ []) ((55296 + (c - 65536) / 1024) ∷ (56320 + (c - 65536) % 1024) ∷ [])) is

rank_low : (b : ℕ) → b < 238 → rank b ≡ b
rank_low b low =
    let is : nat_lt b 238 ≡ true = grind (arith, nat_tests) in
    ap (λ t. cond t b (cond (nat_lt b 240) (b + 7) b)) is

rank_middle : (b : ℕ) → 238 ≤ b → b < 240 → rank b ≡ b + 7
rank_middle b from to =
    let first : nat_lt b 238 ≡ false = grind (arith, nat_tests) in
    let second : nat_lt b 240 ≡ true = grind (arith, nat_tests) in
    ap₂ (λ s t. cond s b (cond t (b + 7) b)) first second

rank_high : (b : ℕ) → 240 ≤ b → rank b ≡ b
rank_high b from =
    let first : nat_lt b 238 ≡ false = grind (arith, nat_tests) in
    let second : nat_lt b 240 ≡ false = grind (arith, nat_tests) in
    ap₂ (λ s t. cond s b (cond t (b + 7) b)) first second

encode_is : (c : ℕ) (s t u : Bool) → nat_lt c 128 ≡ s → nat_lt c 2048 ≡ t → nat_lt c 65536 ≡ u
    → encode c ≡ cond s (c ∷ []) (cond t ((192 + c / 64) ∷ next c ∷ []) (cond u ((224 + c / 4096) ∷ next (c / 64) ∷ next c ∷ [])
    ((240 + c / 262144) ∷ next (c / 4096) ∷ next (c / 64) ∷ next c ∷ [])))
unfolding encode
encode_is c s t u a b e =
    λ i. cond (a i) (c ∷ []) (cond (b i) ((192 + c / 64) ∷ next c ∷ []) (cond (e i) ((224 + c / 4096) ∷ next (c / 64) ∷ next c ∷ [])
    ((240 + c / 262144) ∷ next (c / 4096) ∷ next (c / 64) ∷ next c ∷ [])))

inner_two : (c : ℕ) → rank (next (c / 64)) ∷ rank (next c) ∷ [] ≡ next (c / 64) ∷ next c ∷ []
inner_two c = ap₂ (λ p q. p ∷ q ∷ []) (rank_low (next (c / 64)) (omega arith)) (rank_low (next c) (omega arith))

ranks_are : (c : ℕ) (k : Kind c) → map rank (encode c) ≡ ranks_of c k
ranks_are c (one a) =
    let s : nat_lt c 128 ≡ true = grind (arith, nat_tests) in
    ap (map rank) (encode_is c true _ _ s refl refl) ∙ ap (λ r. r ∷ []) (rank_low c (omega arith))
ranks_are c (two a b) =
    let s : nat_lt c 128 ≡ false = grind (arith, nat_tests) in
    let t : nat_lt c 2048 ≡ true = grind (arith, nat_tests) in
    ap (map rank) (encode_is c false true _ s t refl)
    ∙ ap₂ (λ p q. p ∷ q ∷ []) (rank_low (192 + c / 64) (omega arith)) (rank_low (next c) (omega arith))
ranks_are c (three a b) =
    let s : nat_lt c 128 ≡ false = grind (arith, nat_tests) in
    let t : nat_lt c 2048 ≡ false = grind (arith, nat_tests) in
    let u : nat_lt c 65536 ≡ true = grind (arith, nat_tests) in
    let first = rank_low (224 + c / 4096) (omega arith) in
    ap (map rank) (encode_is c false false true s t u) ∙ ap₂ (λ p q. p ∷ q) first (inner_two c)
ranks_are c (high a b) =
    let s : nat_lt c 128 ≡ false = grind (arith, nat_tests) in
    let t : nat_lt c 2048 ≡ false = grind (arith, nat_tests) in
    let u : nat_lt c 65536 ≡ true = grind (arith, nat_tests) in
    let first = rank_middle (224 + c / 4096) (omega arith) (omega arith) in
    ap (map rank) (encode_is c false false true s t u) ∙ ap₂ (λ p q. p ∷ q) first (inner_two c)
ranks_are c (four a b) =
    let s : nat_lt c 128 ≡ false = grind (arith, nat_tests) in
    let t : nat_lt c 2048 ≡ false = grind (arith, nat_tests) in
    let u : nat_lt c 65536 ≡ false = grind (arith, nat_tests) in
    let first = rank_high (240 + c / 262144) (omega arith) in
    let second = rank_low (next (c / 4096)) (omega arith) in
    ap (map rank) (encode_is c false false false s t u) ∙ ap₂ (λ p q. p ∷ q) first (ap₂ (λ p q. p ∷ q) second (inner_two c))

-- ---- two characters

ranks_below : (c d : ℕ) (x y : List ℕ) (k : Kind c) (l : Kind d) → place c k < place d l
    → slice_cmp nat_cmp (ranks_of c k ++ x) (ranks_of d l ++ y) ≡ Less
ranks_below c d x y (one a) (one e) lt =
    less_first c d x y (omega arith)
ranks_below c d x y (one a) (two e f) lt =
    less_first c (192 + d / 64) x (next d ∷ y) (omega arith)
ranks_below c d x y (one a) (three e f) lt =
    less_first c (224 + d / 4096) x (next (d / 64) ∷ next d ∷ y) (omega arith)
ranks_below c d x y (one a) (four e f) lt =
    less_first c (240 + d / 262144) x (next (d / 4096) ∷ next (d / 64) ∷ next d ∷ y) (omega arith)
ranks_below c d x y (one a) (high e f) lt =
    less_first c (224 + d / 4096 + 7) x (next (d / 64) ∷ next d ∷ y) (omega arith)
ranks_below c d x y (two a b) (one e) lt = absurd (omega arith)
ranks_below c d x y (two a b) (two e f) lt =
    by_digit (192 + c / 64) (192 + d / 64) (next c ∷ x) (next d ∷ y) (omega arith)
    (λ p. less_first (next c) (next d) x y (omega (arith, p)))
ranks_below c d x y (two a b) (three e f) lt =
    less_first (192 + c / 64) (224 + d / 4096) (next c ∷ x) (next (d / 64) ∷ next d ∷ y) (omega arith)
ranks_below c d x y (two a b) (four e f) lt =
    less_first (192 + c / 64) (240 + d / 262144) (next c ∷ x) (next (d / 4096) ∷ next (d / 64) ∷ next d ∷ y) (omega arith)
ranks_below c d x y (two a b) (high e f) lt =
    less_first (192 + c / 64) (224 + d / 4096 + 7) (next c ∷ x) (next (d / 64) ∷ next d ∷ y) (omega arith)
ranks_below c d x y (three a b) (one e) lt = absurd (omega arith)
ranks_below c d x y (three a b) (two e f) lt = absurd (omega arith)
ranks_below c d x y (three a b) (three e f) lt =
    by_digit (224 + c / 4096) (224 + d / 4096) (next (c / 64) ∷ next c ∷ x) (next (d / 64) ∷ next d ∷ y) (omega arith)
    (λ p. by_digit (next (c / 64)) (next (d / 64)) (next c ∷ x) (next d ∷ y) (omega (arith, p))
    (λ q. less_first (next c) (next d) x y (omega (arith, p, q))))
ranks_below c d x y (three a b) (four e f) lt =
    less_first (224 + c / 4096) (240 + d / 262144) (next (c / 64) ∷ next c ∷ x) (next (d / 4096) ∷ next (d / 64) ∷ next d ∷ y) (omega arith)
ranks_below c d x y (three a b) (high e f) lt =
    less_first (224 + c / 4096) (224 + d / 4096 + 7) (next (c / 64) ∷ next c ∷ x) (next (d / 64) ∷ next d ∷ y) (omega arith)
ranks_below c d x y (four a b) (one e) lt = absurd (omega arith)
ranks_below c d x y (four a b) (two e f) lt = absurd (omega arith)
ranks_below c d x y (four a b) (three e f) lt = absurd (omega arith)
ranks_below c d x y (four a b) (four e f) lt =
    by_digit (240 + c / 262144) (240 + d / 262144) (next (c / 4096) ∷ next (c / 64) ∷ next c ∷ x) (next (d / 4096) ∷ next (d / 64) ∷ next d ∷ y) (omega arith)
    (λ p. by_digit (next (c / 4096)) (next (d / 4096)) (next (c / 64) ∷ next c ∷ x) (next (d / 64) ∷ next d ∷ y) (omega (arith, p))
    (λ q. by_digit (next (c / 64)) (next (d / 64)) (next c ∷ x) (next d ∷ y) (omega (arith, p, q))
    (λ r. less_first (next c) (next d) x y (omega (arith, p, q, r)))))
ranks_below c d x y (four a b) (high e f) lt =
    less_first (240 + c / 262144) (224 + d / 4096 + 7) (next (c / 4096) ∷ next (c / 64) ∷ next c ∷ x) (next (d / 64) ∷ next d ∷ y) (omega arith)
ranks_below c d x y (high a b) (one e) lt = absurd (omega arith)
ranks_below c d x y (high a b) (two e f) lt = absurd (omega arith)
ranks_below c d x y (high a b) (three e f) lt = absurd (omega arith)
ranks_below c d x y (high a b) (four e f) lt = absurd (omega arith)
ranks_below c d x y (high a b) (high e f) lt =
    by_digit (224 + c / 4096 + 7) (224 + d / 4096 + 7) (next (c / 64) ∷ next c ∷ x) (next (d / 64) ∷ next d ∷ y) (omega arith)
    (λ p. by_digit (next (c / 64)) (next (d / 64)) (next c ∷ x) (next d ∷ y) (omega (arith, p))
    (λ q. less_first (next c) (next d) x y (omega (arith, p, q))))

units_below : (c d : ℕ) (x y : List ℕ) (k : Kind c) (l : Kind d) → place c k < place d l
    → slice_cmp nat_cmp (units_of c k ++ x) (units_of d l ++ y) ≡ Less
units_below c d x y (one a) (one e) lt =
    less_first c d x y (omega arith)
units_below c d x y (one a) (two e f) lt =
    less_first c d x y (omega arith)
units_below c d x y (one a) (three e f) lt =
    less_first c d x y (omega arith)
units_below c d x y (one a) (four e f) lt =
    less_first c (55296 + (d - 65536) / 1024) x ((56320 + (d - 65536) % 1024) ∷ y) (omega arith)
units_below c d x y (one a) (high e f) lt =
    less_first c d x y (omega arith)
units_below c d x y (two a b) (one e) lt = absurd (omega arith)
units_below c d x y (two a b) (two e f) lt =
    less_first c d x y (omega arith)
units_below c d x y (two a b) (three e f) lt =
    less_first c d x y (omega arith)
units_below c d x y (two a b) (four e f) lt =
    less_first c (55296 + (d - 65536) / 1024) x ((56320 + (d - 65536) % 1024) ∷ y) (omega arith)
units_below c d x y (two a b) (high e f) lt =
    less_first c d x y (omega arith)
units_below c d x y (three a b) (one e) lt = absurd (omega arith)
units_below c d x y (three a b) (two e f) lt = absurd (omega arith)
units_below c d x y (three a b) (three e f) lt =
    less_first c d x y (omega arith)
units_below c d x y (three a b) (four e f) lt =
    less_first c (55296 + (d - 65536) / 1024) x ((56320 + (d - 65536) % 1024) ∷ y) (omega arith)
units_below c d x y (three a b) (high e f) lt =
    less_first c d x y (omega arith)
units_below c d x y (four a b) (one e) lt = absurd (omega arith)
units_below c d x y (four a b) (two e f) lt = absurd (omega arith)
units_below c d x y (four a b) (three e f) lt = absurd (omega arith)
units_below c d x y (four a b) (four e f) lt =
    by_digit (55296 + (c - 65536) / 1024) (55296 + (d - 65536) / 1024) ((56320 + (c - 65536) % 1024) ∷ x) ((56320 + (d - 65536) % 1024) ∷ y) (omega arith)
    (λ p. less_first (56320 + (c - 65536) % 1024) (56320 + (d - 65536) % 1024) x y (omega (arith, p)))
units_below c d x y (four a b) (high e f) lt =
    less_first (55296 + (c - 65536) / 1024) d ((56320 + (c - 65536) % 1024) ∷ x) y (omega arith)
units_below c d x y (high a b) (one e) lt = absurd (omega arith)
units_below c d x y (high a b) (two e f) lt = absurd (omega arith)
units_below c d x y (high a b) (three e f) lt = absurd (omega arith)
units_below c d x y (high a b) (four e f) lt = absurd (omega arith)
units_below c d x y (high a b) (high e f) lt =
    less_first c d x y (omega arith)

same_place : (c d : ℕ) (k : Kind c) (l : Kind d) → place c k ≡ place d l → c ≡ d
same_place c d (one a) (one e) is = omega (arith, is)
same_place c d (one a) (two e f) is = omega (arith, is)
same_place c d (one a) (three e f) is = omega (arith, is)
same_place c d (one a) (four e f) is = omega (arith, is)
same_place c d (one a) (high e f) is = absurd (omega (arith, is))
same_place c d (two a b) (one e) is = omega (arith, is)
same_place c d (two a b) (two e f) is = omega (arith, is)
same_place c d (two a b) (three e f) is = omega (arith, is)
same_place c d (two a b) (four e f) is = omega (arith, is)
same_place c d (two a b) (high e f) is = absurd (omega (arith, is))
same_place c d (three a b) (one e) is = omega (arith, is)
same_place c d (three a b) (two e f) is = omega (arith, is)
same_place c d (three a b) (three e f) is = omega (arith, is)
same_place c d (three a b) (four e f) is = omega (arith, is)
same_place c d (three a b) (high e f) is = absurd (omega (arith, is))
same_place c d (four a b) (one e) is = omega (arith, is)
same_place c d (four a b) (two e f) is = omega (arith, is)
same_place c d (four a b) (three e f) is = omega (arith, is)
same_place c d (four a b) (four e f) is = omega (arith, is)
same_place c d (four a b) (high e f) is = absurd (omega (arith, is))
same_place c d (high a b) (one e) is = absurd (omega (arith, is))
same_place c d (high a b) (two e f) is = absurd (omega (arith, is))
same_place c d (high a b) (three e f) is = absurd (omega (arith, is))
same_place c d (high a b) (four e f) is = absurd (omega (arith, is))
same_place c d (high a b) (high e f) is = omega (arith, is)

some_units : (c : ℕ) (k : Kind c) (rest : List ℕ) → slice_cmp nat_cmp [] (units_of c k ++ rest) ≡ Less
some_units c (one a) rest = refl
some_units c (two a b) rest = refl
some_units c (three a b) rest = refl
some_units c (four a b) rest = refl
some_units c (high a b) rest = refl

some_ranks : (c : ℕ) (k : Kind c) (rest : List ℕ) → slice_cmp nat_cmp [] (ranks_of c k ++ rest) ≡ Less
some_ranks c (one a) rest = refl
some_ranks c (two a b) rest = refl
some_ranks c (three a b) rest = refl
some_ranks c (four a b) rest = refl
some_ranks c (high a b) rest = refl

-- ---- texts

-- two texts are ordered alike by their units and by their ranks
abbrev AreRanked : List ℕ → List ℕ → Type 0
AreRanked cs ds =
    slice_cmp nat_cmp (flat_map encode_utf16 cs) (flat_map encode_utf16 ds) ≡ slice_cmp nat_cmp (map rank (encodes cs)) (map rank (encodes ds))

ranked_in_turn : (cs ds : List ℕ) → AreRanked cs ds → AreRanked ds cs
ranked_in_turn cs ds are =
    nat_list_cmp_total.antisymm (flat_map encode_utf16 ds) (flat_map encode_utf16 cs) ∙ ap ordering_reverse are
    ∙ sym (nat_list_cmp_total.antisymm (map rank (encodes ds)) (map rank (encodes cs)))

module _ (c : ℕ) (k : Kind c) (cs : List ℕ) where
  first_units : flat_map encode_utf16 (c ∷ cs) ≡ units_of c k ++ flat_map encode_utf16 cs
  first_units = ap (λ p. p ++ flat_map encode_utf16 cs) (units_are c k)

  first_ranks : map rank (encodes (c ∷ cs)) ≡ ranks_of c k ++ map rank (encodes cs)
  first_ranks = map-append rank (encode c) (encodes cs) ∙ ap (λ p. p ++ map rank (encodes cs)) (ranks_are c k)

  none_first : AreRanked [] (c ∷ cs)
  none_first =
      ap (slice_cmp nat_cmp []) first_units ∙ some_units c k (flat_map encode_utf16 cs)
      ∙ sym (ap (slice_cmp nat_cmp []) first_ranks ∙ some_ranks c k (map rank (encodes cs)))

both_less : (c d : ℕ) (k : Kind c) (l : Kind d) (cs ds : List ℕ) → place c k < place d l → AreRanked (c ∷ cs) (d ∷ ds)
both_less c d k l cs ds lt =
    ap₂ (slice_cmp nat_cmp) (first_units c k cs) (first_units d l ds)
    ∙ units_below c d (flat_map encode_utf16 cs) (flat_map encode_utf16 ds) k l lt
    ∙ sym (ranks_below c d (map rank (encodes cs)) (map rank (encodes ds)) k l lt)
    ∙ sym (ap₂ (slice_cmp nat_cmp) (first_ranks c k cs) (first_ranks d l ds))

both_same : (c : ℕ) (cs ds : List ℕ) → AreRanked cs ds → AreRanked (c ∷ cs) (c ∷ ds)
both_same c cs ds rest =
    same_front (encode_utf16 c) (flat_map encode_utf16 cs) (flat_map encode_utf16 ds) ∙ rest
    ∙ sym (same_front (map rank (encode c)) (map rank (encodes cs)) (map rank (encodes ds)))
    ∙ sym (ap₂ (slice_cmp nat_cmp) (map-append rank (encode c) (encodes cs)) (map-append rank (encode c) (encodes ds)))

next_character : (c d : ℕ) (k : Kind c) (l : Kind d) (cs ds : List ℕ) → AreRanked cs ds → AreRanked (c ∷ cs) (d ∷ ds)
next_character c d k l cs ds rest = at (nat_cmp (place c k) (place d l)) (ranked _ _ (nat_cmp (place c k) (place d l)) refl)
  where
    at : (o : Ordering) → MatchOrdering o (place c k < place d l) (place c k ≡ place d l) (place d l < place c k)
        → AreRanked (c ∷ cs) (d ∷ ds)
    at Less lt = both_less c d k l cs ds lt
    at Equal is = subst (λ e. AreRanked (c ∷ cs) (e ∷ ds)) (same_place c d k l is) (both_same c cs ds rest)
    at Greater gt = ranked_in_turn (d ∷ ds) (c ∷ cs) (both_less d c l k ds cs gt)

texts_ranked : (cs ds : List ℕ) → scalars cs ≡ true → scalars ds ≡ true → AreRanked cs ds
texts_ranked [] [] u v = refl
texts_ranked [] (d ∷ ds) u v = none_first d (kind_of d (and_parts (scalar d) (scalars ds) v).0) ds
texts_ranked (c ∷ cs) [] u v = ranked_in_turn [] (c ∷ cs) (none_first c (kind_of c (and_parts (scalar c) (scalars cs) u).0) cs)
texts_ranked (c ∷ cs) (d ∷ ds) u v =
    let first = and_parts (scalar c) (scalars cs) u in
    let second = and_parts (scalar d) (scalars ds) v in
    next_character c d (kind_of c first.0) (kind_of d second.0) cs ds (texts_ranked cs ds first.1 second.1)

pub names_ranked : (a b : List ℕ) → IsUtf8 a → IsUtf8 b → name_cmp a b ≡ slice_cmp nat_cmp (map rank a) (map rank b)
names_ranked a b u v =
    texts_ranked (chars a) (chars b) (scalars-chars a u) (scalars-chars b v)
    ∙ ap₂ (λ x y. slice_cmp nat_cmp (map rank x) (map rank y)) (encodes-chars a u) (encodes-chars b v)
