-- Rows of strings, and the state of a hasher after one more string.
use Rattle.std.proofs.Common.{◌≡◌, ℕ, zero, suc, ◌+◌, ◌*◌, ◌<◌, ◌≤◌, List, [], ◌++◌, length, take, drop, inl, inr, sym, ap, ◌∙◌, refl, arith, ◌-◌, ◌%◌, ◌/◌, ◌^◌, get_or}
use Rattle.std.proofs.Math.Nat.{suc-mul, mod-eq_of_lt}
use Rattle.std.proofs.lemmas.Bool.{cases_lt}
use Rattle.std.proofs.lemmas.List.{length-append, length-drop, drop-append-le, take-append-le, drop_at, take_all, drop-take, take-append-drop, take-take}
use Rattle.std.proofs.lemmas.Nat.{mul-le, mod_below, pow_pos}
use Rattle.std.specs.Int.{to_be_bytes, w16}
use Rattle.st_lanes.specs.Chains.{steps}
use Rattle.st_lms.specs.OneTime.{chain, chain_step, secret_element, shortfall, checksum, IsOneTimeType, width, chains, shift, greatest_digit}
use Rattle.st_lms.specs.Strings.{joined, value_at, u16str, u32str, coef}

pub joined-none : (string : ℕ → List ℕ) → joined string 0 ≡ []
unfolding joined
joined-none string = refl

pub joined-more : (string : ℕ → List ℕ) (n : ℕ) → joined string (n + 1) ≡ joined string n ++ string n
unfolding joined
joined-more string n = let e : n + 1 ≡ suc n = omega arith in rw e

-- ---- rows of strings of 32 bytes

pub length-joined : (string : ℕ → List ℕ) → ((i : ℕ) → length (string i) ≡ 32) → (n : ℕ)
    → length (joined string n) ≡ 32 * n
unfolding joined
length-joined string long zero = refl
length-joined string long (suc n) =
    let before : length (joined string n) ≡ 32 * n = length-joined string long n in
    omega (arith, before, long n, length-append (joined string n) (string n))

-- a string of a row
pub value_at-joined : (string : ℕ → List ℕ) → ((i : ℕ) → length (string i) ≡ 32) → (n i : ℕ) → i < n →
    value_at (joined string n) i ≡ string i
unfolding joined value_at
value_at-joined string long zero i h = absurd (omega arith)
value_at-joined string long (suc n) i h =
    let before : length (joined string n) ≡ 32 * n = length-joined string long n in
    elim (cases_lt i n) [
      | inl below ↦
          let cut = drop-append-le (32 * i) (joined string n) (string n) (omega (arith, before)) in
          let room : 32 ≤ length (drop (32 * i) (joined string n)) = omega (arith, before, length-drop (32 * i) (joined string n)) in
          ap (take 32) cut ∙ take-append-le 32 (drop (32 * i) (joined string n)) (string n) room
          ∙ value_at-joined string long n i below
      | inr past ↦
          let same : i ≡ n = omega arith in
          let last : drop (32 * i) (joined string n ++ string n) ≡ string n =
          drop_at (joined string n) (string n) (32 * i) (omega (arith, before, same)) in
          ap (take 32) last ∙ take_all 32 (string n) (omega (arith, long n)) ∙ ap string (sym same)
    ]

-- rows of equal strings
pub joined-same : (f g : ℕ → List ℕ) (n : ℕ) → ((i : ℕ) → i < n → f i ≡ g i) → joined f n ≡ joined g n
unfolding joined
joined-same f g zero same = refl
joined-same f g (suc n) same =
    let before : joined f n ≡ joined g n = joined-same f g n (λ i h. same i (omega arith)) in
    let last : f n ≡ g n = same n (omega arith) in
    rw (before, last)

-- ---- Chains in two parts, and the steps of a walk.

-- a chain in two parts
pub chain-add : (id : List ℕ) (q i from m n : ℕ) (value : List ℕ) →
    chain id q i from (m + n) value ≡ chain id q i (from + m) n (chain id q i from m value)
unfolding chain
chain-add id q i from m zero value = let e : m + 0 ≡ m = omega arith in rw e
chain-add id q i from m (suc n) value =
    let e : m + suc n ≡ suc (m + n) = omega arith in
    let at : from + (m + n) ≡ from + m + n = omega arith in
    rw (e, at, chain-add id q i from m n value)

-- the steps of a walk are those of a chain
steps_chain : (id : List ℕ) (q i j n : ℕ) (value : List ℕ) → j + n ≤ 256
    → steps (id ++ u32str q ++ to_be_bytes w16 i) (j + 1) n value ≡ chain id q i j n value
unfolding steps chain chain_step u16str
steps_chain id q i j zero value fits = refl
steps_chain id q i j (suc n) value fits =
    let byte : (j + 1 + n + 255) % 256 ≡ j + n = omega arith in
    rw (byte, steps_chain id q i j n value (omega arith)) refl

-- those from the seed on make an element first
steps_of_seed : (id : List ℕ) (q i n : ℕ) (seed : List ℕ) → n < 256
    → steps (id ++ u32str q ++ to_be_bytes w16 i) 0 (suc n) seed ≡ chain id q i 0 n (secret_element id q i seed)
unfolding steps chain chain_step u16str secret_element
steps_of_seed id q i zero seed fits = refl
steps_of_seed id q i (suc n) seed fits =
    let byte : (0 + suc n + 255) % 256 ≡ 0 + n = omega arith in
    rw (byte, steps_of_seed id q i n seed (omega arith)) refl

-- the end of a walk that starts at a seed
pub walk_of_seed : (id : List ℕ) (q i n : ℕ) (seed : List ℕ) → n < 256
    → steps (id ++ u32str q ++ to_be_bytes w16 i) 0 (n + 1 - 0) seed ≡ chain id q i 0 n (secret_element id q i seed)
walk_of_seed id q i n seed fits =
    let count : n + 1 - 0 ≡ suc n = omega arith in
    rw count (steps_of_seed id q i n seed fits)

-- and of one that starts at the value of a digit
pub walk_of_value : (id : List ℕ) (q i digit end : ℕ) (value : List ℕ) → digit ≤ end → end < 256
    → steps (id ++ u32str q ++ to_be_bytes w16 i) (digit + 1) (end + 1 - (digit + 1)) value ≡ chain id q i digit (end - digit) value
walk_of_value id q i digit end value ascends fits =
    let count : end + 1 - (digit + 1) ≡ end - digit = omega arith in
    rw count (steps_chain id q i digit (end - digit) value (omega arith))

-- ---- rows of values

take_value : (row : List ℕ) (n : ℕ) → take (32 * n) row ++ value_at row n ≡ take (32 * (n + 1)) row
unfolding value_at
take_value row n =
    let size : 32 * (n + 1) ≡ 32 * n + 32 = omega arith in
    rw size (ap (λ xs. xs ++ take 32 (drop (32 * n) row)) (sym (take-take (32 * n) (32 * n + 32) row (omega arith)))
    ∙ ap (λ xs. take (32 * n) (take (32 * n + 32) row) ++ xs) (sym (drop-take (32 * n) 32 row))
    ∙ take-append-drop (32 * n) (take (32 * n + 32) row))

-- a row whose values are known
pub row_joined : (row : List ℕ) (string : ℕ → List ℕ) (n : ℕ) → ((i : ℕ) → i < n → value_at row i ≡ string i) → take (32 * n) row ≡ joined string n
unfolding joined
row_joined row string zero is = refl
row_joined row string (suc n) is =
    let before = row_joined row string n (λ i lt. is i (omega arith)) in
    let size : 32 * suc n ≡ 32 * (n + 1) = omega arith in
    rw size (sym (take_value row n) ∙ rw (before, is n (omega arith)) refl)

-- a value of a row whose prefix is known strings
pub value_in_row : (row : List ℕ) (string : ℕ → List ℕ) (n i : ℕ) → ((i : ℕ) → length (string i) ≡ 32) → take (32 * n) row ≡ joined string n → i < n
    → value_at row i ≡ string i
unfolding value_at
value_in_row row string n i long is lt =
    sym (drop-take (32 * i) 32 row)
    ∙ ap (drop (32 * i)) (sym (take-take (32 * i + 32) (32 * n) row (omega arith)))
    ∙ drop-take (32 * i) 32 (take (32 * n) row)
    ∙ ap (λ xs. take 32 (drop (32 * i) xs)) is
    ∙ value_at-joined string long n i lt

-- ---- The four widths, by cases.

-- a property of each width holds for the width of each type
pub width_cases : (P : ℕ → Type 0) → P 1 → P 2 → P 4 → P 8 → (t : ℕ) → IsOneTimeType t → P (width t)
unfolding width
width_cases P a b c d zero h = absurd (omega arith)
width_cases P a b c d (suc zero) h = a
width_cases P a b c d (suc (suc zero)) h = b
width_cases P a b c d (suc (suc (suc zero))) h = c
width_cases P a b c d (suc (suc (suc (suc zero)))) h = d
width_cases P a b c d (suc (suc (suc (suc (suc n))))) h = absurd (omega arith)

-- the shift and the mask of a digit within its byte
pub record FitsByte (i w : ℕ) : Type 0 where
  pub some : 0 < w
  pub small : w ≤ 8
  pub whole : 0 < 8 / w
  pub within : w * (i % (8 / w)) + w ≤ 8

pub fits_byte : (i w t : ℕ) → w ≡ width t → IsOneTimeType t → FitsByte i w
fits_byte i w t e h = rw e (width_cases (FitsByte i)
    (record { some = omega arith; small = omega arith; whole = omega arith; within = omega arith })
    (record { some = omega arith; small = omega arith; whole = omega arith; within = omega arith })
    (record { some = omega arith; small = omega arith; whole = omega arith; within = omega arith })
    (record { some = omega arith; small = omega arith; whole = omega arith; within = omega arith })
    t h)

-- the place of a digit does not overflow
pub place_fits : (i w : ℕ) → i < 2 ^ 16 → w ≤ 8 → i * w < 2 ^ 20
place_fits i w h k = let most : i * w ≤ (2 ^ 16 - 1) * 8 = mul-le i w (2 ^ 16 - 1) 8 (omega arith) k in omega arith

-- ---- Bounds on digits and on the checksum.

-- no digit is above the greatest one
pub coef-greatest : (s : List ℕ) (i t : ℕ) → coef s i (width t) ≤ greatest_digit t
unfolding coef greatest_digit
coef-greatest s i t =
    let shifted = get_or s (i * width t / 8) 0 / 2 ^ (8 - (width t * (i % (8 / width t)) + width t)) in
    let below = mod_below shifted (2 ^ width t) (pow_pos (width t)) in
    omega (arith, below)

-- the table's entries for each type
pub record IsSized (t : ℕ) : Type 0 where
  pub digits : 256 / width t ≤ 256
  pub greatest : greatest_digit t ≤ 255
  pub sum : (256 / width t) * greatest_digit t * 2 ^ shift t < 2 ^ 16
  pub chain_count : chains t ≤ 265
  pub shifted : shift t < 16
  pub chain_room : chains t * width t ≤ 8 * 34

pub sized : (t : ℕ) → IsOneTimeType t → IsSized t
unfolding width greatest_digit shift chains
sized zero h = absurd (omega arith)
sized (suc zero) h =
    record { digits = omega arith; greatest = omega arith; sum = omega arith; chain_count = omega arith; shifted = omega arith; chain_room = omega arith }
sized (suc (suc zero)) h =
    record { digits = omega arith; greatest = omega arith; sum = omega arith; chain_count = omega arith; shifted = omega arith; chain_room = omega arith }
sized (suc (suc (suc zero))) h =
    record { digits = omega arith; greatest = omega arith; sum = omega arith; chain_count = omega arith; shifted = omega arith; chain_room = omega arith }
sized (suc (suc (suc (suc zero)))) h =
    record { digits = omega arith; greatest = omega arith; sum = omega arith; chain_count = omega arith; shifted = omega arith; chain_room = omega arith }
sized (suc (suc (suc (suc (suc n))))) h = absurd (omega arith)

-- a place below a bound, times a width
pub place_below : (i n w m : ℕ) → 0 < w → i < n → n * w ≤ m → i * w < m
place_below i n w m some h k =
    let more : suc i * w ≤ n * w = mul-le (suc i) w n w (omega arith) (omega arith) in
    let split : suc i * w ≡ i * w + w = suc-mul i w in
    omega arith

-- each signed digit is within the string of a hash and its checksum
pub digit_in_digits : (i t : ℕ) → IsOneTimeType t → i < chains t → i * width t < 8 * 34
digit_in_digits i t h k =
    let fits : FitsByte i (width t) = fits_byte i (width t) t refl h in
    let sizes : IsSized t = sized t h in
    place_below i (chains t) (width t) (8 * 34) fits.some k sizes.chain_room

-- each digit falls short by at most the greatest one
pub shortfall-le : (t : ℕ) (s : List ℕ) (n : ℕ) → shortfall t s n ≤ n * greatest_digit t
unfolding shortfall
shortfall-le t s zero = omega arith
shortfall-le t s (suc n) =
    let before : shortfall t s n ≤ n * greatest_digit t = shortfall-le t s n in
    let split : suc n * greatest_digit t ≡ n * greatest_digit t + greatest_digit t = suc-mul n (greatest_digit t) in
    omega arith

-- one more digit
pub shortfall-more : (t : ℕ) (s : List ℕ) (n : ℕ)
    → shortfall t s (n + 1) ≡ shortfall t s n + (greatest_digit t - coef s n (width t))
unfolding shortfall
shortfall-more t s n = let e : n + 1 ≡ suc n = omega arith in rw e

pub shortfall-none : (t : ℕ) (s : List ℕ) → shortfall t s 0 ≡ 0
unfolding shortfall
shortfall-none t s = refl

-- the sum for a hash fits in 16 bits
pub shortfall_fits : (t : ℕ) (s : List ℕ) (n : ℕ) → IsOneTimeType t → n ≤ 256 → shortfall t s n < 2 ^ 16
shortfall_fits t s n h k =
    let sizes : IsSized t = sized t h in
    let most : n * greatest_digit t ≤ 256 * 255 = mul-le n (greatest_digit t) 256 255 k sizes.greatest in
    omega (arith, shortfall-le t s n)

pub checksum_fits : (t : ℕ) (s : List ℕ) → IsOneTimeType t → checksum t s < 2 ^ 16
unfolding checksum
checksum_fits t s h =
    let sizes : IsSized t = sized t h in
    let most : shortfall t s (256 / width t) * 2 ^ shift t ≤ (256 / width t) * greatest_digit t * 2 ^ shift t =
    mul-le (shortfall t s (256 / width t)) (2 ^ shift t) ((256 / width t) * greatest_digit t) (2 ^ shift t)
    (shortfall-le t s (256 / width t)) (omega arith) in
    omega (arith, sizes.sum)

-- the sum of a whole hash, shifted, is its checksum
pub shifted-checksum : (t : ℕ) (s : List ℕ) (sum ls : ℕ) → IsOneTimeType t → sum ≡ shortfall t s (256 / width t) → ls ≡ shift t
    → sum * 2 ^ ls % 2 ^ 16 ≡ checksum t s
unfolding checksum
shifted-checksum t s sum ls h whole l = rw (whole, l) (mod-eq_of_lt (checksum_fits t s h))
