-- Each lane of a vector, by the operation that made it.
use Rattle.std.proofs.Common.{◌≡◌, ℕ, zero, suc, ◌<◌, ◌-◌, ◌*◌, ◌/◌, ◌%◌, ◌^◌, List, [], ◌∷◌, length, slice_index, slice_index_or, slice_set, bit_or, arith, refl, w32, ◌≢◌, ◌+◌, ◌≤◌, ◌++◌, take, drop, set, length-append, length-drop, length-set, replicate, inl, inr, subst, sym, ap, ◌∙◌}
use Rattle.std.proofs.Math.ListN.{get_or-map}
use Rattle.std.proofs.lemmas.Bool.{cases_lt}
use Rattle.std.proofs.lemmas.List.{map-set, append_assoc, length-replicate, drop-take, drop_at, get_or-append_right, get_or-drop, get_or-set_other, get_or-set_same, get_or-take, get_or_append_left, get_or_past, length-take-le, take_all, take_at, take_more, take-append-le, take-take}
use Rattle.std.proofs.lemmas.Nat.{be_bytes_4}
use Rattle.std.proofs.lemmas.Slice.{drop-put_mid, take-put_mid_below}
use Rattle.std.specs.Int.{rotate_right, to_be_bytes, w16}
use Rattle.std.specs.Simd.Lanes.{zip2}
use Rattle.sha2.specs.Sha256.{digest_bytes, word_at}
use borrow.Rule.Slice.PartMut.{put_mid}
use Rattle.st_lanes.specs.Chains.{value_at}
use Rattle.st_lanes.specs.inside.Lanes.{lane, AreWords, IsHead}

-- a property of each of the eight lanes
pub below_eight : (P : ℕ → Type 0) → P 0 × P 1 × P 2 × P 3 × P 4 × P 5 × P 6 × P 7 → (j : ℕ) → j < 8
    → P j
below_eight P all zero lt = all.0
below_eight P all (suc zero) lt = all.1
below_eight P all (suc (suc zero)) lt = all.2
below_eight P all (suc (suc (suc zero))) lt = all.3
below_eight P all (suc (suc (suc (suc zero)))) lt = all.4
below_eight P all (suc (suc (suc (suc (suc zero))))) lt = all.5
below_eight P all (suc (suc (suc (suc (suc (suc zero)))))) lt = all.6
below_eight P all (suc (suc (suc (suc (suc (suc (suc zero))))))) lt = all.7
below_eight P all (suc (suc (suc (suc (suc (suc (suc (suc j)))))))) lt = absurd (omega arith)

-- a property of each list of eight elements
eight_lanes : (P : List ℕ → Type 0) → ((a b c d e f g h : ℕ) → P (a ∷ b ∷ c ∷ d ∷ e ∷ f ∷ g ∷ h ∷ [])) → (xs : List ℕ) → length xs ≡ 8 → P xs
eight_lanes P p (a ∷ b ∷ c ∷ d ∷ e ∷ f ∷ g ∷ h ∷ []) long = p a b c d e f g h
eight_lanes P p [] long = absurd (omega arith)
eight_lanes P p (a ∷ []) long = absurd (omega arith)
eight_lanes P p (a ∷ b ∷ []) long = absurd (omega arith)
eight_lanes P p (a ∷ b ∷ c ∷ []) long = absurd (omega arith)
eight_lanes P p (a ∷ b ∷ c ∷ d ∷ []) long = absurd (omega arith)
eight_lanes P p (a ∷ b ∷ c ∷ d ∷ e ∷ []) long = absurd (omega arith)
eight_lanes P p (a ∷ b ∷ c ∷ d ∷ e ∷ f ∷ []) long = absurd (omega arith)
eight_lanes P p (a ∷ b ∷ c ∷ d ∷ e ∷ f ∷ g ∷ []) long = absurd (omega arith)
eight_lanes P p (a ∷ b ∷ c ∷ d ∷ e ∷ f ∷ g ∷ h ∷ i ∷ xs) long = absurd (omega arith)

abbrev ShiftsRight : ℕ → List ℕ → Type 0
ShiftsRight k x = (j : ℕ) → j < 8
    → slice_index (zip2 (λ a n. a / 2 ^ n) x (k ∷ k ∷ k ∷ k ∷ k ∷ k ∷ k ∷ k ∷ [])) j ≡ slice_index x j / 2 ^ k

pub shift_right : (k : ℕ) → k < 32 → (x : List ℕ) → length x ≡ 8 → ShiftsRight k x
shift_right k high = eight_lanes (ShiftsRight k) (λ a b c d e f g h. below_eight _ (refl, refl, refl, refl, refl, refl, refl, refl))

abbrev ShiftsLeft : ℕ → List ℕ → Type 0
ShiftsLeft k x = (j : ℕ) → j < 8
    → slice_index (zip2 (λ a n. a * 2 ^ n % 2 ^ 32) x (k ∷ k ∷ k ∷ k ∷ k ∷ k ∷ k ∷ k ∷ [])) j ≡ slice_index x j * 2 ^ k % 2 ^ 32

pub shift_left : (k : ℕ) → k < 32 → (x : List ℕ) → length x ≡ 8 → ShiftsLeft k x
shift_left k high = eight_lanes (ShiftsLeft k) (λ a b c d e f g h. below_eight _ (refl, refl, refl, refl, refl, refl, refl, refl))

abbrev Rotates : ℕ → List ℕ → Type 0
Rotates k x = (j : ℕ) → j < 8
    → slice_index (zip2 bit_or
    (zip2 (λ a n. a / 2 ^ n) x (k ∷ k ∷ k ∷ k ∷ k ∷ k ∷ k ∷ k ∷ []))
    (zip2 (λ a n. a * 2 ^ n % 2 ^ 32) x ((32 - k) ∷ (32 - k) ∷ (32 - k) ∷ (32 - k) ∷ (32 - k) ∷ (32 - k) ∷ (32 - k) ∷ (32 - k) ∷ []))) j
    ≡ rotate_right w32 (slice_index x j) k

-- two shifts of each lane and an or are a rotation
pub shifts_rotate : (k : ℕ) → 0 < k → k < 32 → (x : List ℕ) → length x ≡ 8 → Rotates k x
shifts_rotate k low high =
    let right : k % 32 ≡ k = omega arith in
    let left : (32 - k % 32) % 32 ≡ 32 - k = omega arith in
    eight_lanes (Rotates k) (λ a b c d e f g h. below_eight _ (rw (left, right) refl, rw (left, right) refl, rw (left, right) refl, rw (left, right) refl, rw (left, right) refl, rw (left, right) refl, rw (left, right) refl, rw (left, right) refl))

-- word k of lane j
pub lane_at : (x : List (List ℕ)) (j k : ℕ) → slice_index (lane j x) k ≡ slice_index (slice_index_or x k []) j
lane_at x j k = get_or-map (λ v. slice_index v j) x k []

-- a word is put into each lane
pub lane_set : (x : List (List ℕ)) (j k : ℕ) (v : List ℕ) → lane j (slice_set x k v) ≡ slice_set (lane j x) k (slice_index v j)
lane_set x j k v = map-set (λ w. slice_index w j) x k v

-- the same number in each lane
pub splat_at : (k j : ℕ) → j < 8 → slice_index (k ∷ k ∷ k ∷ k ∷ k ∷ k ∷ k ∷ k ∷ []) j ≡ k
splat_at k = below_eight _ (refl, refl, refl, refl, refl, refl, refl, refl)

-- ---- Rows of values, and lists that are filled from the front.

-- a property of the numbers below k + 1
pub one_more : (P : ℕ → Type 0) (k : ℕ) → ((m : ℕ) → m < k → P m) → P k → (m : ℕ) → m < k + 1 → P m
one_more P k before here m lt = elim (cases_lt m k) [
  | inl below ↦ before m below
  | inr past ↦ let same : k ≡ m = omega arith in subst P same here
]

-- the first n elements of a list with this length are those of f
pub record IsFilled (f : ℕ → ℕ) (size : ℕ) (xs : List ℕ) (n : ℕ) : Type 0 where
  pub long : length xs ≡ size
  pub each : (m : ℕ) → m < n → slice_index xs m ≡ f m

pub filled_none : (f : ℕ → ℕ) (size x : ℕ) → IsFilled f size (replicate size x) 0
filled_none f size x = record { long = length-replicate size x; each = λ m lt. absurd (omega arith) }

pub filled_more : (f : ℕ → ℕ) (size : ℕ) (xs : List ℕ) (n x : ℕ) → IsFilled f size xs n → n < size → x ≡ f n → IsFilled f size (set xs n x) (n + 1)
filled_more f size xs n x filled fits is = record {
  long = length-set xs n x ∙ filled.long;
  each =
      one_more (λ m. slice_index (set xs n x) m ≡ f m) n
      (λ m lt. get_or-set_other xs n m x 0 (λ same. omega (arith, same)) ∙ filled.each m lt)
      (get_or-set_same xs n x 0 (omega (arith, filled.long)) ∙ is);
}

-- ---- words of values

-- each is a byte
abbrev pub AreBytes : List ℕ → Type 0
AreBytes m = (i : ℕ) → slice_index m i < 256

word_fits : (m : List ℕ) (i : ℕ) → AreBytes m → word_at m i < 2 ^ 32
word_fits m i bytes = omega (arith, bytes i, bytes (i + 1), bytes (i + 2), bytes (i + 3))

-- eight words of value i are words
pub words_fit : (row : List ℕ) (i : ℕ) (h : List ℕ) → AreBytes row → length h ≡ 8
    → ((t : ℕ) → t < 8 → slice_index h t ≡ word_at row (32 * i + 4 * t)) → AreWords h
words_fit row i h bytes long at t = elim (cases_lt t 8) [
  | inl below ↦ rw (at t below) (word_fits row (32 * i + 4 * t) bytes)
  | inr past ↦ let none : slice_index h t ≡ 0 = get_or_past h t 0 (omega (arith, long)) in omega (arith, none)
]

four_bytes : (a b c d : ℕ) → a < 256 → b < 256 → c < 256 → d < 256 → AreBytes (a ∷ b ∷ c ∷ d ∷ [])
four_bytes a b c d ha hb hc hd zero = ha
four_bytes a b c d ha hb hc hd (suc zero) = hb
four_bytes a b c d ha hb hc hd (suc (suc zero)) = hc
four_bytes a b c d ha hb hc hd (suc (suc (suc zero))) = hd
four_bytes a b c d ha hb hc hd (suc (suc (suc (suc i)))) = omega arith

take_four : (v : List ℕ) (n m : ℕ) → m ≡ n + 4 → m ≤ length v
    → take m v ≡ take n v ++ slice_index v n ∷ slice_index v (n + 1) ∷ slice_index v (n + 2) ∷ slice_index v (n + 3) ∷ []
take_four v n m is fits =
    let e1 = take_more v n 0 (omega arith) in
    let e2 = take_more v (n + 1) 0 (omega arith) in
    let e3 = take_more v (n + 2) 0 (omega arith) in
    let e4 = take_more v (n + 3) 0 (omega arith) in
    let s1 : n + 1 + 1 ≡ n + 2 = omega arith in
    let s2 : n + 2 + 1 ≡ n + 3 = omega arith in
    let s3 : n + 3 + 1 ≡ m = omega arith in
    sym (ap (λ k. take k v) s3) ∙ e4
    ∙ rw (sym (ap (λ k. take k v) s2) ∙ e3, sym (ap (λ k. take k v) s1) ∙ e2, e1, append_assoc, append_assoc, append_assoc) refl

-- a list of bytes, from the words that it is made of
bytes_from_words : (v h : List ℕ) → AreBytes v → length v ≡ 32 → ((t : ℕ) → t < 8 → slice_index h t ≡ word_at v (4 * t))
    → (n : ℕ) → n ≤ 8 → digest_bytes h n ≡ take (4 * n) v
unfolding digest_bytes
bytes_from_words v h bytes long at zero le = refl
bytes_from_words v h bytes long at (suc n) le =
    let before = bytes_from_words v h bytes long at n (omega arith) in
    let four : List ℕ = slice_index v (4 * n) ∷ slice_index v (4 * n + 1) ∷ slice_index v (4 * n + 2) ∷ slice_index v (4 * n + 3) ∷ [] in
    let word : to_be_bytes w32 (slice_index h n) ≡ four = be_bytes_4 four (slice_index h n) refl (four_bytes _ _ _ _ (bytes (4 * n)) (bytes (4 * n + 1)) (bytes (4 * n + 2)) (bytes (4 * n + 3))) (at n (omega arith)) in
    rw (before, word) (sym (take_four v (4 * n) (4 * suc n) (omega arith) (omega arith)))

-- an element of value i
value_byte : (row : List ℕ) (i k : ℕ) → k < 32 → slice_index (value_at row i) k ≡ slice_index row (32 * i + k)
unfolding value_at
value_byte row i k lt = get_or-take 32 (drop (32 * i) row) k 0 lt ∙ get_or-drop (32 * i) row k 0

value_word : (row : List ℕ) (i t : ℕ) → t < 8 → word_at (value_at row i) (4 * t) ≡ word_at row (32 * i + 4 * t)
value_word row i t lt =
    let e1 : 32 * i + (4 * t + 1) ≡ 32 * i + 4 * t + 1 = omega arith in
    let e2 : 32 * i + (4 * t + 2) ≡ 32 * i + 4 * t + 2 = omega arith in
    let e3 : 32 * i + (4 * t + 3) ≡ 32 * i + 4 * t + 3 = omega arith in
    rw (
      value_byte row i (4 * t) (omega arith),
      value_byte row i (4 * t + 1) (omega arith),
      value_byte row i (4 * t + 2) (omega arith),
      value_byte row i (4 * t + 3) (omega arith),
      e1,
      e2,
      e3,
    ) refl

pub length-value_at : (row : List ℕ) (i : ℕ) → 32 * i + 32 ≤ length row → length (value_at row i) ≡ 32
unfolding value_at
length-value_at row i fits = length-take-le 32 (drop (32 * i) row) (omega (arith, length-drop (32 * i) row))

value_bytes : (row : List ℕ) (i : ℕ) → AreBytes row → 32 * i + 32 ≤ length row → AreBytes (value_at row i)
value_bytes row i bytes fits k = elim (cases_lt k 32) [
  | inl below ↦ rw (value_byte row i k below) (bytes (32 * i + k))
  | inr past ↦
      let none : slice_index (value_at row i) k ≡ 0 = get_or_past (value_at row i) k 0 (omega (arith, length-value_at row i fits)) in
      omega (arith, none)
]

-- the words of value i
pub value_from_words : (row : List ℕ) (i : ℕ) (h : List ℕ) → AreBytes row → 32 * i + 32 ≤ length row
    → ((t : ℕ) → t < 8 → slice_index h t ≡ word_at row (32 * i + 4 * t)) → digest_bytes h 8 ≡ value_at row i
value_from_words row i h bytes fits at =
    let v = value_at row i in
    let long = length-value_at row i fits in
    bytes_from_words v h (value_bytes row i bytes fits) long (λ t lt. at t lt ∙ sym (value_word row i t lt)) 8 (omega arith) ∙ take_all 32 v (omega (arith, long))

-- ---- the head of a chain

two_bytes : (i : ℕ) → i < 2 ^ 16 → slice_index (to_be_bytes w16 i) 0 * 2 ^ 24 + slice_index (to_be_bytes w16 i) 1 * 2 ^ 16 ≡ i * 2 ^ 16 % 2 ^ 32
two_bytes i small = omega arith

word_in_head : (head number : List ℕ) (i : ℕ) → i + 4 ≤ length head → word_at head i ≡ word_at (head ++ number) i
word_in_head head number i fits =
    rw (
      get_or_append_left head number 0 i (omega arith),
      get_or_append_left head number 0 (i + 1) (omega arith),
      get_or_append_left head number 0 (i + 2) (omega arith),
      get_or_append_left head number 0 (i + 3) (omega arith),
    ) refl

head_word : (head number rest : List ℕ) → length head ≡ 20 → (t : ℕ) → t < 5
    → slice_index (word_at head 0 ∷ word_at head 4 ∷ word_at head 8 ∷ word_at head 12 ∷ word_at head 16 ∷ rest) t ≡ word_at (head ++ number) (4 * t)
head_word head number rest long zero lt = word_in_head head number 0 (omega (arith, long))
head_word head number rest long (suc zero) lt = word_in_head head number 4 (omega (arith, long))
head_word head number rest long (suc (suc zero)) lt = word_in_head head number 8 (omega (arith, long))
head_word head number rest long (suc (suc (suc zero))) lt = word_in_head head number 12 (omega (arith, long))
head_word head number rest long (suc (suc (suc (suc zero)))) lt = word_in_head head number 16 (omega (arith, long))
head_word head number rest long (suc (suc (suc (suc (suc t))))) lt = absurd (omega arith)

pub head_is : (head : List ℕ) (i : ℕ) → length head ≡ 20 → i < 2 ^ 16
    → IsHead (word_at head 0 ∷ word_at head 4 ∷ word_at head 8 ∷ word_at head 12 ∷ word_at head 16 ∷ (i * 2 ^ 16 % 2 ^ 32) ∷ []) (head ++ to_be_bytes w16 i)
head_is head i long small =
    let number = to_be_bytes w16 i in
    let high : slice_index (head ++ number) 20 ≡ slice_index number 0 = get_or-append_right head number 20 20 0 long (omega arith) in
    let low : slice_index (head ++ number) 21 ≡ slice_index number 1 = get_or-append_right head number 20 21 0 long (omega arith) in
    record {
      long = length-append head number ∙ ap (λ n. n + 2) long;
      words = head_word head number (i * 2 ^ 16 % 2 ^ 32 ∷ []) long;
      last = rw (high, low) (sym (two_bytes i small));
      small = omega arith;
    }

-- ---- a value written into a row

-- the values of a row's front
pub value_in_front : (row front rest : List ℕ) (n i : ℕ) → front ≡ take n row → n ≤ length row → 32 * i + 32 ≤ n
    → value_at (front ++ rest) i ≡ value_at row i
unfolding value_at
value_in_front row front rest n i is fits lt =
    let long : length front ≡ n = ap length is ∙ length-take-le n row fits in
    sym (drop-take (32 * i) 32 (front ++ rest))
    ∙ ap (drop (32 * i)) (
    take-append-le (32 * i + 32) front rest (omega (arith, long))
    ∙ ap (take (32 * i + 32)) is ∙ take-take (32 * i + 32) n row lt
    )
    ∙ drop-take (32 * i) 32 row

pub put_value : (row v : List ℕ) (i k : ℕ) → k ≡ 32 → 32 * i + 32 ≤ length row → length v ≡ 32
    → (value_at (put_mid (32 * i) k row v) i ≡ v) × ((m : ℕ) → m ≢ i → value_at (put_mid (32 * i) k row v) m ≡ value_at row m)
unfolding value_at
put_value row v i k is fits long =
    let rest = drop k (drop (32 * i) row) in (
      ap (take 32) (drop_at (take (32 * i) row) (v ++ rest) (32 * i) (length-take-le (32 * i) row (omega arith))) ∙ take_at v rest 32 long,
      λ m other. elim (cases_lt m i) [
        | inl below ↦
            sym (drop-take (32 * m) 32 (put_mid (32 * i) k row v))
            ∙ ap (drop (32 * m)) (take-put_mid_below (32 * i) k row v (32 * m + 32) (omega arith) (omega arith))
            ∙ drop-take (32 * m) 32 row
        | inr past ↦ elim (cases_lt i m) [
          | inl after ↦ ap (take 32) (drop-put_mid (32 * i) k row v (32 * m) (omega arith) (omega arith) (omega arith))
          | inr before ↦ absurd (other (omega arith))
        ]
      ],
    )
