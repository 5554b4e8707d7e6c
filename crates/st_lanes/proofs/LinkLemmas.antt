-- The block of a message of 55 bytes.
use Rattle.std.proofs.Common.{◌≡◌, ℕ, List, [], ◌∷◌, ◌++◌, ◌/◌, length, take, length-append, arith, refl, ap, ◌∙◌, zero, suc, ◌+◌, ◌-◌, ◌*◌, ◌%◌, ◌^◌, ◌<◌, slice_index, mod-lt, pow_pos, sym, ◌≤◌, slice_index_or, add-one, ◌⊎◌, inl, inr, set, subst}
use Rattle.std.proofs.lemmas.Bool.{cases_eq}
use Rattle.std.proofs.lemmas.List.{take_all, append_assoc, get_or_append_left, get_or-append_right, get_or-set_other, get_or-set_same, get_or-take, get_or_default}
use Rattle.std.specs.Int.{from_be_bytes, to_be_bytes, w32}
use Rattle.sha2.specs.Sha256.{compress, digest_bytes, hash_after, initial_hash_256, sha256, padded_message, add32, add_state, first_words, word_at}
use Rattle.st_lanes.specs.Chains.{steps}
use Rattle.st_lanes.specs.inside.Lanes.{Has, IsAt, Moves, AreWords, IsHead, joined, link_words}

-- the bytes after the message
abbrev pub after : List ℕ
after = 0x80 ∷ 0 ∷ 0 ∷ 0 ∷ 0 ∷ 0 ∷ 0 ∷ 1 ∷ 0xb8 ∷ []

pub padded_is : (m : List ℕ) → length m ≡ 55 → padded_message m ≡ m ++ after
padded_is m long = rw long refl

-- the digest of a message, by its one block
pub hash_of_block : (m : List ℕ) → length m ≡ 55 → (h : List ℕ) {i : List ℕ} → h ≡ compress i (padded_message m) → i ≡ initial_hash_256
    → digest_bytes h 8 ≡ sha256 m
unfolding sha256 hash_after
hash_of_block m long h is first =
    let size : length (padded_message m) ≡ 64 = ap length (padded_is m long) ∙ length-append m after ∙ omega arith in
    let one : length (padded_message m) / 64 ≡ 1 = omega arith in
    let block : take 64 (padded_message m) ≡ padded_message m = take_all 64 (padded_message m) (omega arith) in
    ap (λ x. digest_bytes x 8) (is ∙ ap (λ x. compress x (padded_message m)) first ∙ rw (one, block) refl)

-- ---- The block of a step, word by word.

-- byte i of a word
abbrev byte_of : ℕ → ℕ → ℕ
byte_of i x = slice_index (to_be_bytes w32 x) i

joined_is : (x y : ℕ) → x < 2 ^ 32 → y < 2 ^ 32
    → from_be_bytes w32 (byte_of 1 x ∷ byte_of 2 x ∷ byte_of 3 x ∷ byte_of 0 y ∷ []) ≡ joined x y
joined_is x y fx fy = omega arith

last_is : (x : ℕ) → x < 2 ^ 32
    → from_be_bytes w32 (byte_of 1 x ∷ byte_of 2 x ∷ byte_of 3 x ∷ 0x80 ∷ []) ≡ add32 (x * 2 ^ 8 % 2 ^ 32) 0x80
last_is x fx = omega arith

sixth : (p h : List ℕ) (j x : ℕ) → IsHead h p → j < 256 → x < 2 ^ 32
    → from_be_bytes w32 (slice_index p 20 ∷ slice_index p 21 ∷ j ∷ byte_of 0 x ∷ [])
    ≡ add32 (add32 (slice_index h 5) (j * 2 ^ 8 % 2 ^ 32)) (x / 2 ^ 24)
sixth p h j x head fj fx = omega (arith, head.last, head.small)

pub link_block : (p h v : List ℕ) (j : ℕ) → IsHead h p → AreWords v → j < 256
    → link_words h v j ≡ first_words (padded_message (p ++ j ∷ digest_bytes v 8)) 16
unfolding digest_bytes first_words
link_block p h v j head fits byte =
    let m : List ℕ = p ++ j ∷ digest_bytes v 8 in
    let q : List ℕ = (j ∷ digest_bytes v 8) ++ after in
    let long : length m ≡ 55 = length-append p (j ∷ digest_bytes v 8) ∙ ap (λ n. n + 33) head.long in
    let whole : padded_message m ≡ p ++ q = padded_is m long ∙ append_assoc p (j ∷ digest_bytes v 8) after in
    let low : (i : ℕ) → i < 22 → slice_index (p ++ q) i ≡ slice_index p i =
    λ i lt. get_or_append_left p q 0 i (omega (arith, head.long)) in
    let high : (i : ℕ) → slice_index (p ++ q) (22 + i) ≡ slice_index q i =
    λ i.
    let same : 22 + i - 22 ≡ i = omega arith in
    get_or-append_right p q 22 (22 + i) 0 head.long (omega arith) ∙ ap (λ n. slice_index q n) same in
    let w0 : word_at (p ++ q) 0 ≡ slice_index h 0 = rw (low 0 (omega arith), low 1 (omega arith), low 2 (omega arith), low 3 (omega arith)) (sym (head.words 0 (omega arith))) in
    let w1 : word_at (p ++ q) 4 ≡ slice_index h 1 = rw (low 4 (omega arith), low 5 (omega arith), low 6 (omega arith), low 7 (omega arith)) (sym (head.words 1 (omega arith))) in
    let w2 : word_at (p ++ q) 8 ≡ slice_index h 2 = rw (low 8 (omega arith), low 9 (omega arith), low 10 (omega arith), low 11 (omega arith)) (sym (head.words 2 (omega arith))) in
    let w3 : word_at (p ++ q) 12 ≡ slice_index h 3 = rw (low 12 (omega arith), low 13 (omega arith), low 14 (omega arith), low 15 (omega arith)) (sym (head.words 3 (omega arith))) in
    let w4 : word_at (p ++ q) 16 ≡ slice_index h 4 = rw (low 16 (omega arith), low 17 (omega arith), low 18 (omega arith), low 19 (omega arith)) (sym (head.words 4 (omega arith))) in
    let w5 : word_at (p ++ q) 20 ≡ add32 (add32 (slice_index h 5) (j * 2 ^ 8 % 2 ^ 32)) (slice_index v 0 / 2 ^ 24) = rw (low 20 (omega arith), low 21 (omega arith), high 0, high 1) (sixth p h j (slice_index v 0) head byte (fits 0)) in
    let w6 : word_at (p ++ q) 24 ≡ joined (slice_index v 0) (slice_index v 1) = rw (high 2, high 3, high 4, high 5) (joined_is (slice_index v 0) (slice_index v 1) (fits 0) (fits 1)) in
    let w7 : word_at (p ++ q) 28 ≡ joined (slice_index v 1) (slice_index v 2) = rw (high 6, high 7, high 8, high 9) (joined_is (slice_index v 1) (slice_index v 2) (fits 1) (fits 2)) in
    let w8 : word_at (p ++ q) 32 ≡ joined (slice_index v 2) (slice_index v 3) = rw (high 10, high 11, high 12, high 13) (joined_is (slice_index v 2) (slice_index v 3) (fits 2) (fits 3)) in
    let w9 : word_at (p ++ q) 36 ≡ joined (slice_index v 3) (slice_index v 4) = rw (high 14, high 15, high 16, high 17) (joined_is (slice_index v 3) (slice_index v 4) (fits 3) (fits 4)) in
    let w10 : word_at (p ++ q) 40 ≡ joined (slice_index v 4) (slice_index v 5) = rw (high 18, high 19, high 20, high 21) (joined_is (slice_index v 4) (slice_index v 5) (fits 4) (fits 5)) in
    let w11 : word_at (p ++ q) 44 ≡ joined (slice_index v 5) (slice_index v 6) = rw (high 22, high 23, high 24, high 25) (joined_is (slice_index v 5) (slice_index v 6) (fits 5) (fits 6)) in
    let w12 : word_at (p ++ q) 48 ≡ joined (slice_index v 6) (slice_index v 7) = rw (high 26, high 27, high 28, high 29) (joined_is (slice_index v 6) (slice_index v 7) (fits 6) (fits 7)) in
    let w13 : word_at (p ++ q) 52 ≡ add32 (slice_index v 7 * 2 ^ 8 % 2 ^ 32) 0x80 = rw (high 30, high 31, high 32, high 33) (last_is (slice_index v 7) (fits 7)) in
    let w14 : word_at (p ++ q) 56 ≡ 0 = rw (high 34, high 35, high 36, high 37) refl in
    let w15 : word_at (p ++ q) 60 ≡ 440 = rw (high 38, high 39, high 40, high 41) refl in
    rw (whole, w0, w1, w2, w3, w4, w5, w6, w7, w8, w9, w10, w11, w12, w13, w14, w15) refl

pub add_state_words : (h v : List ℕ) → AreWords (add_state h v)
add_state_words h v zero = mod-lt _ (pow_pos 32)
add_state_words h v (suc zero) = mod-lt _ (pow_pos 32)
add_state_words h v (suc (suc zero)) = mod-lt _ (pow_pos 32)
add_state_words h v (suc (suc (suc zero))) = mod-lt _ (pow_pos 32)
add_state_words h v (suc (suc (suc (suc zero)))) = mod-lt _ (pow_pos 32)
add_state_words h v (suc (suc (suc (suc (suc zero))))) = mod-lt _ (pow_pos 32)
add_state_words h v (suc (suc (suc (suc (suc (suc zero)))))) = mod-lt _ (pow_pos 32)
add_state_words h v (suc (suc (suc (suc (suc (suc (suc zero))))))) = mod-lt _ (pow_pos 32)
add_state_words h v (suc (suc (suc (suc (suc (suc (suc (suc i)))))))) = omega arith

pub long_message : (p v : List ℕ) (j : ℕ) {h : List ℕ} → IsHead h p → length (p ++ j ∷ digest_bytes v 8) ≡ 55
unfolding digest_bytes
long_message p v j head = length-append p (j ∷ digest_bytes v 8) ∙ ap (λ n. n + 33) head.long

-- ---- Lanes step by step, and the order in which chains are walked.

-- the words of a value before any step
pub at_start : (w p : List ℕ) (k : ℕ) (v : List ℕ) → AreWords w → digest_bytes w 8 ≡ v → IsAt w p k v 0
unfolding steps
at_start w p k v words is = record { words = words; value = is }

-- the words after one more step
pub at_next : (p v w : List ℕ) (k n : ℕ) → AreWords w
    → digest_bytes w 8 ≡ sha256 (p ++ ((k + n + 255) % 256) ∷ steps p k n v) → IsAt w p k v (n + 1)
unfolding steps
at_next p v w k n words hashed = record { words = words; value = rw add-one hashed }

-- steps, and more of them
steps_more : (p : List ℕ) (k n m : ℕ) (v : List ℕ) → steps p k (n + m) v ≡ steps p (k + n) m (steps p k n v)
unfolding steps
steps_more p k n zero v = let none : n + 0 ≡ n = omega arith in ap (λ m. steps p k m v) none
steps_more p k n (suc m) v =
    let place : k + (n + m) ≡ k + n + m = omega arith in
    let one_more : n + suc m ≡ suc (n + m) = omega arith in
    ap (λ j. steps p k j v) one_more
    ∙ ap (λ j. sha256 (p ++ ((j + 255) % 256) ∷ steps p k (n + m) v)) place
    ∙ ap (λ w. sha256 (p ++ ((k + n + m + 255) % 256) ∷ w)) (steps_more p k n m v)

-- some of the steps to a place, and the others
pub steps_on : (p v : List ℕ) (was now to : ℕ) → was ≤ now → now - was ≤ to - was
    → steps p now (to - now) (steps p was (now - was) v) ≡ steps p was (to - was) v
steps_on p v was now to later fits =
    let here : now ≡ was + (now - was) = omega (arith, later) in
    let all : now - was + (to - now) ≡ to - was = omega (arith, later, fits) in
    ap (λ k. steps p k (to - now) (steps p was (now - was) v)) here ∙ sym (steps_more p was (now - was) (to - now) v) ∙ ap (λ n. steps p was n v) all

-- the numbers in order
pub numbered : (numbers : List ℕ) (count k d : ℕ) → length numbers ≡ 265 → ((i : ℕ) → i < 265 → slice_index numbers i ≡ i) → count ≤ 265 → k < count
    → slice_index_or (take count numbers) k d ≡ k
numbered numbers count k d long is fits lt =
    get_or-take count numbers k d lt ∙ get_or_default numbers k d 0 (omega arith) ∙ is k (omega arith)

-- ---- Which chains the lanes have.

module _ (numbers was : List ℕ) (count : ℕ) where
  -- no lane has moved its chain
  pub moves_none : (i : ℕ) → Moves numbers 0 count (slice_index was i) (slice_index was i) i
  moves_none i = inr (refl, λ found. omega (arith, found.1))

  -- the next lane moves its chain
  pub moves_more : (now : List ℕ) (k x i : ℕ) → slice_index numbers k < length now → x ≡ slice_index was (slice_index numbers k) + count
      → Moves numbers k count (slice_index was i) (slice_index now i) i
      → Moves numbers (k + 1) count (slice_index was i) (slice_index (set now (slice_index numbers k) x) i) i
  moves_more now k x i fits is before = elim (cases_eq (slice_index numbers k) i) [
    | inl same ↦
        let here : x ≡ slice_index was i + count = is ∙ ap (λ m. slice_index was m + count) same in
        inl (ap (slice_index (set now (slice_index numbers k) x)) (sym same) ∙ get_or-set_same now (slice_index numbers k) x 0 fits ∙ here, (k, omega arith, same))
    | inr other ↦
        let stays = get_or-set_other now (slice_index numbers k) i x 0 (λ same. other (sym same)) in
        elim before [
          | inl moved ↦ inl (stays ∙ moved.0, (moved.1.0, omega (arith, moved.1.1), moved.1.2))
          | inr stayed ↦ inr (
            stays ∙ stayed.0,
            λ found. elim (cases_eq found.0 k) [
              | inl last ↦ other (ap (slice_index numbers) (sym last) ∙ found.2)
              | inr less ↦ stayed.1 (found.0, omega (arith, found.1, less), found.2)
            ],
          )
        ]
  ]

module _ (E : ℕ → Type 0) (order : List ℕ) where
  -- the chain at place k has ended, and the last one takes its place
  pub has_rest : (n k : ℕ) → k < n → n ≤ length order → E (slice_index order k) → (i : ℕ) → E i ⊎ Has order n i
      → E i ⊎ Has (set order k (slice_index order (n - 1))) (n - 1) i
  has_rest n k lt fits ended i before = elim before [
    | inl done ↦ inl done
    | inr found ↦ elim (cases_eq found.0 k) [
      | inl same ↦ inl (subst E (ap (slice_index order) (sym same) ∙ found.2) ended)
      | inr other ↦ elim (cases_eq found.0 (n - 1)) [
        | inl last ↦
            let here = get_or-set_same order k (slice_index order (n - 1)) 0 (omega (arith, lt, fits)) in
            inr (k, omega (arith, lt, last, other), here ∙ ap (slice_index order) (sym last) ∙ found.2)
        | inr less ↦ inr (
          found.0,
          omega (arith, found.1, less),
          get_or-set_other order k found.0 (slice_index order (n - 1)) 0 other ∙ found.2,
        )
      ]
    ]
  ]
