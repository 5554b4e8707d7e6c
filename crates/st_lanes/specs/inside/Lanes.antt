-- Eight computations side by side: each word is a vector with a lane for each of them.
use Rattle.std.specs.Prelude.{ℕ, List, map, slice_index, ◌≡◌, ◌+◌, ◌*◌, ◌/◌, ◌%◌, ◌^◌, ◌<◌, ◌≤◌, [], ◌∷◌, length, ◌-◌, ◌++◌, ◌⊎◌}
use Rattle.std.specs.Int.{to_be_bytes, w16}
use Rattle.sha2.specs.Sha256.{add32, word_at, digest_bytes}
use Rattle.st_lanes.specs.Chains.{steps, value_at}

-- the words of computation j
abbrev pub lane : ℕ → List (List ℕ) → List ℕ
lane j x = map (λ v. slice_index v j) x

-- ---- The step of a chain on words: a message of 22 constant bytes, one byte, and the digest of the previous step.

-- the words h begin with the 22 bytes p, and the last two bytes of the sixth word are 0
pub record IsHead (h p : List ℕ) : Type 0 where
  pub long : length p ≡ 22
  pub words : (t : ℕ) → t < 5 → slice_index h t ≡ word_at p (4 * t)
  pub last : slice_index h 5 ≡ slice_index p 20 * 2 ^ 24 + slice_index p 21 * 2 ^ 16
  pub small : slice_index h 5 + 2 ^ 16 ≤ 2 ^ 32

-- each is a word
abbrev pub AreWords : List ℕ → Type 0
AreWords v = (i : ℕ) → slice_index v i < 2 ^ 32

-- the word of the last three bytes of x and the first of y
abbrev pub joined : ℕ → ℕ → ℕ
joined x y = add32 (x * 2 ^ 8 % 2 ^ 32) (y / 2 ^ 24)

-- the words of the block of a step: head, byte, value, padding
abbrev pub link_words : List ℕ → List ℕ → ℕ → List ℕ
link_words h v j =
    slice_index h 0 ∷ slice_index h 1 ∷ slice_index h 2 ∷ slice_index h 3 ∷ slice_index h 4
    ∷ add32 (add32 (slice_index h 5) (j * 2 ^ 8 % 2 ^ 32)) (slice_index v 0 / 2 ^ 24)
    ∷ joined (slice_index v 0) (slice_index v 1) ∷ joined (slice_index v 1) (slice_index v 2)
    ∷ joined (slice_index v 2) (slice_index v 3) ∷ joined (slice_index v 3) (slice_index v 4)
    ∷ joined (slice_index v 4) (slice_index v 5) ∷ joined (slice_index v 5) (slice_index v 6)
    ∷ joined (slice_index v 6) (slice_index v 7)
    ∷ add32 (slice_index v 7 * 2 ^ 8 % 2 ^ 32) 0x80 ∷ 0 ∷ 440 ∷ []

-- the words w are those of the value n places after place k, which has the value v
pub record IsAt (w p : List ℕ) (k : ℕ) (v : List ℕ) (n : ℕ) : Type 0 where
  pub words : AreWords w
  pub value : digest_bytes w 8 ≡ steps p k n v

-- the lanes hold the values `end` of their chains
abbrev pub AreValues : (ℕ → List ℕ) → List (List ℕ) → List ℕ → Type 0
AreValues end value numbers = (k : ℕ) → k < 8 → digest_bytes (lane k value) 8 ≡ end (slice_index numbers k)

-- ---- The walk of all chains.

-- one of the first n numbers is i
abbrev pub Has : List ℕ → ℕ → ℕ → Type 0
Has numbers n i = (k : ℕ) × (k < n) × (slice_index numbers k ≡ i)

-- chain i was at place `was` and is now at place `now`, some steps on if one of the first n lanes has it
abbrev pub Moves : List ℕ → ℕ → ℕ → ℕ → ℕ → ℕ → Type 0
Moves numbers n count was now i = ((now ≡ was + count) × Has numbers n i) ⊎ ((now ≡ was) × (¬ Has numbers n i))

-- the steps that chain i has left lead from its value in a row to its end
abbrev pub Leads : List ℕ → List ℕ → (ℕ → List ℕ) → List ℕ → List ℕ → ℕ → Type 0
Leads head to end row places i =
    steps (head ++ to_be_bytes w16 i) (slice_index places i) (slice_index to i - slice_index places i) (value_at row i) ≡ end i
