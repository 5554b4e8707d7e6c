-- Chains of digests. The places of a chain are numbered from 0 on, and each has a value of 32 bytes.
use Rattle.std.specs.Prelude.{ℕ, zero, suc, ◌+◌, ◌-◌, ◌*◌, ◌%◌, List, ◌∷◌, ◌++◌, drop, slice_index, take}
use Rattle.std.specs.Int.{to_be_bytes, w16}
use Rattle.sha2.specs.Sha256.{sha256}

-- the value n places after place k, which has the value v. A step hashes the head p, a byte, and the
-- value before; the byte is 0xff at place 0, and k - 1 at place k
unfoldable pub steps : List ℕ → ℕ → ℕ → List ℕ → List ℕ
steps p k zero v = v
steps p k (suc n) v = sha256 (p ++ ((k + n + 255) % 256) ∷ steps p k n v)

-- value i of a row of values
unfoldable pub value_at : List ℕ → ℕ → List ℕ
value_at row i = take 32 (drop (32 * i) row)

-- the value at which chain i ends, if it begins at place `from i` with value i of a row, and ends at
-- place `to i`
abbrev pub end_of : List ℕ → List ℕ → List ℕ → List ℕ → ℕ → List ℕ
end_of head from to starts i =
    steps (head ++ to_be_bytes w16 i) (slice_index from i) (slice_index to i - slice_index from i) (value_at starts i)
