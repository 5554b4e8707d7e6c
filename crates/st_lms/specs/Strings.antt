-- Byte strings (RFC 8554, section 3.1).
use Rattle.std.specs.Prelude.{ℕ, zero, suc, ◌+◌, ◌-◌, ◌*◌, ◌/◌, ◌%◌, ◌^◌, List, [], ◌++◌, slice_index}
use Rattle.std.specs.Int.{w16, w32, to_be_bytes, from_be_bytes}
-- string i of a row of strings of 32 bytes
unfoldable pub use Rattle.st_lanes.specs.Chains.{value_at}

-- a number as 4 bytes, big-endian (3.1.1)
unfoldable pub u32str : ℕ → List ℕ
u32str n = to_be_bytes w32 n

-- a number as 2 bytes, big-endian (3.1.1)
unfoldable pub u16str : ℕ → List ℕ
u16str n = to_be_bytes w16 n

-- the number in 4 bytes (3.1.1)
unfoldable pub str_to_u32 : List ℕ → ℕ
str_to_u32 bytes = from_be_bytes w32 bytes

-- the i-th group of w bits, from the highest bit of the first byte on (3.1.3)
unfoldable pub coef : List ℕ → ℕ → ℕ → ℕ
coef s i w = slice_index s (i * w / 8) / 2 ^ (8 - (w * (i % (8 / w)) + w)) % 2 ^ w

-- the first n of a row of strings, joined
unfoldable pub joined : (ℕ → List ℕ) → ℕ → List ℕ
joined string zero = []
joined string (suc n) = joined string n ++ string n
