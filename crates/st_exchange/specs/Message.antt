-- The messages of nodes about files, and the only encoding of each.
use Rattle.std.specs.Prelude.{◌≡◌, ◌≤◌, ℕ, zero, suc, ◌*◌, ◌==◌, nat_le, List, [], ◌∷◌, ◌++◌, length, take, drop, if◌then◌else◌, Option, Some, None, option_map}
use Rattle.std.specs.Int.{w32, from_be_bytes, to_be_bytes}
use Rattle.std.specs.List.{AllByRecursion, flat_map}
use Rattle.st_base.specs.Options.{◌>>◌}
use Rattle.st_hash.specs.Hash.{HashValue}
use Rattle.st_exchange.specs.declared.message.DecodeRefused.{DecodeRefused}
use Rattle.st_exchange.specs.declared.message.DecodeRefused.TheVariants as refused_is
use Rattle.st_exchange.specs.declared.message.Message.{Message}
use Rattle.st_exchange.specs.declared.message.Message.TheVariants.{Want, Have, Blob}

-- the largest number of URIs in a message
abbrev pub most_uris : ℕ
most_uris = 1000

-- the largest size of a blob in bytes
abbrev pub longest_blob : ℕ
longest_blob = 16000000

-- the hash is one of SHA-256
pub record IsUri (uri : HashValue) : Type 0 where
  pub sha256 : uri.code ≡ 0x12
  pub long : length uri.digest ≡ 32

-- so is each of these, and they are not too many
pub record AreListed (uris : List HashValue) : Type 0 where
  pub few : length uris ≤ most_uris
  pub each : AllByRecursion IsUri uris

-- A message is within these limits.
abbrev pub IsMessage : Message → Type 0
IsMessage (Want uris) = AreListed uris
IsMessage (Have uris) = AreListed uris
IsMessage (Blob bytes) = length bytes ≤ longest_blob

-- It lists at most the largest number of URIs, and its file is not too long.
abbrev pub IsShort : Message → Type 0
IsShort (Want uris) = length uris ≤ most_uris
IsShort (Have uris) = length uris ≤ most_uris
IsShort (Blob bytes) = length bytes ≤ longest_blob

-- ---- encoding

-- a number as 4 bytes, big-endian
unfoldable pub four_bytes : ℕ → List ℕ
four_bytes n = to_be_bytes w32 n

-- the digests, one after another
abbrev pub digests : List HashValue → List ℕ
digests uris = flat_map (λ uri. uri.digest) uris

-- the number of URIs, and the digest of each
abbrev pub spelled_uris : List HashValue → List ℕ
spelled_uris uris = four_bytes (length uris) ++ digests uris

-- The encoding of a message: a byte for its kind, and the list or the bytes of the file.
abbrev pub spelling : Message → List ℕ
spelling (Want uris) = 1 ∷ spelled_uris uris
spelling (Have uris) = 2 ∷ spelled_uris uris
spelling (Blob bytes) = 3 ∷ bytes

-- ---- decoding

-- the URIs whose digests are here one after another
abbrev pub uris_of : ℕ → List ℕ → List HashValue
uris_of zero bytes = []
uris_of (suc n) bytes = record { code = 0x12; digest = take 32 bytes } ∷ uris_of n (drop 32 bytes)

-- the number in 4 bytes, big-endian
unfoldable pub number_in : List ℕ → ℕ
number_in bytes = from_be_bytes w32 bytes

-- `count` URIs, if these are not too many and the bytes are their digests
abbrev pub listed_by : ℕ → List ℕ → Option (List HashValue)
listed_by count bytes = do
  nat_le count most_uris
  length bytes == 32 * count
  Some (uris_of count bytes)

-- the URIs after their number
abbrev pub listed : List ℕ → Option (List HashValue)
listed bytes = do
  nat_le 4 (length bytes)
  listed_by (number_in (take 4 bytes)) (drop 4 bytes)

-- the bytes of a file, if they are not too many
abbrev pub blob : List ℕ → Option (List ℕ)
blob bytes = if nat_le (length bytes) longest_blob then Some bytes else None

-- by the byte for the kind
abbrev pub message_by : ℕ → List ℕ → Option Message
message_by kind rest =
    if kind == 1 then option_map Want (listed rest)
    else if kind == 2 then option_map Have (listed rest)
    else if kind == 3 then option_map Blob (blob rest)
    else None

-- The message with this encoding.
abbrev pub message_of : List ℕ → Option Message
message_of [] = None
message_of (kind ∷ rest) = message_by kind rest

-- the refusal of an error; running out of memory is none
abbrev pub refusal_of : DecodeRefused → Option (Unit {0})
refusal_of refused_is.BadMessage = Some tt
refusal_of refused_is.WantOfMemory = None
