-- A vault and a counter as contracts see them.
use Rattle.std.specs.Prelude.{ℕ, ◌+◌, ◌-◌, ◌^◌, Bool, ◌==◌, ◌&&◌, nat_le, if◌then◌else◌, List, [], ◌∷◌, ◌++◌, length, take, drop, slice_index, max, Contains}
use Rattle.sha2.specs.Sha256.{sha256}
use Rattle.st_lms.specs.Signature.{is_one_time_type, is_tree_type}
use Rattle.st_lms.specs.Tree.{SecretKey}
use Rattle.st_lms.specs.OneTime.{height}
use Rattle.st_lms.specs.Strings.{u32str, str_to_u32, u16str}

-- a vault: an LMS secret key, and the next of its counters
pub record VaultValue : Type 0 where
  pub key : SecretKey
  pub next : ℕ

-- a counter: its key and its number
pub record CounterValue : Type 0 where
  pub key : SecretKey
  pub number : ℕ

-- how many counters a key has: one for each leaf of its tree (RFC 8554, section 5)
abbrev pub count_of : SecretKey → ℕ
count_of key = 2 ^ height key.tree

-- how many counters of a vault can still be reserved
abbrev pub left_of : VaultValue → ℕ
left_of vault = count_of vault.key - vault.next

-- the vault of a key whose first counter is the next
abbrev pub new_vault : SecretKey → VaultValue
new_vault key = record { key = key; next = 0 }

-- the vault after its next counter was reserved
abbrev pub vault_after : VaultValue → VaultValue
vault_after vault = record { key = vault.key; next = vault.next + 1 }

-- and that counter
abbrev pub counter_of : VaultValue → CounterValue
counter_of vault = record { key = vault.key; number = vault.next }

-- ---- The bytes of a disk as a vault's image. The first byte is a gate; a header follows, with the types, the identifier
-- I and the seed of an LMS key (RFC 8554, appendix A), and zeros up to byte 63, which no one reads; a map from byte
-- 64 on has a byte for each counter of the key. Bytes after the map are ignored.

-- ---- the gate, the header and the map

-- the gate of a vault; every other value is shut
abbrev pub open_gate : ℕ
open_gate = 0xa5

-- there are 64 bytes, and the gate is open
abbrev pub is_formatted : List ℕ → Bool
is_formatted image = nat_le 64 (length image) && (slice_index image 0 == open_gate)

-- the key in a header: its LM-OTS type, its LMS type, I, and the seed
unfoldable pub key_of_header : List ℕ → SecretKey
key_of_header header = record {
  ots = str_to_u32 (take 4 header);
  tree = str_to_u32 (take 4 (drop 4 header));
  id = take 16 (drop 8 header);
  seed = take 32 (drop 24 header);
}

-- the header of a key
unfoldable pub header_of : SecretKey → List ℕ
header_of key = u32str key.ots ++ u32str key.tree ++ key.id ++ key.seed

-- the key of an image, whose header follows the gate
abbrev pub key_in : List ℕ → SecretKey
key_in image = key_of_header (drop 1 image)

-- the map of an image for this many counters
abbrev pub map_in : ℕ → List ℕ → List ℕ
map_in count image = take count (drop 64 image)

-- ---- the kinds of images

-- blank, damaged, or a vault with its key and its map
pub data Kind : Type 0 where
  Blank : Kind
  Damaged : Kind
  Whole : (key : SecretKey) (map : List ℕ) → Kind

-- both types of a key are known (RFC 8554, sections 4.1 and 5.1), and its map fits into a length
abbrev pub is_whole : SecretKey → ℕ → Bool
is_whole key len =
    (is_one_time_type key.ots && is_tree_type key.tree) && nat_le (64 + count_of key) len

-- an image that is not formatted is blank; else it is a vault, with its key and its map, if both types are known and
-- the map is complete; else it is damaged
unfoldable pub kind_of : List ℕ → Kind
kind_of image =
    if is_formatted image
    then (if is_whole (key_in image) (length image)
    then Whole (key_in image) (map_in (count_of (key_in image)) image)
    else Damaged)
    else Blank

-- ---- spent counters

-- the places of the nonzero bytes of a map, whose first byte has this place
abbrev pub nonzero_from : ℕ → List ℕ → List ℕ
nonzero_from place [] = []
nonzero_from place (byte ∷ map) =
    if byte == 0 then nonzero_from (place + 1) map else place ∷ nonzero_from (place + 1) map

-- the places of the nonzero bytes of a vault's map; an image that is not a vault has none
abbrev pub spent_by_kind : Kind → List ℕ
spent_by_kind (Whole key map) = nonzero_from 0 map
spent_by_kind Blank = []
spent_by_kind Damaged = []

-- the spent counters of an image
unfoldable pub spent : List ℕ → List ℕ
spent image = spent_by_kind (kind_of image)

-- this counter is spent in an image
abbrev pub IsSpent : List ℕ → ℕ → Type 0
IsSpent image q = Contains (spent image) q

-- one more than the greatest of some numbers, or 0 if there are none
abbrev pub one_past : List ℕ → ℕ
one_past [] = 0
one_past (n ∷ ns) = max (n + 1) (one_past ns)

-- the next counter: one more than the greatest spent one, or 0
unfoldable pub next_counter : List ℕ → ℕ
next_counter image = one_past (spent image)

-- ---- Child keys of a key: LMS secret keys of their own, derived from it by hashes of the same form as its one-time keys
-- (RFC 8554, appendix A). The crates above choose their use.

-- separates the hash for a child's identifier
abbrev pub d_child_id : ℕ
d_child_id = 0xfff0

-- separates the hash for a child's seed
abbrev pub d_child_seed : ℕ
d_child_seed = 0xfff1

-- the hash of a key for its child n, for the purpose d
unfoldable pub child_hash : SecretKey → ℕ → ℕ → List ℕ
child_hash key n d = sha256 (key.id ++ u32str n ++ u16str d ++ key.seed)

-- child n of a key: of the same LM-OTS type, and with a tree of height 5, which is LMS type 5
unfoldable pub child_of : SecretKey → ℕ → SecretKey
child_of key n = record {
  ots = key.ots;
  tree = 5;
  id = take 16 (child_hash key n d_child_id);
  seed = child_hash key n d_child_seed;
}
