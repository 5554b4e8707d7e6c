-- Files by their URI, which is the SHA-256 hash of their bytes.
use Rattle.std.specs.Prelude.{◌≡◌, ℕ, List, map, Option, Some, if◌then◌else◌, is_some}
use Rattle.std.specs.BTreeMap.{insert_entry}
use Rattle.std.specs.Map.{lookup}
use Rattle.st_hash.specs.Hash.{HashValue, hash_cmp, same_hash, uri_of}

-- a URI and its file, each URI once, in their order
abbrev pub Files : Type 0
Files = List (HashValue × List ℕ)

-- the file of a URI
abbrev pub file_at : HashValue → Files → Option (List ℕ)
file_at uri files = lookup (same_hash uri) files

-- the files with this one, unless one of its URI is there
abbrev pub with_file : List ℕ → Files → Files
with_file file files =
    if is_some (file_at (uri_of file) files) then files else insert_entry hash_cmp files (uri_of file) file

-- each file has its own URI
abbrev pub AreNamed : Files → Type 0
AreNamed files = (uri : HashValue) (file : List ℕ) → file_at uri files ≡ Some file → uri_of file ≡ uri

-- the files with these digests
abbrev pub files_of : List (List ℕ × List ℕ) → Files
files_of entries = map (λ entry. (record { code = 0x12; digest = entry.0 }, entry.1)) entries
