-- Hash texts in JSON. `None` is a missing value.
use Rattle.std.specs.List.{filter_map}
use Rattle.std.specs.Prelude.{ℕ, Bool, true, Option, Some, None, is_some, option_and_then, [], ◌∷◌, codes, List, ◌++◌, map, option_map, ◌+◌, false, not, ◌&&◌, ◌||◌, nat_le, nat_lt, length, is_none, ◌≡◌, IfSome}
use Rattle.st_base.specs.Lists.{each_is, has_twice}
use Rattle.st_base.specs.Options.{◌>>=◌, ◌>>◌}
use Rattle.st_base.specs.Rules.{Table, first_failing}
use Rattle.st_plain.specs.Plain.{canonical, Plain, text, Members}
use Rattle.st_plain.specs.Objects.{object_of, object_of_some, some_list, some_listed, some_object, text_in}
use Rattle.st_plain.specs.Shapes.{is_object_of, member_in, only_member, entries_in, json_in}
use Rattle.st_scan.specs.Standing.{is_object_of_lists_if_there}
use Rattle.st_hash.specs.Hash.{HashValue, hash_of_text, hash_of_text_at, hash_text, hash_of_with, same_hash}
use Rattle.st_params.specs.ParamsValue.{ParamsValue}
use Rattle.st_indexfiles.specs.declared.core_index.CoreIndex.{CoreIndex}
use Rattle.st_indexfiles.specs.declared.core_index.CoreRule.{CoreRule}
use Rattle.st_indexfiles.specs.declared.core_index.CoreRule.TheVariants.{C1, C2, C3, C4, C5, C6, C7, C8}
use Rattle.st_indexfiles.specs.declared.suffix_data.SuffixData.{SuffixData}
use Rattle.st_indexfiles.specs.declared.entries.Target.{Target}

-- the hash of the version whose hash text this value is
abbrev pub hash_in : ℕ → Option Plain → Option HashValue
hash_in version there = option_and_then (hash_of_text_at version) (option_and_then text_in there)

-- the file whose URI this value is: a SHA-256 hash text, in every version
abbrev pub uri_in : Option Plain → Option HashValue
uri_in there = option_and_then hash_of_text (option_and_then text_in there)

-- a URI, or no value
abbrev pub is_uri_if_there : Option Plain → Bool
is_uri_if_there None = true
is_uri_if_there (Some value) = is_some (uri_in (Some value))

-- a hash as JSON
abbrev pub hash_json : HashValue → Plain
hash_json hash = text (hash_text hash)

-- ---- Suffix data: the commitments of a create; and the suffix of its identifier (DIF Sidetree v1.0.0, "DID URI
-- Composition").

-- suffix data: an object with exactly the two hash texts of the version
abbrev pub suffix_data_of : ℕ → Option Plain → Option SuffixData
suffix_data_of version there = do
  is_object_of (codes "deltaHash" ∷ codes "recoveryCommitment" ∷ []) there
  delta_hash ← hash_in version (member_in (codes "deltaHash") there)
  recovery_commitment ← hash_in version (member_in (codes "recoveryCommitment") there)
  Some (record { delta_hash = delta_hash; recovery_commitment = recovery_commitment })

-- an entry of the creates: an object with exactly its suffix data
abbrev pub create_of : ℕ → Plain → Option SuffixData
create_of version entry = suffix_data_of version (only_member (codes "suffixData") (Some entry))

-- ---- written

-- suffix data as JSON, each hash as its text
abbrev pub suffix_data_json : SuffixData → Plain
suffix_data_json suffix_data = object_of
    ((codes "deltaHash", hash_json suffix_data.delta_hash)
    ∷ (codes "recoveryCommitment", hash_json suffix_data.recovery_commitment) ∷ [])

-- a create in a core index file
abbrev pub create_json : SuffixData → Plain
create_json create = object_of ((codes "suffixData", suffix_data_json create) ∷ [])

-- The suffix: the hash of the canonical text of the suffix data, by the algorithm of its delta hash.
abbrev pub suffix_of : SuffixData → HashValue
suffix_of suffix_data = hash_of_with suffix_data.delta_hash.code (canonical (suffix_data_json suffix_data))

-- ---- The target of an update, a recover or a deactivate.

-- an entry of them: an object with exactly the two hash texts of the version
abbrev pub target_of : ℕ → Plain → Option Target
target_of version entry = do
  is_object_of (codes "didSuffix" ∷ codes "revealValue" ∷ []) (Some entry)
  suffix ← hash_in version (member_in (codes "didSuffix") (Some entry))
  reveal ← hash_in version (member_in (codes "revealValue") (Some entry))
  Some (record { suffix = suffix; reveal = reveal })

-- an identifier and its reveal value, in an index file
abbrev pub target_json : Target → Plain
target_json target = object_of ((codes "didSuffix", hash_json target.suffix) ∷ (codes "revealValue", hash_json target.reveal) ∷ [])

-- ---- Core index files: the content of their JSON, and the JSON that is written (DIF Sidetree v1.0.0, "Core Index File").

-- ---- read

-- the entries of the operations of one kind; a missing list has none
abbrev pub operations_of : List ℕ → Option Plain → List Plain
operations_of kind index = entries_in (member_in kind (member_in (codes "operations") index))

-- The content of a core index file's JSON. An entry of another form is skipped: a rule refuses its file.
unfoldable pub core_index_of : ℕ → Option Plain → CoreIndex
core_index_of version index = record {
  core_proof = uri_in (member_in (codes "coreProofFileUri") index);
  provisional = uri_in (member_in (codes "provisionalIndexFileUri") index);
  creates = filter_map (create_of version) (operations_of (codes "create") index);
  recovers = filter_map (target_of version) (operations_of (codes "recover") index);
  deactivates = filter_map (target_of version) (operations_of (codes "deactivate") index);
}

-- the suffixes of all operations, those of creates computed
abbrev pub suffixes_of : CoreIndex → List HashValue
suffixes_of index =
    map suffix_of index.creates ++ map (λ target. target.suffix) index.recovers ++ map (λ target. target.suffix) index.deactivates

-- ---- written

-- the lists of a core index file by the kinds of its operations, without empty ones
abbrev pub core_lists : CoreIndex → List (List ℕ × Option Plain)
core_lists index =
    (codes "create", some_list (map create_json index.creates))
    ∷ (codes "recover", some_list (map target_json index.recovers))
    ∷ (codes "deactivate", some_list (map target_json index.deactivates)) ∷ []

-- the operations of a core index file by kind, without empty lists
abbrev pub core_operations : CoreIndex → Members
core_operations index = some_listed (core_lists index)

-- the members of a core index file, without empty ones
abbrev pub core_members : CoreIndex → List (List ℕ × Option Plain)
core_members index =
    (codes "coreProofFileUri", option_map hash_json index.core_proof)
    ∷ (codes "provisionalIndexFileUri", option_map hash_json index.provisional)
    ∷ (codes "operations", some_object (core_operations index)) ∷ []

-- the JSON of an index, without empty lists and without an empty `operations`
abbrev pub core_json : CoreIndex → Plain
core_json index = object_of_some (core_members index)

-- ---- The rules of a core index file: a test for each, independent of the others, and the table of them in their order.
-- `None` is a file that is not JSON, or a missing value.

-- the members that a core index file may have
abbrev pub core_names : List (List ℕ)
core_names =
    codes "coreProofFileUri" ∷ codes "provisionalIndexFileUri" ∷ codes "writerLockId" ∷ codes "operations" ∷ []

-- the kinds of operations that a core index file may name
abbrev pub core_kinds : List (List ℕ)
core_kinds = codes "create" ∷ codes "recover" ∷ codes "deactivate" ∷ []

-- It is an object with no member of another name. `operations`, if present, is an object with no member of another
-- name, and each of its members is a list.
unfoldable pub has_core_form : Option Plain → Bool
has_core_form index =
    is_object_of core_names index && is_object_of_lists_if_there core_kinds (member_in (codes "operations") index)

-- a text of at most this many bytes, or no value
abbrev pub is_lock_id_if_there : ℕ → Option Plain → Bool
is_lock_id_if_there most None = true
is_lock_id_if_there most (Some (text lock_id)) = nat_le (length lock_id) most
is_lock_id_if_there most (Some other) = false

-- each URI member, if present, is a SHA-256 hash text, and `writerLockId`, if present, is a text of at most this many
-- bytes
unfoldable pub has_core_members : ℕ → Option Plain → Bool
has_core_members max_lock_id index =
    is_uri_if_there (member_in (codes "coreProofFileUri") index)
    && (is_uri_if_there (member_in (codes "provisionalIndexFileUri") index)
    && is_lock_id_if_there max_lock_id (member_in (codes "writerLockId") index))

-- each entry is an object with exactly its members, and its hash texts are those of the version
unfoldable pub has_core_entries : ℕ → Option Plain → Bool
has_core_entries version index =
    each_is (create_of version) (operations_of (codes "create") index)
    && (each_is (target_of version) (operations_of (codes "recover") index)
    && each_is (target_of version) (operations_of (codes "deactivate") index))

-- the number of operations
unfoldable pub operation_count : Option Plain → ℕ
operation_count index =
    length (operations_of (codes "create") index) + length (operations_of (codes "recover") index)
    + length (operations_of (codes "deactivate") index)

-- there is a recover or a deactivate
unfoldable pub has_signed : Option Plain → Bool
has_signed index =
    nat_lt 0 (length (operations_of (codes "recover") index)) || nat_lt 0 (length (operations_of (codes "deactivate") index))

-- exactly one of the two
abbrev pub one_alone : Bool → Bool → Bool
one_alone true second = not second
one_alone false second = second

-- ---- the table

-- the rules about the JSON
abbrev pub core_json_rules : ParamsValue → ℕ → Option Plain → Table CoreRule
core_json_rules limits count index =
    (C3, not (has_core_form index))
    ∷ (C4, not (has_core_members limits.max_lock_id index))
    ∷ (C5, not (has_core_entries limits.version index))
    ∷ (C6, nat_lt count (operation_count index))
    ∷ (C7, has_twice same_hash (suffixes_of (core_index_of limits.version index)))
    ∷ (C8, one_alone (is_some (member_in (codes "coreProofFileUri") index)) (has_signed index))
    ∷ []

-- all rules, under the declared count
abbrev pub core_rules : ParamsValue → ℕ → List ℕ → Table CoreRule
core_rules limits count file =
    (C1, nat_lt limits.max_index (length file))
    ∷ (C2, is_none (json_in file))
    ∷ core_json_rules limits count (json_in file)

-- the name of a rule: a letter for core index files, and its number
abbrev pub core_rule_name : CoreRule → List ℕ
core_rule_name C1 = codes "C1"
core_rule_name C2 = codes "C2"
core_rule_name C3 = codes "C3"
core_rule_name C4 = codes "C4"
core_rule_name C5 = codes "C5"
core_rule_name C6 = codes "C6"
core_rule_name C7 = codes "C7"
core_rule_name C8 = codes "C8"

-- the first rule that a core index file fails
abbrev pub first_failing_core_rule : ParamsValue → ℕ → List ℕ → Option CoreRule
first_failing_core_rule limits count file = first_failing (core_rules limits count file)

-- ---- What was written is read back unchanged by every version that reads it.

-- if it is read, it is read as this
abbrev pub ReadsAs : {Said : Type 0} → Option Said → Said → Type 0
ReadsAs read said = IfSome read (λ found. found ≡ said)

-- a hash text, in each version
abbrev pub IsHashReadAgain : HashValue → Type 0
IsHashReadAgain hash = (version : ℕ) → ReadsAs (hash_of_text_at version (hash_text hash)) hash
