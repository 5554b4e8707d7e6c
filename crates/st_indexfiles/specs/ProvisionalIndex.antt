-- Provisional index files: the content of their JSON, and the JSON that is written (DIF Sidetree v1.0.0, "Provisional
-- Index File").
use Rattle.std.specs.List.{filter_map}
use Rattle.std.specs.Prelude.{ℕ, List, [], ◌∷◌, codes, map, Option, option_map, ◌+◌, ◌==◌, Bool, not, ◌&&◌, ◌||◌, nat_lt, length, is_none, is_some}
use Rattle.st_base.specs.Lists.{each_is, has_twice, shares_one}
use Rattle.st_base.specs.Rules.{Table, first_failing}
use Rattle.st_plain.specs.Objects.{object_of, object_of_some, some_list, some_listed, some_object}
use Rattle.st_plain.specs.Plain.{Plain, Members}
use Rattle.st_plain.specs.Shapes.{entries_in, member_in, only_member, only_of, is_object_of, json_in}
use Rattle.st_scan.specs.Standing.{is_object_of_lists_if_there}
use Rattle.st_hash.specs.Hash.{HashValue, same_hash}
use Rattle.st_params.specs.ParamsValue.{ParamsValue}
use Rattle.st_indexfiles.specs.CoreIndex.{operations_of, suffixes_of, one_alone, hash_json, uri_in, is_uri_if_there, target_json, target_of}
use Rattle.st_indexfiles.specs.declared.core_index.CoreIndex.{CoreIndex}
use Rattle.st_indexfiles.specs.declared.provisional_index.ProvisionalIndex.{ProvisionalIndex}
use Rattle.st_indexfiles.specs.declared.provisional_index.ProvisionalRule.{ProvisionalRule}
use Rattle.st_indexfiles.specs.declared.provisional_index.ProvisionalRule.TheVariants.{P1, P2, P3, P4, P5, P6, P7, P8, P9}
use Rattle.st_indexfiles.specs.declared.entries.Target.{Target}

-- ---- read

-- the URI of the chunk file: the only member of the only entry of `chunks`
unfoldable pub chunk_in : Option Plain → Option HashValue
chunk_in index = uri_in (only_member (codes "chunkFileUri") (only_of (entries_in (member_in (codes "chunks") index))))

-- the updates
unfoldable pub updates_in : ℕ → Option Plain → List Target
updates_in version index = filter_map (target_of version) (operations_of (codes "update") index)

-- the content of the JSON, given the URI of its chunk file
unfoldable pub provisional_with : ℕ → Option Plain → HashValue → ProvisionalIndex
provisional_with version index chunk = record {
  proof = uri_in (member_in (codes "provisionalProofFileUri") index);
  chunk = chunk;
  updates = updates_in version index;
}

-- the content of a provisional index file's JSON, if it names its chunk file
abbrev pub provisional_index_of : ℕ → Option Plain → Option ProvisionalIndex
provisional_index_of version index = option_map (provisional_with version index) (chunk_in index)

-- the suffixes of updates
abbrev pub suffixes_in : List Target → List HashValue
suffixes_in updates = map (λ update. update.suffix) updates

-- ---- written

-- the object that names a chunk file
abbrev pub chunk_json : HashValue → Plain
chunk_json uri = object_of ((codes "chunkFileUri", hash_json uri) ∷ [])

-- the list of updates of a provisional index file, if there are any
abbrev pub provisional_lists : ProvisionalIndex → List (List ℕ × Option Plain)
provisional_lists index = (codes "update", some_list (map target_json index.updates)) ∷ []

-- the updates of a provisional index file; without any the list is left out
abbrev pub provisional_operations : ProvisionalIndex → Members
provisional_operations index = some_listed (provisional_lists index)

-- the members of a provisional index file, without empty ones
abbrev pub provisional_members : ProvisionalIndex → List (List ℕ × Option Plain)
provisional_members index =
    (codes "provisionalProofFileUri", option_map hash_json index.proof)
    ∷ (codes "chunks", some_list (chunk_json index.chunk ∷ []))
    ∷ (codes "operations", some_object (provisional_operations index)) ∷ []

-- the JSON of an index, without an empty list and without an empty `operations`
abbrev pub provisional_json : ProvisionalIndex → Plain
provisional_json index = object_of_some (provisional_members index)

-- ---- The rules of a provisional index file, given its core index: a test for each, independent of the others, and the
-- table of them in their order. `None` is a file that is not JSON, or a missing value.

-- the members that a provisional index file may have
abbrev pub provisional_names : List (List ℕ)
provisional_names = codes "provisionalProofFileUri" ∷ codes "chunks" ∷ codes "operations" ∷ []

-- It is an object with no member of another name. `operations`, if present, is an object with no member except
-- `update`, which is a list.
unfoldable pub has_provisional_form : Option Plain → Bool
has_provisional_form index =
    is_object_of provisional_names index && is_object_of_lists_if_there (codes "update" ∷ []) (member_in (codes "operations") index)

-- `provisionalProofFileUri`, if present, is a SHA-256 hash text, and each update is an object with exactly its
-- members, which are hash texts of the version
unfoldable pub has_provisional_entries : ℕ → Option Plain → Bool
has_provisional_entries version index =
    is_uri_if_there (member_in (codes "provisionalProofFileUri") index)
    && each_is (target_of version) (operations_of (codes "update") index)

-- a suffix appears twice among these, or also in the core index
abbrev pub repeats_suffix : List HashValue → CoreIndex → Bool
repeats_suffix suffixes core = has_twice same_hash suffixes || shares_one same_hash suffixes (suffixes_of core)

-- the number of updates
unfoldable pub update_count : Option Plain → ℕ
update_count index = length (operations_of (codes "update") index)

-- the number of operations of the core index
abbrev pub core_count : CoreIndex → ℕ
core_count core = length core.creates + length core.recovers + length core.deactivates

-- ---- the table

-- the rules about the JSON
abbrev pub provisional_json_rules : ParamsValue → ℕ → CoreIndex → Option Plain → Table ProvisionalRule
provisional_json_rules limits count core index =
    (P3, not (has_provisional_form index))
    ∷ (P4, is_none (chunk_in index))
    ∷ (P5, not (has_provisional_entries limits.version index))
    ∷ (P6, repeats_suffix (suffixes_in (updates_in limits.version index)) core)
    ∷ (P7, nat_lt count (core_count core + update_count index))
    ∷ (P8, one_alone (is_some (member_in (codes "provisionalProofFileUri") index)) (nat_lt 0 (update_count index)))
    ∷ (P9, length core.creates + length core.recovers + update_count index == 0)
    ∷ []

-- all rules, under the declared count and given the core index
abbrev pub provisional_rules : ParamsValue → ℕ → CoreIndex → List ℕ → Table ProvisionalRule
provisional_rules limits count core file =
    (P1, nat_lt limits.max_index (length file))
    ∷ (P2, is_none (json_in file))
    ∷ provisional_json_rules limits count core (json_in file)

-- the name of a rule: a letter for provisional index files, and its number
abbrev pub provisional_rule_name : ProvisionalRule → List ℕ
provisional_rule_name P1 = codes "P1"
provisional_rule_name P2 = codes "P2"
provisional_rule_name P3 = codes "P3"
provisional_rule_name P4 = codes "P4"
provisional_rule_name P5 = codes "P5"
provisional_rule_name P6 = codes "P6"
provisional_rule_name P7 = codes "P7"
provisional_rule_name P8 = codes "P8"
provisional_rule_name P9 = codes "P9"

-- the first rule that a provisional index file fails
abbrev pub first_failing_provisional_rule : ParamsValue → ℕ → CoreIndex → List ℕ → Option ProvisionalRule
first_failing_provisional_rule limits count core file = first_failing (provisional_rules limits count core file)
