-- The parts of a core index file, each looked up once, and their content.
use Rattle.std.specs.List.{filter_map, AllByRecursion}
use Rattle.std.specs.Prelude.{ℕ, Bool, ◌&&◌, ◌||◌, nat_lt, if◌then◌else◌, codes, length, Option, Some, None, is_some, ⊤, List}
use Rattle.st_base.specs.Lists.{each_is}
use Rattle.st_plain.specs.Plain.{Plain}
use Rattle.st_plain.specs.Shapes.{member_in}
use Rattle.st_hash.specs.Hash.{HashValue}
use Rattle.st_indexfiles.specs.CoreIndex.{operations_of, one_alone, uri_in, create_of, create_json, target_of, target_json, ReadsAs, IsHashReadAgain}
use Rattle.st_indexfiles.specs.declared.core_index.CoreIndex.{CoreIndex}
use Rattle.st_indexfiles.specs.declared.core_index.CoreOperations.{CoreOperations}
use Rattle.st_indexfiles.specs.declared.core_index.CoreUris.{CoreUris}
use Rattle.st_indexfiles.specs.declared.provisional_index.ProvisionalIndex.{ProvisionalIndex}

-- its operations by kind
unfoldable pub core_operations_in : Option Plain → CoreOperations
core_operations_in index = record {
  creates = operations_of (codes "create") index;
  recovers = operations_of (codes "recover") index;
  deactivates = operations_of (codes "deactivate") index;
}

-- the files that it names
unfoldable pub core_uris_in : Option Plain → CoreUris
core_uris_in index = record {
  core_proof = uri_in (member_in (codes "coreProofFileUri") index);
  provisional = uri_in (member_in (codes "provisionalIndexFileUri") index);
}

-- their content, if each entry has its form
unfoldable pub core_said : ℕ → CoreUris → CoreOperations → Option CoreIndex
core_said version uris operations =
    if each_is (create_of version) operations.creates
    && (each_is (target_of version) operations.recovers && each_is (target_of version) operations.deactivates)
    then Some (record {
      core_proof = uris.core_proof;
      provisional = uris.provisional;
      creates = filter_map (create_of version) operations.creates;
      recovers = filter_map (target_of version) operations.recovers;
      deactivates = filter_map (target_of version) operations.deactivates;
    })
    else None

-- a URI of a proof file without a signed operation, or the reverse
unfoldable pub says_stray_proof : CoreIndex → Bool
says_stray_proof index =
    one_alone (is_some index.core_proof) (nat_lt 0 (length index.recovers) || nat_lt 0 (length index.deactivates))

-- a URI, if there is one
abbrev pub IsUriReadAgain : Option HashValue → Type 0
IsUriReadAgain None = ⊤
IsUriReadAgain (Some uri) = IsHashReadAgain uri

-- each entry, in each version
abbrev pub AreReadAgain : {Said : Type 0} → (ℕ → Plain → Option Said) → (Said → Plain) → List Said → Type 0
AreReadAgain read json said = AllByRecursion (λ one. (version : ℕ) → ReadsAs (read version (json one)) one) said

-- each part of a core index
pub record IsCoreReadAgain (index : CoreIndex) : Type 0 where
  pub core_proof : IsUriReadAgain index.core_proof
  pub provisional : IsUriReadAgain index.provisional
  pub creates : AreReadAgain create_of create_json index.creates
  pub recovers : AreReadAgain target_of target_json index.recovers
  pub deactivates : AreReadAgain target_of target_json index.deactivates

-- each part of a provisional index
pub record IsProvisionalReadAgain (index : ProvisionalIndex) : Type 0 where
  pub proof : IsUriReadAgain index.proof
  pub chunk : IsHashReadAgain index.chunk
  pub updates : AreReadAgain target_of target_json index.updates
