-- The size in bytes of the entries of operations in the lists of their files, each with a comma after it, and the
-- sizes of the files from these (DIF Sidetree v1.0.0, "File Structures").
use Rattle.std.proofs.Common.{ℕ, ◌+◌, ◌==◌, Bool, List, filter, length, codes, if◌then◌else◌, Option, Some, None, option_map}
use Rattle.std.specs.Prelude.{max}
use Rattle.std.specs.List.{sum_by}
use Rattle.st_plain.specs.Measures.{size_of}
use Rattle.st_plain.specs.Plain.{Plain}
use Rattle.st_datafiles.specs.ProofFiles.{signed_json}
use Rattle.st_datafiles.specs.declared.role.Role.{Role}
use Rattle.st_datafiles.specs.declared.role.Role.TheVariants.{Core, CoreProof, Provisional, ProvisionalProof, Chunk}
use Rattle.st_indexfiles.specs.CoreIndex.{create_json, target_json}
use Rattle.st_ops.specs.Operation.{PlainOperation}
use Rattle.st_ops.specs.Request.{delta_there}
use Rattle.st_batch.specs.Groups.{is_create, is_deactivate, is_recover, is_update, signed_text_in, suffix_data_in, target_in}

-- the entries of each list: those of the core index file, of the provisional one, of the two proof files, of the
-- chunk file; and the numbers of operations for which a file is written
pub record Sizes : Type 0 where
  pub creates : ℕ
  pub recovers : ℕ
  pub deactivates : ℕ
  pub updates : ℕ
  pub recover_proofs : ℕ
  pub deactivate_proofs : ℕ
  pub update_proofs : ℕ
  pub deltas : ℕ
  pub for_core_proof : ℕ
  pub for_chunk : ℕ
  pub for_update_proof : ℕ

-- ---- entries

-- an entry with a comma after it, if there is one
abbrev pub entry_size : Option Plain → ℕ
entry_size None = 0
entry_size (Some entry) = size_of entry + 1

-- the entry that is written from a part of an operation, if it has the part
abbrev pub size_by : {Part : Type 0} → (Part → Plain) → (PlainOperation → Option Part) → PlainOperation → ℕ
size_by write part operation = entry_size (option_map write (part operation))

-- the suffix data of a create
abbrev pub create_size : PlainOperation → ℕ
create_size = size_by create_json suffix_data_in

-- the target of an operation of another kind
abbrev pub target_size : PlainOperation → ℕ
target_size = size_by target_json target_in

-- the signed text
abbrev pub proof_size : PlainOperation → ℕ
proof_size = size_by signed_json signed_text_in

-- the delta
abbrev pub delta_size : PlainOperation → ℕ
delta_size = size_by (λ (delta : Plain). delta) delta_there

-- any operation, to count them
abbrev pub one : PlainOperation → ℕ
one operation = 1

-- ---- lists of entries

-- the size of each list, by a function that sums over the operations of a kind
abbrev pub sizes_by : ((PlainOperation → Bool) → (PlainOperation → ℕ) → ℕ) → Sizes
sizes_by sum = record {
  creates = sum is_create create_size;
  recovers = sum is_recover target_size;
  deactivates = sum is_deactivate target_size;
  updates = sum is_update target_size;
  recover_proofs = sum is_recover proof_size;
  deactivate_proofs = sum is_deactivate proof_size;
  update_proofs = sum is_update proof_size;
  deltas = sum is_create delta_size + sum is_recover delta_size + sum is_update delta_size;
  for_core_proof = sum is_recover one + sum is_deactivate one;
  for_chunk = sum is_create one + sum is_recover one + sum is_update one;
  for_update_proof = sum is_update one;
}

-- those of these operations
abbrev pub sizes_of : List PlainOperation → Sizes
sizes_of operations = sizes_by (λ is_kind size. sum_by size (filter is_kind operations))

-- ---- parts of files

-- a list or an object whose entries have this many bytes, each with a comma after it
abbrev pub in_brackets : ℕ → ℕ
in_brackets inside = max 2 (inside + 1)

-- the size of a part that is left out if there are no entries for it, by their number or their bytes
abbrev pub where_any : ℕ → ℕ → ℕ
where_any entries size = if entries == 0 then 0 else size

-- a member with a list or an object whose entries have this many bytes, with a comma after it
abbrev pub member_size : List ℕ → ℕ → ℕ
member_size name inside = where_any inside (length name + inside + 5)

-- a member with the URI of a file, with a comma after it, if there are operations that need the file
abbrev pub uri_size : List ℕ → ℕ → ℕ
uri_size name entries = where_any entries (length name + 52)

-- ---- files, 0 if one is not written

-- the core index file
unfoldable pub core_size : Sizes → ℕ
core_size sizes = in_brackets (
    uri_size (codes "coreProofFileUri") sizes.for_core_proof
    + uri_size (codes "provisionalIndexFileUri") sizes.for_chunk
    + member_size (codes "operations") (
    member_size (codes "create") sizes.creates
    + member_size (codes "recover") sizes.recovers
    + member_size (codes "deactivate") sizes.deactivates))

-- the core proof file
unfoldable pub core_proof_size : Sizes → ℕ
core_proof_size sizes = where_any sizes.for_core_proof (in_brackets (
    member_size (codes "operations") (
    member_size (codes "recover") sizes.recover_proofs + member_size (codes "deactivate") sizes.deactivate_proofs)))

-- the provisional index file
unfoldable pub provisional_size : Sizes → ℕ
provisional_size sizes = where_any sizes.for_chunk (in_brackets (
    uri_size (codes "provisionalProofFileUri") sizes.for_update_proof
    + member_size (codes "chunks") (in_brackets (uri_size (codes "chunkFileUri") 1) + 1)
    + member_size (codes "operations") (member_size (codes "update") sizes.updates)))

-- the provisional proof file
unfoldable pub provisional_proof_size : Sizes → ℕ
provisional_proof_size sizes = where_any sizes.for_update_proof (in_brackets (
    member_size (codes "operations") (member_size (codes "update") sizes.update_proofs)))

-- the chunk file
unfoldable pub chunk_size : Sizes → ℕ
chunk_size sizes = where_any sizes.for_chunk (in_brackets (member_size (codes "deltas") sizes.deltas))

-- the file of a role
abbrev pub file_size : Role → Sizes → ℕ
file_size Core sizes = core_size sizes
file_size CoreProof sizes = core_proof_size sizes
file_size Provisional sizes = provisional_size sizes
file_size ProvisionalProof sizes = provisional_proof_size sizes
file_size Chunk sizes = chunk_size sizes
