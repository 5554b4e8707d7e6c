-- The files of operations, and their anchor string (DIF Sidetree v1.0.0, "File Structures").
use Rattle.std.specs.Fmt.{decimal}
use Rattle.std.specs.List.{filter_map, list_all}
use Rattle.std.specs.Prelude.{ℕ, List, [], ◌∷◌, ◌++◌, length, Option, Some, None, option_map, ◌≡◌, zero, suc, ◌≤◌, ◌<◌, Bool, true, false, ◌&&◌, nat_le, if◌then◌else◌, take, drop}
use Rattle.st_plain.specs.Plain.{canonical}
use Rattle.st_hash.specs.Hash.{HashValue, hash_text, uri_of}
use Rattle.st_params.specs.ParamsValue.{ParamsValue}
use Rattle.st_indexfiles.specs.CoreIndex.{core_json}
use Rattle.st_indexfiles.specs.ProvisionalIndex.{provisional_json}
use Rattle.st_indexfiles.specs.declared.core_index.CoreIndex.{CoreIndex}
use Rattle.st_indexfiles.specs.declared.provisional_index.ProvisionalIndex.{ProvisionalIndex}
use Rattle.st_datafiles.specs.Chunk.{chunk_json}
use Rattle.st_datafiles.specs.ProofFiles.{core_proof_json, provisional_proof_json}
use Rattle.st_datafiles.specs.declared.role.Role.{Role}
use Rattle.st_datafiles.specs.declared.role.Role.TheVariants.{Core, CoreProof, Provisional, ProvisionalProof, Chunk}
use Rattle.st_ops.specs.Operation.{PlainOperation}
use Rattle.st_ops.specs.Request.{delta_there}
use Rattle.st_ledger.specs.Ledger.{dot}
use Rattle.st_batch.specs.Groups.{Grouped, grouped, signed_text_in, suffix_data_in, target_in, with_core_proof, with_delta}
use Rattle.st_batch.specs.declared.batch.Batch.{Batch}
use Rattle.st_batch.specs.declared.batch.BatchFile.{BatchFile}

-- this value, if there is one of these operations
abbrev pub if_any : {Said : Type 0} → List PlainOperation → Said → Option Said
if_any [] said = None
if_any (operation ∷ operations) said = Some said

-- ---- the files and their contents. Each operation of a batch has its proof and its delta, if
-- its kind has one, so no list misses an entry.

-- the core proof file, if there is a recover or a deactivate: their signed texts
unfoldable pub core_proof_file : Grouped → Option (List ℕ)
core_proof_file groups = if_any (with_core_proof groups) (canonical (core_proof_json (record {
  recovers = filter_map signed_text_in groups.recovers;
  deactivates = filter_map signed_text_in groups.deactivates;
})))

-- the provisional proof file, if there is an update: the signed texts of the updates
unfoldable pub provisional_proof_file : Grouped → Option (List ℕ)
provisional_proof_file groups =
    if_any groups.updates (canonical (provisional_proof_json (filter_map signed_text_in groups.updates)))

-- the text of the chunk file: the deltas of creates, recovers and updates
unfoldable pub chunk_text : Grouped → List ℕ
chunk_text groups = canonical (chunk_json (filter_map delta_there (with_delta groups)))

-- the chunk file, if there is a create, a recover or an update
abbrev pub chunk_file : Grouped → Option (List ℕ)
chunk_file groups = if_any (with_delta groups) (chunk_text groups)

-- the content of the provisional index file: the URIs of the two files below it, and the updates
unfoldable pub provisional_index : Grouped → ProvisionalIndex
provisional_index groups = record {
  proof = option_map uri_of (provisional_proof_file groups);
  chunk = uri_of (chunk_text groups);
  updates = filter_map target_in groups.updates;
}

-- the provisional index file, if there is a create, a recover or an update
unfoldable pub provisional_file : Grouped → Option (List ℕ)
provisional_file groups = if_any (with_delta groups) (canonical (provisional_json (provisional_index groups)))

-- the content of the core index file: the URIs of the two files that it names, and the other operations
unfoldable pub core_index : Grouped → CoreIndex
core_index groups = record {
  core_proof = option_map uri_of (core_proof_file groups);
  provisional = option_map uri_of (provisional_file groups);
  creates = filter_map suffix_data_in groups.creates;
  recovers = filter_map target_in groups.recovers;
  deactivates = filter_map target_in groups.deactivates;
}

-- the core index file
unfoldable pub core_file : Grouped → List ℕ
core_file groups = canonical (core_json (core_index groups))

-- ---- all of them

-- the file of a role, if there is one
abbrev pub file_in : Role → Grouped → Option (List ℕ)
file_in Core groups = Some (core_file groups)
file_in CoreProof groups = core_proof_file groups
file_in Provisional groups = provisional_file groups
file_in ProvisionalProof groups = provisional_proof_file groups
file_in Chunk groups = chunk_file groups

-- the size of a file in bytes, or 0 if there is none
abbrev pub bytes_there : Option (List ℕ) → ℕ
bytes_there None = 0
bytes_there (Some bytes) = length bytes

-- a file in its role with its URI, if there is one
abbrev pub filed : Role → Option (List ℕ) → List BatchFile
filed role None = []
filed role (Some bytes) = record { role = role; uri = uri_of bytes; bytes = bytes } ∷ []

-- the files in the order of their roles
unfoldable pub files_of : Grouped → List BatchFile
files_of groups =
    filed Core (file_in Core groups) ++ filed CoreProof (file_in CoreProof groups)
    ++ filed Provisional (file_in Provisional groups) ++ filed ProvisionalProof (file_in ProvisionalProof groups)
    ++ filed Chunk (file_in Chunk groups)

-- an anchor string: the number of operations, a dot, the URI of the core index file
abbrev pub anchor_text : ℕ → HashValue → List ℕ
anchor_text count core = decimal count ++ dot ∷ hash_text core

-- the batch of `count` operations by kind
abbrev pub batch_of_groups : ℕ → Grouped → Batch
batch_of_groups count groups = record {
  anchor = anchor_text count (uri_of (core_file groups));
  files = files_of groups;
}

-- The batch of all of these operations.
unfoldable pub batch_with : List PlainOperation → Batch
batch_with operations = batch_of_groups (length operations) (grouped operations)

-- ---- Which queued operations a batch takes.

-- the largest size of a file of this role, in bytes
abbrev pub most_bytes : ParamsValue → Role → ℕ
most_bytes limits Core = limits.max_index
most_bytes limits CoreProof = limits.max_proofs
most_bytes limits Provisional = limits.max_index
most_bytes limits ProvisionalProof = limits.max_proofs
most_bytes limits Chunk = limits.max_chunk

-- a file is at most as long as a file of its role may be
abbrev pub is_small : ParamsValue → BatchFile → Bool
is_small limits file = nat_le (length file.bytes) (most_bytes limits file.role)

-- all files of these operations are this small
unfoldable pub are_files_small : ParamsValue → List PlainOperation → Bool
are_files_small limits operations = list_all (is_small limits) (files_of (grouped operations))

-- these operations go into one batch: they are at most as many as a batch may declare, and no file of theirs is too
-- long
abbrev pub is_batch : ParamsValue → List PlainOperation → Bool
is_batch limits operations = nat_le (length operations) limits.max_operations && are_files_small limits operations

-- the greatest number up to this one that passes a test, or 0 if none does
abbrev pub greatest : (ℕ → Bool) → ℕ → ℕ
greatest passes zero = zero
greatest passes (suc n) = if passes (suc n) then suc n else greatest passes n

-- how many operations a batch takes: the greatest number such that this many first ones of the queue go into one
-- batch
unfoldable pub batch_count : ParamsValue → List PlainOperation → ℕ
batch_count limits queue = greatest (λ n. is_batch limits (take n queue)) (length queue)

-- the operations taken: the longest prefix of the queue that goes into one batch
abbrev pub batched : ParamsValue → List PlainOperation → List PlainOperation
batched limits queue = take (batch_count limits queue) queue

-- The batch of a queue at these limits.
abbrev pub batch_of : ParamsValue → List PlainOperation → Batch
batch_of limits queue = batch_with (batched limits queue)

-- The operations that stay queued, in order.
abbrev pub rest_of : ParamsValue → List PlainOperation → List PlainOperation
rest_of limits queue = drop (batch_count limits queue) queue

-- This many first operations go into one batch, or there are none, and no more do.
pub record IsLongest (limits : ParamsValue) (queue : List PlainOperation) (count : ℕ) : Type 0 where
  pub within : count ≤ length queue
  pub goes : 1 ≤ count → is_batch limits (take count queue) ≡ true
  pub longest : (more : ℕ) → count < more → more ≤ length queue → is_batch limits (take more queue) ≡ false
