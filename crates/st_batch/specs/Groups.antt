-- The operations of a batch by kind, and the part of each that goes into the files (DIF Sidetree v1.0.0, "File
-- Structures").
use Rattle.std.specs.Prelude.{ℕ, Bool, true, false, List, ◌++◌, Option, Some, None, option_map, filter}
use Rattle.st_indexfiles.specs.declared.suffix_data.SuffixData.{SuffixData}
use Rattle.st_indexfiles.specs.declared.entries.Target.{Target}
use Rattle.st_ops.specs.Operation.{PlainOperation, creating, updating, recovering, deactivating}

-- ---- kinds

-- the operation is a create
abbrev pub is_create : PlainOperation → Bool
is_create (creating suffix_data delta) = true
is_create other = false

-- the operation is a recover
abbrev pub is_recover : PlainOperation → Bool
is_recover (recovering target proof delta) = true
is_recover other = false

-- the operation is a deactivate
abbrev pub is_deactivate : PlainOperation → Bool
is_deactivate (deactivating target proof) = true
is_deactivate other = false

-- the operation is an update
abbrev pub is_update : PlainOperation → Bool
is_update (updating target proof delta) = true
is_update other = false

-- operations by kind, each kind in the order in which they were queued
pub record Grouped : Type 0 where
  pub creates : List PlainOperation
  pub recovers : List PlainOperation
  pub deactivates : List PlainOperation
  pub updates : List PlainOperation

-- operations in groups by their kinds
unfoldable pub grouped : List PlainOperation → Grouped
grouped operations = record {
  creates = filter is_create operations;
  recovers = filter is_recover operations;
  deactivates = filter is_deactivate operations;
  updates = filter is_update operations;
}

-- creates, recovers, deactivates, updates
abbrev pub listed : Grouped → List PlainOperation
listed groups = groups.creates ++ groups.recovers ++ groups.deactivates ++ groups.updates

-- The operations in the order of a batch: creates, recovers, deactivates, updates, each kind in the
-- order in which they were queued.
abbrev pub in_order : List PlainOperation → List PlainOperation
in_order operations = listed (grouped operations)

-- those with a proof in the core proof file: recovers and deactivates
abbrev pub with_core_proof : Grouped → List PlainOperation
with_core_proof groups = groups.recovers ++ groups.deactivates

-- those with a delta, in the order of the chunk file: creates, recovers, updates
abbrev pub with_delta : Grouped → List PlainOperation
with_delta groups = groups.creates ++ groups.recovers ++ groups.updates

-- ---- the part of an operation that goes into a file; its delta is `delta_there`

-- the suffix data of a create
abbrev pub suffix_data_in : PlainOperation → Option SuffixData
suffix_data_in (creating suffix_data delta) = Some suffix_data
suffix_data_in other = None

-- the target of an operation of another kind
abbrev pub target_in : PlainOperation → Option Target
target_in (creating suffix_data delta) = None
target_in (updating target proof delta) = Some target
target_in (recovering target proof delta) = Some target
target_in (deactivating target proof) = Some target

-- its signed text, if there is a proof
abbrev pub signed_text_in : PlainOperation → Option (List ℕ)
signed_text_in (creating suffix_data delta) = None
signed_text_in (updating target proof delta) = option_map (λ found. found.text) proof
signed_text_in (recovering target proof delta) = option_map (λ found. found.text) proof
signed_text_in (deactivating target proof) = option_map (λ found. found.text) proof
