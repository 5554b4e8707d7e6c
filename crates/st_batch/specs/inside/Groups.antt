-- Operations that are put into groups, one after another. No contract of a public call mentions them.
use Rattle.std.specs.List.{list_all}
use Rattle.std.specs.Prelude.{[], ◌∷◌, ◌++◌, map, ℕ, if◌then◌else◌, List, Option, Some, None}
use Rattle.st_params.specs.ParamsValue.{ParamsValue}
use Rattle.st_ops.specs.Operation.{PlainOperation, creating, updating, recovering, deactivating, plain_operation}
use Rattle.st_batch.specs.Batch.{batch_of_groups, files_of, is_small}
use Rattle.st_batch.specs.Groups.{Grouped}
use Rattle.st_batch.specs.declared.batch.Batch.{Batch}
use Rattle.st_batch.specs.declared.batch.BatchFile.{BatchFile}
use Rattle.st_batch.specs.declared.groups.Groups.{Groups}

-- the plain operations of groups
abbrev pub plain_groups : Groups → Grouped
plain_groups groups = record {
  creates = map plain_operation groups.creates;
  recovers = map plain_operation groups.recovers;
  deactivates = map plain_operation groups.deactivates;
  updates = map plain_operation groups.updates;
}

-- groups without operations
abbrev pub no_groups : Grouped
no_groups = record { creates = []; recovers = []; deactivates = []; updates = [] }

-- groups with one more operation, the last of its kind
abbrev pub with_operation : Grouped → PlainOperation → Grouped
with_operation groups (creating suffix_data delta) =
    record groups { creates = groups.creates ++ creating suffix_data delta ∷ [] }
with_operation groups (recovering target proof delta) =
    record groups { recovers = groups.recovers ++ recovering target proof delta ∷ [] }
with_operation groups (deactivating target proof) =
    record groups { deactivates = groups.deactivates ++ deactivating target proof ∷ [] }
with_operation groups (updating target proof delta) =
    record groups { updates = groups.updates ++ updating target proof delta ∷ [] }

-- these files, if all of them are this small
abbrev pub where_small : ParamsValue → List BatchFile → Option (List BatchFile)
where_small limits files = if list_all (is_small limits) files then Some files else None

-- the batch of `count` operations by kind, if all of its files are small
abbrev pub batch_where_small : ParamsValue → ℕ → Grouped → Option Batch
batch_where_small limits count groups =
    if list_all (is_small limits) (files_of groups) then Some (batch_of_groups count groups) else None
