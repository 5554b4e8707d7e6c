use Rattle.std.proofs.Common.{◌≡◌, take}
use Rattle.st_batch.specs.inside.Groups.{plain_groups}
use Rattle.st_batch.specs.Groups.{grouped}
use Rattle.st_batch.specs.Queue.{operations_of}
use Rattle.st_batch.proofs.groups.groups_of.Given as goal

abbrev pub invariant-operations : goal.invariant-operations
invariant-operations l = plain_groups l.groups ≡ grouped (take l.place (operations_of l.entries.entries))
