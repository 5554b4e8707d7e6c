use Rattle.std.proofs.Common.{◌≡◌, ◌++◌, drop, map}
use Rattle.std.specs.List.{filter_map}
use Rattle.st_ops.specs.Operation.{plain_operation}
use Rattle.st_batch.proofs.groups.push_parts.Given as goal

abbrev pub invariant-operations : goal.invariant-operations
invariant-operations g l =
    l.fn.parts ++ filter_map g.T.Gathered.of (map plain_operation l.operations)
    ≡ l.parts ++ filter_map g.T.Gathered.of (map plain_operation (drop l.operation-index l.operations))
