use Rattle.std.proofs.Common.{◌∙◌, take, ap}
use Rattle.st_ops.specs.Operation.{plain_operation}
use Rattle.st_batch.specs.inside.Groups.{with_operation}
use Rattle.st_batch.specs.Groups.{grouped}
use Rattle.st_batch.specs.Queue.{operations_of}
use Rattle.st_batch.proofs.FlushLemmas.{next_put}
use Rattle.st_batch.proofs.groups.groups_of.Goals as goal

pub operations-init : goal.operations-init
unfolding grouped
operations-init c = c.new-groups.ensures

pub operations-preserved : goal.operations-preserved
operations-preserved c =
    let first = grouped (take c.operations.place (operations_of c.args.entries.now.entries)) in
    next_put c.args.entries.now.entries c.operations.place c.in-Some.ensures.entry
    (c.in_ok-push.ensures ∙ (ap (λ groups. with_operation groups (plain_operation c.in_ok-operation.operation)) c.operations.invariant
    ∙ ap (λ one. with_operation first (plain_operation one)) c.in_ok-operation.ensures))
