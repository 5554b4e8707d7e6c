use Rattle.std.proofs.Common.{◌∙◌, ◌++◌, List, map}
use Rattle.std.proofs.Math.Path.{ap₂}
use Rattle.std.specs.List.{filter_map}
use Rattle.st_plain.specs.Plain.{Plain}
use Rattle.st_ops.specs.Operation.{plain_operation}
use Rattle.st_ops.specs.Request.{delta_there}
use Rattle.st_ops.specs.declared.operation.Operation.{Operation}
use Rattle.st_batch.specs.inside.Groups.{plain_groups}
use Rattle.st_batch.proofs.FlushLemmas.{parts_of_three}
use Rattle.st_batch.proofs.files.deltas.Goals as goal

pub returns : goal.returns
returns c =
    let groups = plain_groups c.args.groups.now in
    let more = λ (sofar : List Plain) (operations : List Operation). sofar ++ filter_map delta_there (map plain_operation operations) in
    c.in_ok-push_parts-3.ensures ∙ ap₂ more (c.in_ok-push_parts-2.ensures ∙ ap₂ more (c.in_ok-push_parts.ensures
    ∙ ap₂ more c.new-deltas.ensures c.as_slice.ensures) c.as_slice-2.ensures) c.as_slice-3.ensures
    ∙ parts_of_three delta_there groups.creates groups.recovers groups.updates
