use Rattle.std.proofs.Common.{◌∙◌, ◌+◌, ap}
use Rattle.st_generate.specs.Talk.{one_if}
use Rattle.st_generate.proofs.ends.count.Goals as goal

pub returns : goal.returns
returns c = (
  c.in_ok-resolved.ensures ∙ ap (λ holds. c.args.resolved + one_if holds) c.begins_with.ensures,
  c.in_ok-agreed.ensures ∙ ap (λ holds. c.args.agreed + one_if holds) c.is_same.ensures,
)
