use Rattle.st_ops.proofs.RequestLemmas.{no_kind}
use Rattle.st_ops.proofs.request.asked.Goals as goal

pub returns-in_default-kind_in-clause-value : goal.returns-in_default-kind_in-clause-value
returns-in_default-kind_in-clause-value c = no_kind c.args.params.now c.args.request.now c.in_default-kind_in.ensures.none
