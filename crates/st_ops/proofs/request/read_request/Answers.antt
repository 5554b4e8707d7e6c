use Rattle.std.proofs.Common.{subst, sym}
use Rattle.st_plain.specs.Plain.{IsProper}
use Rattle.st_ops.specs.Operation.{plain_operation}
use Rattle.st_ops.specs.Request.{IsComplete, IsDeltaWithin, IsReadAgain}
use Rattle.st_ops.proofs.RequestLemmas.{asked_is, complete_is, of_given}
use Rattle.st_ops.proofs.AgainLemmas.{read_asks_again}
use Rattle.st_ops.proofs.request.read_request.Goals as goal

pub returns-in-Ok-clause-complete : goal.returns-in-Ok-clause-complete
returns-in-Ok-clause-complete c =
    of_given IsComplete plain_operation _ c.asked.result c.asked.ensures.value
    (λ operation e. complete_is c.args.params.now _ operation (asked_is c.args.params.now _ operation e))

pub returns-in-Ok-clause-again : goal.returns-in-Ok-clause-again
returns-in-Ok-clause-again c =
    of_given (λ operation. IsDeltaWithin 125 operation → IsReadAgain c.args.params.now operation) plain_operation _ c.asked.result c.asked.ensures.value
    (λ operation. read_asks_again c.args.params.now _ operation (subst IsProper (sym c.root.ensures) c.in-Ok.ensures.proper))
