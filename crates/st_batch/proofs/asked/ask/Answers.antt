use Rattle.std.proofs.Common.{arith}
use Rattle.st_ops.specs.Operation.{plain_operation}
use Rattle.st_batch.proofs.ReadBackLemmas.{right_within}
use Rattle.st_batch.proofs.QueueLemmas.{counts_asking, counts_opened, counts_refused}
use Rattle.st_batch.proofs.asked.ask.Goals as goal

pub returns-clause-fits : goal.returns-clause-fits
returns-clause-fits c =
    let right = c.in_ok-want_right_delta.ensures.right in
    record {
      request = c.in_ok-operation.ensures.again (right_within c.args.params.now (plain_operation c.in_ok-operation.operation) right);
      delta = right;
    }

pub returns-in_err-operation-clause-exact : goal.returns-in_err-operation-clause-exact
returns-in_err-operation-clause-exact c =
    counts_refused _ _ _ c.in_err-operation.field-0.0 _ (grind arith) c.in_err-operation.ensures.value c.in_err-operation.ensures.exact

pub returns-in_err-want_right_delta-clause-exact : goal.returns-in_err-want_right_delta-clause-exact
returns-in_err-want_right_delta-clause-exact c =
    let read = c.in_ok-operation.ensures in
    counts_asking _ _ _ _ (counts_opened _ _ _ c.in_ok-operation.operation read.value read.exact)

pub returns-clause-exact : goal.returns-clause-exact
returns-clause-exact c =
    let read = c.in_ok-operation.ensures in
    counts_opened _ _ _ c.in_ok-operation.operation read.value read.exact
