use Rattle.st_batch.proofs.QueueLemmas.{counts_asking}
use Rattle.st_batch.proofs.queue.Queue.submit.Goals as goal

pub returns-clause-exact : goal.returns-clause-exact
returns-clause-exact c = counts_asking _ _ _ _ c.in_ok-operation.ensures.exact
