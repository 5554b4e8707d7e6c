use Rattle.std.proofs.Common.{subst}
use Rattle.st_batch.specs.Queue.{AreDifferent}
use Rattle.st_batch.proofs.QueueLemmas.{different}
use Rattle.st_batch.proofs.queue.Queue.len.Goals as goal

pub returns-clause-different : goal.returns-clause-different
returns-clause-different c =
    subst AreDifferent c.self.view_is (different c.self.inside.queued.entries c.self.invariant c.len.ensures.unique)
