use Rattle.std.proofs.Common.{◌-◌}
use Rattle.st_batch.specs.Queue.{operations_of}
use Rattle.st_batch.proofs.PrefixSizeLemmas.{IsBetween}
use Rattle.st_batch.proofs.batch.halved.Given as goal

abbrev pub invariant-halving : goal.invariant-halving
invariant-halving l = IsBetween l.params (operations_of l.queued.entries) l.goes l.stops

abbrev pub decreases-halving : goal.decreases-halving
decreases-halving l = l.stops - l.goes
