use Rattle.std.proofs.Common.{slice_index}
use Rattle.st_lanes.proofs.Lanes.{IsFilled}
use Rattle.st_lanes.proofs.chains.pick.Given as goal

abbrev pub invariant-lanes : goal.invariant-lanes
invariant-lanes l = IsFilled (λ k. slice_index l.table (slice_index l.numbers k)) 8 l.picked l.k
