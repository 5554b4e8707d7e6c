use Rattle.std.proofs.Common.{◌+◌, ◌-◌, slice_index}
use Rattle.st_lanes.proofs.Lanes.{IsFilled}
use Rattle.st_lanes.proofs.chains.eight_before.Given as goal

abbrev pub invariant-lanes : goal.invariant-lanes
invariant-lanes l = IsFilled (λ k. slice_index l.order (l.end + k - 8)) 8 l.numbers l.k
