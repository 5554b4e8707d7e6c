use Rattle.std.proofs.Common.{ℕ, ◌<◌, ◌≤◌, ◌-◌, slice_index}
use Rattle.st_lanes.proofs.chains.shortest.Given as goal

abbrev pub invariant-lanes : goal.invariant-lanes
invariant-lanes l = (l.shortest < 8) × ((m : ℕ) → m < l.k
    → slice_index l.to (slice_index l.numbers l.shortest) - slice_index l.places (slice_index l.numbers l.shortest)
    ≤ slice_index l.to (slice_index l.numbers m) - slice_index l.places (slice_index l.numbers m))
