use Rattle.std.proofs.Common.{◌≡◌, ℕ, length, slice_index}
use Rattle.st_lanes.specs.inside.Lanes.{Moves}
use Rattle.st_lanes.proofs.chains.move_places.Given as goal

abbrev pub invariant-lanes : goal.invariant-lanes
invariant-lanes l =
    (length l.places ≡ 265)
    × ((i : ℕ) → Moves l.numbers l.k l.count (slice_index l.fn.places i) (slice_index l.places i) i)
