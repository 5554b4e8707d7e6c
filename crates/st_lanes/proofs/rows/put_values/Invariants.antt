use Rattle.std.proofs.Common.{◌≡◌, ℕ, ◌<◌, List, slice_index}
use Rattle.st_lanes.specs.Chains.{value_at}
use Rattle.st_lanes.specs.inside.Lanes.{AreValues}
use Rattle.st_lanes.proofs.rows.put_values.Given as goal

abbrev pub invariant-lanes : goal.invariant-lanes
invariant-lanes l = (end : ℕ → List ℕ) → AreValues end l.value l.numbers →
    ((m : ℕ) → m < l.k → value_at l.row (slice_index l.numbers m) ≡ end (slice_index l.numbers m))
    × ((i : ℕ) → value_at l.fn.row i ≡ end i → value_at l.row i ≡ end i)
