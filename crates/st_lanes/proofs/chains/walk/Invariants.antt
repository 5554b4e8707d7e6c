use Rattle.std.proofs.Common.{◌≡◌, ℕ, ◌<◌, ◌≤◌, ◌-◌, ◌⊎◌, length, slice_index}
use Rattle.st_lanes.specs.inside.Lanes.{Has, Leads}
use Rattle.st_lanes.specs.Chains.{end_of}
use Rattle.st_lanes.proofs.chains.walk.Given as goal

abbrev pub invariant-chains : goal.invariant-chains
invariant-chains l =
    (length l.order ≡ 265)
    × (length l.row ≡ 8480)
    × ((i : ℕ) → i < l.count → Leads l.head l.to (end_of l.head l.from l.to l.starts) l.row l.places i)
    × ((k : ℕ) → k < l.count - l.ended → slice_index l.order k < l.count)
    × ((i : ℕ) → i < l.count → (slice_index l.to i ≤ slice_index l.places i) ⊎ Has l.order (l.count - l.ended) i)
