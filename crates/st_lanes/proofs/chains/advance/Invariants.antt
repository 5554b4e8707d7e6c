use Rattle.std.proofs.Common.{ℕ, ◌<◌, ◌++◌, slice_index}
use Rattle.std.specs.Int.{to_be_bytes, w16}
use Rattle.st_lanes.specs.Chains.{value_at}
use Rattle.st_lanes.specs.inside.Lanes.{IsAt, lane}
use Rattle.st_lanes.proofs.chains.advance.Given as goal

abbrev pub invariant-steps : goal.invariant-steps
invariant-steps l =
    (k : ℕ) → k < 8 → IsAt (lane k l.value) (l.head ++ to_be_bytes w16 (slice_index l.numbers k)) (slice_index l.first k) (value_at l.row (slice_index l.numbers k)) l.done
