use Rattle.std.proofs.Common.{◌+◌, ◌*◌, slice_index}
use Rattle.sha2.specs.Sha256.{word_at}
use Rattle.st_lanes.proofs.Lanes.{IsFilled}
use Rattle.st_lanes.proofs.rows.gather.Given as goal

abbrev pub invariant-lanes : goal.invariant-lanes
invariant-lanes l = IsFilled (λ k. word_at l.row (32 * slice_index l.numbers k + 4 * l.t)) 8 l.words l.k
