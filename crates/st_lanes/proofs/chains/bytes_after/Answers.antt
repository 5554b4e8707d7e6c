use Rattle.std.proofs.Common.{◌≡◌, ◌∙◌, ◌+◌, ◌%◌, slice_index, arith}
use Rattle.std.proofs.lemmas.Nat.{and_mask}
use Rattle.st_lanes.proofs.Lanes.{splat_at}
use Rattle.st_lanes.proofs.chains.bytes_after.Goals as goal

pub returns : goal.returns
returns c k lt =
    let sum : slice_index c.add.result k % 256 ≡ (slice_index c.args.from k + c.args.done + 255) % 256 =
    omega (arith, c.add.ensures k lt, c.add-places.ensures k lt, splat_at c.args.done k lt, splat_at 255 k lt) in
    c.and.ensures k lt ∙ rw (splat_at 255 k lt) (and_mask (slice_index c.add.result k) 8) ∙ sum
