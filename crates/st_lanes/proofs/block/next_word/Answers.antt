use Rattle.std.proofs.Common.{◌≡◌, ◌%◌, ◌+◌, arith, refl}
use Rattle.st_lanes.proofs.Lanes.{lane_at}
use Rattle.st_lanes.proofs.block.next_word.Goals as goal

pub returns-clause-value : goal.returns-clause-value
returns-clause-value c j lt =
    let w = c.args.w.now in
    let place = c.args.place in
    let at : place % 16 ≡ place = omega arith in
    rw (
      c.add-word.ensures j lt,
      c.add-2.ensures j lt,
      c.add.ensures j lt,
      c.small_sigma1.ensures j lt,
      c.small_sigma0.ensures j lt,
      lane_at w j ((place + 14) % 16),
      lane_at w j ((place + 9) % 16),
      lane_at w j ((place + 1) % 16),
      lane_at w j (place % 16),
      at,
    ) refl
