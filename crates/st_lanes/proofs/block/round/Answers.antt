use Rattle.std.proofs.Common.{refl}
use Rattle.st_lanes.proofs.Lanes.{lane_at, splat_at}
use Rattle.st_lanes.proofs.block.round.Goals as goal

pub returns : goal.returns
returns c j lt =
    rw (
      c.add-4.ensures j lt,
      c.add-5.ensures j lt,
      c.add-temp1.ensures j lt,
      c.add-3.ensures j lt,
      c.add-2.ensures j lt,
      c.add.ensures j lt,
      c.add-temp2.ensures j lt,
      c.big_sigma1.ensures j lt,
      c.ch.ensures j lt,
      c.big_sigma0.ensures j lt,
      c.maj.ensures j lt,
      splat_at c.args.k j lt,
      lane_at c.args.v j 0,
      lane_at c.args.v j 1,
      lane_at c.args.v j 2,
      lane_at c.args.v j 3,
      lane_at c.args.v j 4,
      lane_at c.args.v j 5,
      lane_at c.args.v j 6,
      lane_at c.args.v j 7,
    ) refl
