use Rattle.std.proofs.Common.{refl}
use Rattle.st_lanes.proofs.Lanes.{lane_at}
use Rattle.st_lanes.proofs.block.add_states.Goals as goal

pub returns : goal.returns
returns c j lt =
    rw (
      c.add.ensures j lt,
      c.add-2.ensures j lt,
      c.add-3.ensures j lt,
      c.add-4.ensures j lt,
      c.add-5.ensures j lt,
      c.add-6.ensures j lt,
      c.add-7.ensures j lt,
      c.add-8.ensures j lt,
      lane_at c.args.h j 0,
      lane_at c.args.h j 1,
      lane_at c.args.h j 2,
      lane_at c.args.h j 3,
      lane_at c.args.h j 4,
      lane_at c.args.h j 5,
      lane_at c.args.h j 6,
      lane_at c.args.h j 7,
      lane_at c.args.v j 0,
      lane_at c.args.v j 1,
      lane_at c.args.v j 2,
      lane_at c.args.v j 3,
      lane_at c.args.v j 4,
      lane_at c.args.v j 5,
      lane_at c.args.v j 6,
      lane_at c.args.v j 7,
    ) refl
