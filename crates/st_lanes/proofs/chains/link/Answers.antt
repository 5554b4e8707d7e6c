use Rattle.std.proofs.Common.{refl}
use Rattle.st_lanes.proofs.Lanes.{lane_at, splat_at}
use Rattle.st_lanes.proofs.chains.link.Goals as goal

pub returns : goal.returns
returns c k lt =
    rw (
      c.joined.ensures k lt,
      c.joined-2.ensures k lt,
      c.joined-3.ensures k lt,
      c.joined-4.ensures k lt,
      c.joined-5.ensures k lt,
      c.joined-6.ensures k lt,
      c.joined-7.ensures k lt,
      c.add-2.ensures k lt,
      c.add.ensures k lt,
      c.add-3.ensures k lt,
      c.shift_left.ensures k lt,
      c.shift_right.ensures k lt,
      c.shift_left-2.ensures k lt,
      splat_at 0x80 k lt,
      splat_at 0 k lt,
      splat_at 440 k lt,
      lane_at c.args.value.now k 0,
      lane_at c.args.value.now k 1,
      lane_at c.args.value.now k 2,
      lane_at c.args.value.now k 3,
      lane_at c.args.value.now k 4,
      lane_at c.args.value.now k 5,
      lane_at c.args.value.now k 6,
      lane_at c.args.value.now k 7,
      lane_at c.args.head.now k 0,
      lane_at c.args.head.now k 1,
      lane_at c.args.head.now k 2,
      lane_at c.args.head.now k 3,
      lane_at c.args.head.now k 4,
      lane_at c.args.head.now k 5,
    ) refl
