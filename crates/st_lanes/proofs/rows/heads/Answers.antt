use Rattle.std.proofs.Common.{slice_index, arith}
use Rattle.st_lanes.proofs.Lanes.{splat_at, head_is}
use Rattle.st_lanes.proofs.rows.heads.Goals as goal

pub returns : goal.returns
returns c k lt =
    rw (
      splat_at c.load.result k lt,
      c.load.ensures,
      splat_at c.load-2.result k lt,
      c.load-2.ensures,
      splat_at c.load-3.result k lt,
      c.load-3.ensures,
      splat_at c.load-4.result k lt,
      c.load-4.ensures,
      splat_at c.load-5.result k lt,
      c.load-5.ensures,
      c.shift_left.ensures k lt,
    ) (head_is c.args.head.now (slice_index c.args.numbers.now k) c.told-head (omega (arith, c.requires k lt)))
