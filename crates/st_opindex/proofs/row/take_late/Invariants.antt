use Rattle.std.proofs.Common.{length}
use Rattle.st_opindex.proofs.Placed.{IsTakenApart}
use Rattle.st_opindex.proofs.row.take_late.Given as goal

abbrev pub invariant-late : goal.invariant-late
invariant-late g l = IsTakenApart g.K.Ord.cmp l.place l.fn.placed.keys l.placed.keys l.late.items

abbrev pub decreases-late : goal.decreases-late
decreases-late g l = length l.placed.keys
