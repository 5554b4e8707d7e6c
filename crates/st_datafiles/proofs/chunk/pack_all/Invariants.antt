use Rattle.std.proofs.Common.{◌≡◌, ◌++◌, length}
use Rattle.st_datafiles.proofs.chunk.pack_all.Given as goal

abbrev pub invariant-deltas : goal.invariant-deltas
invariant-deltas l = l.initial.left ≡ l.packed ++ l.left

abbrev pub decreases-deltas : goal.decreases-deltas
decreases-deltas l = length l.left
