use Rattle.std.proofs.Common.{◌≡◌, length}
use Rattle.st_plain.specs.inside.Objects.{ranks_cmp}
use Rattle.st_plain.proofs.names.compare_bytes.Given as goal

abbrev pub invariant-bytes : goal.invariant-bytes
invariant-bytes l = ranks_cmp l.first l.second ≡ ranks_cmp l.left l.right

abbrev pub decreases-bytes : goal.decreases-bytes
decreases-bytes l = length l.left
