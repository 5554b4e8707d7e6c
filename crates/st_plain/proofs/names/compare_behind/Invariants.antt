use Rattle.std.proofs.Common.{◌≡◌, length}
use Rattle.st_plain.specs.Objects.{name_in}
use Rattle.st_plain.specs.inside.Objects.{ranks_cmp}
use Rattle.st_plain.proofs.names.compare_behind.Given as goal

abbrev pub invariant-bytes : goal.invariant-bytes
invariant-bytes l = ranks_cmp (name_in l.first) (name_in l.second) ≡ ranks_cmp (name_in l.left) (name_in l.right)

abbrev pub decreases-bytes : goal.decreases-bytes
decreases-bytes l = length l.left
