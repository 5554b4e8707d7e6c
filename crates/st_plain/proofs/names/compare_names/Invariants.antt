use Rattle.std.proofs.Common.{◌≡◌, length}
use Rattle.st_plain.specs.Objects.{name_in}
use Rattle.st_plain.specs.inside.Objects.{ranks_cmp}
use Rattle.st_plain.proofs.names.compare_names.Given as goal

abbrev pub invariant-same : goal.invariant-same
invariant-same l = ranks_cmp (name_in l.first) (name_in l.second) ≡ ranks_cmp (name_in l.left) (name_in l.right)

abbrev pub decreases-same : goal.decreases-same
decreases-same l = length l.left
