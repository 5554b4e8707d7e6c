use Rattle.std.proofs.Common.{◌≡◌, ◌++◌, length, map}
use Rattle.st_canon.specs.View.{plain}
use Rattle.st_doc.proofs.forms.values_of.Given as goal

abbrev pub invariant-entries : goal.invariant-entries
invariant-entries l = l.fn.entries ≡ map plain l.values ++ l.left

abbrev pub decreases-entries : goal.decreases-entries
decreases-entries l = length l.left
