use Rattle.std.proofs.Common.{◌≡◌, length}
use Rattle.std.specs.List.{list_all}
use Rattle.st_doc.specs.Document.{is_purpose}
use Rattle.st_doc.proofs.key.are_all_purposes.Given as goal

abbrev pub invariant-purposes : goal.invariant-purposes
invariant-purposes l = list_all is_purpose l.fn.purposes ≡ list_all is_purpose l.left

abbrev pub decreases-purposes : goal.decreases-purposes
decreases-purposes l = length l.left
