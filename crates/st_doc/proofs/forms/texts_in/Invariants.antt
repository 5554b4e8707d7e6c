use Rattle.std.proofs.Common.{◌≡◌, ◌++◌, length}
use Rattle.st_doc.specs.Document.{texts_of}
use Rattle.st_doc.proofs.forms.texts_in.Given as goal

abbrev pub invariant-entries : goal.invariant-entries
invariant-entries l = texts_of l.fn.entries ≡ l.texts ++ texts_of l.left

abbrev pub decreases-entries : goal.decreases-entries
decreases-entries l = length l.left
