use Rattle.std.proofs.Common.{◌≡◌, ◌++◌, length, map}
use Rattle.st_doc.specs.Document.{id_of}
use Rattle.st_doc.proofs.ids.ids_of.Given as goal

abbrev pub invariant-entries : goal.invariant-entries
invariant-entries l = map id_of l.fn.entries ≡ l.ids ++ map id_of l.left

abbrev pub decreases-entries : goal.decreases-entries
decreases-entries l = length l.left
