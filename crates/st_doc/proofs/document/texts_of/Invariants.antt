use Rattle.std.proofs.Common.{◌≡◌, ◌++◌, drop, map}
use Rattle.st_canon.specs.View.{plain}
use Rattle.st_doc.specs.Document.{texts_of}
use Rattle.st_doc.proofs.document.texts_of.Given as goal

abbrev pub invariant-loop-value : goal.invariant-loop-value
invariant-loop-value l = texts_of (map plain l.values) ≡ l.texts ++ texts_of (map plain (drop l.value-index l.values))
