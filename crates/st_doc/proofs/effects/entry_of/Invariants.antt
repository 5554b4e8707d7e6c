use Rattle.std.proofs.Common.{◌≡◌, drop, map}
use Rattle.st_canon.specs.View.{plain}
use Rattle.st_doc.specs.Patch.{entry_of}
use Rattle.st_doc.proofs.effects.entry_of.Given as goal

abbrev pub invariant-loop-entry : goal.invariant-loop-entry
invariant-loop-entry l = entry_of l.id (map plain l.entries) ≡ entry_of l.id (map plain (drop l.entry-index l.entries))
