use Rattle.std.proofs.Common.{◌≡◌, drop, map}
use Rattle.st_canon.specs.View.{plain}
use Rattle.st_doc.specs.Alike.{is_among}
use Rattle.st_doc.specs.Document.{id_of}
use Rattle.st_doc.proofs.ids.has_id.Given as goal

abbrev pub invariant-loop-entry : goal.invariant-loop-entry
invariant-loop-entry l =
    is_among (map id_of (map plain l.entries)) l.id ≡ is_among (map id_of (map plain (drop l.entry-index l.entries))) l.id
