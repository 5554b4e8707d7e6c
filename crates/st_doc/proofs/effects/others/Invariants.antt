use Rattle.std.proofs.Common.{◌≡◌, take, map, filter, not}
use Rattle.st_canon.specs.View.{plain}
use Rattle.st_doc.specs.Alike.{is_among}
use Rattle.st_doc.specs.Document.{id_of}
use Rattle.st_doc.proofs.effects.others.Given as goal

abbrev pub invariant-loop-entry : goal.invariant-loop-entry
invariant-loop-entry l = map plain l.others.items
    ≡ filter (λ entry. not (is_among (map id_of (map plain l.entries)) (id_of entry))) (map plain (take l.entry-index l.new))
