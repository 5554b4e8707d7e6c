use Rattle.std.proofs.Common.{◌≡◌, ◌++◌, take, drop, map, unwrap_or}
use Rattle.st_canon.specs.View.{plain}
use Rattle.st_doc.specs.Patch.{entry_of}
use Rattle.st_doc.specs.Document.{id_of}
use Rattle.st_doc.proofs.effects.replace_entries.Given as goal

abbrev pub invariant-loop-entry : goal.invariant-loop-entry
invariant-loop-entry l = map plain l.entries
    ≡ map (λ entry. unwrap_or (entry_of (id_of entry) (map plain l.new)) entry) (map plain (take l.entry-index l.initial.entries))
    ++ map plain (drop l.entry-index l.initial.entries)
