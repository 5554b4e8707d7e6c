use Rattle.std.proofs.Common.{◌≡◌, ◌++◌, drop, false, map}
use Rattle.st_plain.specs.Plain.{canonical_items, text}
use Rattle.st_plain.specs.Objects.{items_of}
use Rattle.st_resolve.proofs.document.append_each_name.Given as goal

abbrev pub invariant-loop-name : goal.invariant-loop-name
invariant-loop-name l =
    l.initial.out ++ canonical_items false (items_of (map text l.names))
    ≡ l.out ++ canonical_items l.comma (items_of (map text (drop l.name-index l.names)))
