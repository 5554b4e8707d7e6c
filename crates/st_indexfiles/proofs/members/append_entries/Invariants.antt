use Rattle.std.proofs.Common.{◌≡◌, ◌++◌, drop, false, map, take}
use Rattle.st_plain.specs.Plain.{canonical_items}
use Rattle.st_plain.specs.Objects.{items_of}
use Rattle.st_indexfiles.specs.inside.CoreParts.{AreReadAgain}
use Rattle.st_indexfiles.proofs.members.append_entries.Given as goal

abbrev pub invariant-entries : goal.invariant-entries
invariant-entries g l =
    (l.fn.out ++ canonical_items false (items_of (map g.T.Entry.json l.said))
    ≡ l.out ++ canonical_items l.comma (items_of (map g.T.Entry.json (drop l.one-index l.said))))
    × AreReadAgain g.T.Entry.of g.T.Entry.json (take l.one-index l.said)
