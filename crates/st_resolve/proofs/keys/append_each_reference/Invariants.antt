use Rattle.std.proofs.Common.{◌≡◌, ◌++◌, drop, false, map}
use Rattle.st_plain.specs.Plain.{canonical_items}
use Rattle.st_plain.specs.Objects.{items_of}
use Rattle.st_canon.specs.View.{plain}
use Rattle.st_resolve.specs.Result.{references_for}
use Rattle.st_resolve.proofs.keys.append_each_reference.Given as goal

abbrev pub invariant-loop-key : goal.invariant-loop-key
invariant-loop-key l =
    l.initial.out ++ canonical_items false (items_of (references_for l.purpose (map plain l.keys)))
    ≡ l.out ++ canonical_items l.comma (items_of (references_for l.purpose (map plain (drop l.key-index l.keys))))
