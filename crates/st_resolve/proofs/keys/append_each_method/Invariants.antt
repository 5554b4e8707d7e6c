use Rattle.std.proofs.Common.{◌≡◌, ◌++◌, drop, false, map}
use Rattle.st_plain.specs.Plain.{canonical_items}
use Rattle.st_plain.specs.Objects.{items_of}
use Rattle.st_canon.specs.View.{plain}
use Rattle.st_resolve.specs.Result.{method_of}
use Rattle.st_resolve.proofs.keys.append_each_method.Given as goal

abbrev pub invariant-loop-key : goal.invariant-loop-key
invariant-loop-key l =
    l.initial.out ++ canonical_items false (items_of (map (method_of l.did) (map plain l.keys)))
    ≡ l.out ++ canonical_items l.comma (items_of (map (method_of l.did) (map plain (drop l.key-index l.keys))))
