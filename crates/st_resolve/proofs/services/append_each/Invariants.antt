use Rattle.std.proofs.Common.{◌≡◌, ◌++◌, drop, false, map}
use Rattle.st_plain.specs.Plain.{canonical_items}
use Rattle.st_plain.specs.Objects.{items_of}
use Rattle.st_canon.specs.View.{plain}
use Rattle.st_resolve.specs.Result.{service_of}
use Rattle.st_resolve.proofs.services.append_each.Given as goal

abbrev pub invariant-loop-service : goal.invariant-loop-service
invariant-loop-service l =
    l.initial.out ++ canonical_items false (items_of (map service_of (map plain l.services)))
    ≡ l.out ++ canonical_items l.comma (items_of (map service_of (map plain (drop l.service-index l.services))))
