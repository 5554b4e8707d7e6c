use Rattle.std.specs.Prelude.{is_some}
use Rattle.std.proofs.Common.{◌≡◌, drop, map}
use Rattle.st_plain.specs.Objects.{some_list}
use Rattle.st_canon.specs.View.{plain}
use Rattle.st_resolve.specs.Result.{references_for}
use Rattle.st_resolve.proofs.keys.serves_any.Given as goal

abbrev pub invariant-loop-key : goal.invariant-loop-key
invariant-loop-key l =
    is_some (some_list (references_for l.purpose (map plain l.keys))) ≡ is_some (some_list (references_for l.purpose (map plain (drop l.key-index l.keys))))
