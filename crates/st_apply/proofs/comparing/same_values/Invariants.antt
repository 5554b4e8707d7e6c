use Rattle.std.proofs.Common.{◌≡◌, ◌↔◌, drop, map}
use Rattle.st_canon.specs.View.{plain}
use Rattle.st_apply.proofs.comparing.same_values.Given as goal

abbrev pub invariant-loop-at : goal.invariant-loop-at
invariant-loop-at l =
    (map plain (drop l.at l.first) ≡ map plain (drop l.at l.second)) ↔ (map plain l.first ≡ map plain l.second)
