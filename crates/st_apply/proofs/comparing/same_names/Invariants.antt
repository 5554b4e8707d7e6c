use Rattle.std.proofs.Common.{◌≡◌, ◌↔◌, drop}
use Rattle.st_apply.proofs.comparing.same_names.Given as goal

abbrev pub invariant-loop-at : goal.invariant-loop-at
invariant-loop-at l = (drop l.at l.first ≡ drop l.at l.second) ↔ (l.first ≡ l.second)
