use Rattle.std.proofs.Common.{◌≡◌, drop}
use Rattle.st_jsonpatch.specs.Stepped.{is_above}
use Rattle.st_jsonpatch.proofs.pointer.is_above.Given as goal

abbrev pub invariant-loop-at : goal.invariant-loop-at
invariant-loop-at l = is_above l.from l.path ≡ is_above (drop l.at l.from) (drop l.at l.path)
