use Rattle.std.proofs.Common.{◌≡◌, drop}
use Rattle.st_canon.specs.View.{plain}
use Rattle.st_jsonpatch.specs.Pointer.{at}
use Rattle.st_jsonpatch.proofs.edits.target.Given as goal

abbrev pub invariant-loop-token : goal.invariant-loop-token
invariant-loop-token l = at l.path (plain l.value) ≡ at (drop l.token-index l.path) (plain l.here)
