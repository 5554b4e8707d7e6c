use Rattle.std.proofs.Common.{◌≡◌, drop, map}
use Rattle.st_canon.specs.View.{plain}
use Rattle.st_jsonpatch.specs.Step.{plain_step}
use Rattle.st_jsonpatch.specs.AllStepped.{all_stepped}
use Rattle.st_jsonpatch.proofs.steps.apply_steps.Given as goal

abbrev pub invariant-loop-at : goal.invariant-loop-at
invariant-loop-at l =
    all_stepped l.max_depth l.max_size 0 (map plain_step l.steps) (plain l.fn.value) ≡ all_stepped l.max_depth l.max_size l.at (map plain_step (drop l.at l.steps)) (plain l.now)
