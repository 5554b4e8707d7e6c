use Rattle.std.proofs.Common.{◌≡◌, drop, map}
use Rattle.st_canon.specs.View.{plain}
use Rattle.st_jsonpatch.specs.Step.{plain_step}
use Rattle.st_doc.proofs.PatchLemmas.{steps_after, steps_in}
use Rattle.st_doc.proofs.patch.each_step.Given as goal

abbrev pub invariant-loop-value : goal.invariant-loop-value
invariant-loop-value l = steps_in (map plain l.values) ≡ steps_after (map plain_step l.steps) (map plain (drop l.value-index l.values))
