-- A list of steps, one after another (RFC 6902, section 5).
use Rattle.std.specs.Prelude.{ℕ, ◌+◌, List, [], ◌∷◌, Option, Some, None, ok_or, Result, Ok}
use Rattle.st_base.specs.Answers.{◌>>=◌}
use Rattle.st_plain.specs.Plain.{Plain}
use Rattle.st_jsonpatch.specs.Step.{PlainStep}
use Rattle.st_jsonpatch.specs.Stepped.{stepped}
use Rattle.st_jsonpatch.specs.declared.steps.StepsRefused.{StepsRefused}
use Rattle.st_jsonpatch.specs.declared.steps.StepsRefused.TheVariants.{Failed, WantOfMemory}

-- The value after all steps, or the number of the first that fails; `i` is the number of the first step.
abbrev pub all_stepped : ℕ → ℕ → ℕ → List PlainStep → Plain → Result Plain ℕ
all_stepped max_depth max_size i [] value = Ok value
all_stepped max_depth max_size i (step ∷ steps) value = do
  next ← ok_or (stepped max_depth max_size step value) i
  all_stepped max_depth max_size (i + 1) steps next

-- the number of the step that a refusal names: none, if memory ran out
abbrev pub blamed : StepsRefused → Option ℕ
blamed (Failed i) = Some i
blamed WantOfMemory = None
