-- The steps of a JSON Patch (RFC 6902, section 4).
use Rattle.std.specs.Prelude.{ℕ, List, codes, if◌then◌else◌, Option, Some, None, ok_or, Result, Ok, Err}
use Rattle.st_base.specs.Answers.{◌>>=◌}
use Rattle.st_plain.specs.Names.{is_name}
use Rattle.st_plain.specs.Plain.{Plain}
use Rattle.st_plain.specs.Shapes.{member_in, text_at}
use Rattle.st_canon.specs.View.{plain}
use Rattle.st_jsonpatch.specs.Pointer.{pointer_of}
use Rattle.st_jsonpatch.specs.declared.pointer.PointerRefused.{PointerRefused}
use Rattle.st_jsonpatch.specs.declared.step.Step.{Step}
use Rattle.st_jsonpatch.specs.declared.step.Step.TheVariants.{Add, Remove, Replace, Move, Copy, Test}
use Rattle.st_jsonpatch.specs.declared.step.StepRefused.{StepRefused}
use Rattle.st_jsonpatch.specs.declared.step.StepRefused.TheVariants.{BadStep, WantOfMemory}

-- a step over plain values; a path is the list of its tokens
pub data PlainStep : Type 0 where
  add : List (List ℕ) → Plain → PlainStep
  remove : List (List ℕ) → PlainStep
  replace : List (List ℕ) → Plain → PlainStep
  move : List (List ℕ) → List (List ℕ) → PlainStep
  copy : List (List ℕ) → List (List ℕ) → PlainStep
  test : List (List ℕ) → Plain → PlainStep

-- the plain step of a `Step`
abbrev pub plain_step : Step → PlainStep
plain_step (Add path value) = add path (plain value)
plain_step (Remove path) = remove path
plain_step (Replace path value) = replace path (plain value)
plain_step (Move from path) = move from path
plain_step (Copy from path) = copy from path
plain_step (Test path value) = test path (plain value)

-- ---- read

-- a value without a pointer is not a step
abbrev pub or_bad_step : {A : Type 0} → Result A PointerRefused → Result A StepRefused
or_bad_step (Ok x) = Ok x
or_bad_step (Err refused) = Err BadStep

-- the pointer in the member of this name
abbrev pub path_at : List ℕ → Plain → Result (List (List ℕ)) StepRefused
path_at name value = do
  written ← ok_or (text_at name (Some value)) BadStep
  or_bad_step (pointer_of written)

-- the member `value`, of any kind
abbrev pub value_in : Plain → Result Plain StepRefused
value_in value = ok_or (member_in (codes "value") (Some value)) BadStep

-- a step that needs a path and a value
abbrev pub with_value : (List (List ℕ) → Plain → PlainStep) → Plain → Result PlainStep StepRefused
with_value step value = do
  path ← path_at (codes "path") value
  operand ← value_in value
  Ok (step path operand)

-- a step that needs a path to take from
abbrev pub with_from : (List (List ℕ) → List (List ℕ) → PlainStep) → Plain → Result PlainStep StepRefused
with_from step value = do
  path ← path_at (codes "path") value
  from ← path_at (codes "from") value
  Ok (step from path)

-- a step that needs only a path
abbrev pub with_path : (List (List ℕ) → PlainStep) → Plain → Result PlainStep StepRefused
with_path step value = do
  path ← path_at (codes "path") value
  Ok (step path)

-- the step of this name, with the members it needs; other members are ignored
abbrev pub step_named : List ℕ → Plain → Result PlainStep StepRefused
step_named op value =
    if is_name op (codes "add") then with_value add value else
    if is_name op (codes "remove") then with_path remove value else
    if is_name op (codes "replace") then with_value replace value else
    if is_name op (codes "move") then with_from move value else
    if is_name op (codes "copy") then with_from copy value else
    if is_name op (codes "test") then with_value test value else
    Err BadStep

-- The step of a value: an object with `op` and the members that this needs.
abbrev pub step_of : Plain → Result PlainStep StepRefused
step_of value = do
  op ← ok_or (text_at (codes "op") (Some value)) BadStep
  step_named op value

-- what a refusal says about the value: nothing, if memory ran out
abbrev pub refusal_of : StepRefused → Option StepRefused
refusal_of BadStep = Some BadStep
refusal_of WantOfMemory = None
