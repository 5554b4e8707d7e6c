-- Tables of rules. A row is a rule, and whether it fails.
use Rattle.std.specs.Prelude.{◌≡◌, ⊤, Bool, List, [], ◌∷◌, if◌then◌else◌, Option, Some, None, Result, Ok, Err}
use Rattle.st_base.specs.declared.errors.FileRefused.{FileRefused}
use Rattle.st_base.specs.declared.errors.FileRefused.TheVariants.{Rejected, WantOfMemory}

-- each rule, and whether it fails
abbrev pub Table : Type 0 → Type 0
Table Rule = List (Rule × Bool)

-- the first rule that fails
abbrev pub first_failing : {Rule : Type 0} → Table Rule → Option Rule
first_failing [] = None
first_failing (row ∷ rows) = if row.1 then Some row.0 else first_failing rows

-- The answer is the first rule of the table that fails; or, if none does, the file's content, which is the view of
-- the value found; or out of memory.
abbrev pub AnswersAs : {Rule Found Says : Type 0} → (Found → Says) → Table Rule → Option Says
    → Result Found (FileRefused Rule) → Type 0
AnswersAs view rules says (Ok found) = (first_failing rules ≡ None) × (says ≡ Some (view found))
AnswersAs view rules says (Err (Rejected rule)) = first_failing rules ≡ Some rule
AnswersAs view rules says (Err WantOfMemory) = ⊤

-- the same for values that definitions see unchanged
abbrev pub Answers : {Rule Says : Type 0} → Table Rule → Option Says → Result Says (FileRefused Rule) → Type 0
Answers rules says answer = AnswersAs (λ found. found) rules says answer
