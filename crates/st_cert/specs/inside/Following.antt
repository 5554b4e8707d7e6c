-- The code finds verdicts and states step by step.
use Rattle.std.specs.Prelude.{◌≡◌, ◌≢◌, ℕ, Bool, List, [], ◌∷◌, if◌then◌else◌, Option, Some, None}
use Rattle.st_apply.specs.Laws.{Anchored, all_applied}
use Rattle.st_apply.specs.Applied.{applied}
use Rattle.st_apply.specs.Codes.{Rules, State, absent}
use Rattle.st_base.specs.Work.{WorkValue, one_apply}
use Rattle.st_doc.specs.Document.{PlainDocument}
use Rattle.st_hash.specs.Hash.{HashValue}
use Rattle.st_params.specs.ParamsValue.{params_at}
use Rattle.st_cert.specs.Certificate.{verdict_in}
use Rattle.st_cert.specs.declared.verdict.Verdict.{Verdict}
use Rattle.st_cert.specs.declared.verdict.Verdict.TheVariants.{WrongReveal}

-- the verdict of a recover or a deactivate that has a claim, in an active state
abbrev pub full_verdict : {Hash Document : Type 0} → Rules Hash Document → Hash → Hash → Verdict → Verdict
full_verdict rules reveal recovery acting = if rules.meets reveal recovery then acting else WrongReveal

-- the state after an anchored operation
abbrev pub state_behind : Option ℕ → State HashValue PlainDocument → Anchored → State HashValue PlainDocument
state_behind schedule state item = applied (params_at schedule item.height) state item.operation

-- the verdicts of the operations from this state on
abbrev pub verdicts_from : Option ℕ → State HashValue PlainDocument → List Anchored → List Verdict
verdicts_from schedule state [] = []
verdicts_from schedule state (item ∷ items) =
    verdict_in schedule state item ∷ verdicts_from schedule (state_behind schedule state item) items

-- the count if an operation acts
abbrev pub counted_if : Bool → WorkValue → WorkValue
counted_if acts work = if acts then one_apply work else work

-- The result of following these verdicts: the state after the operations, if these are their verdicts, else none.
abbrev pub Follows : Option ℕ → List Anchored → List Verdict → Option (State HashValue PlainDocument) → Type 0
Follows schedule items verdicts (Some state) =
    (verdicts ≡ verdicts_from schedule absent items) × (state ≡ all_applied schedule absent items)
Follows schedule items verdicts None = verdicts ≢ verdicts_from schedule absent items
