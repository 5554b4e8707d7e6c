use Rattle.std.proofs.Common.{◌∙◌, ap}
use Rattle.st_anchor.specs.BoundValue.{provisional_in}
use Rattle.st_anchor.specs.declared.part.Part.TheVariants.{Is}
use Rattle.st_anchor.proofs.SettleLemmas.{provisional-fails, provisional-says}
use Rattle.st_anchor.proofs.files.provisional_part.Goals as goal

pub returns-in-Ok-clause-value : goal.returns-in-Ok-clause-value
unfolding provisional_in
returns-in-Ok-clause-value c =
    ap (λ branch. Is branch) c.new.ensures ∙ provisional-says _ _ c.in-Ok.index c.in-Ok.ensures.answers.0 c.in-Ok.ensures.answers.1

pub returns-in-Err-Rejected-clause-value : goal.returns-in-Err-Rejected-clause-value
unfolding provisional_in
returns-in-Err-Rejected-clause-value c =
    let is = rw c.in-Err-Rejected.field-0-is at c.in-Err-Rejected.ensures.answers in
    provisional-fails _ _ c.in-Err-Rejected.rule is
