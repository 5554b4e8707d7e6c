use Rattle.std.proofs.Common.{◌∙◌, ap, option_map}
use Rattle.st_anchor.specs.BoundValue.{core_branch, core_in}
use Rattle.st_anchor.specs.declared.part.Part.TheVariants.{Is}
use Rattle.st_anchor.specs.declared.part.Rule.TheVariants as fails
use Rattle.st_anchor.proofs.SettleLemmas.{judged-fails, judged-says}
use Rattle.st_anchor.proofs.files.core_part.Goals as goal

pub returns-in-Ok-clause-value : goal.returns-in-Ok-clause-value
unfolding core_in
returns-in-Ok-clause-value c =
    ap (λ branch. Is branch) c.new.ensures
    ∙ judged-says fails.Core _ _ (core_branch c.in-Ok.index) c.in-Ok.ensures.answers.0 (ap (option_map core_branch) c.in-Ok.ensures.answers.1)

pub returns-in-Err-Rejected-clause-value : goal.returns-in-Err-Rejected-clause-value
unfolding core_in
returns-in-Err-Rejected-clause-value c =
    let is = rw c.in-Err-Rejected.field-0-is at c.in-Err-Rejected.ensures.answers in
    judged-fails fails.Core _ c.in-Err-Rejected.rule _ is
