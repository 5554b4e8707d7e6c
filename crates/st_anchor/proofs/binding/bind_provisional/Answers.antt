use Rattle.std.proofs.Common.{◌∙◌, ◌-◌, ap, sym, subst}
use Rattle.st_anchor.specs.inside.Coming.{IsMissing}
use Rattle.st_anchor.specs.States.{one_file_with, count_read, opened_in_provisional, provisional_part_state}
use Rattle.st_anchor.specs.BoundValue.{provisional_part_with}
use Rattle.st_anchor.proofs.SettleLemmas.{provisional-is, provisional-missing}
use Rattle.st_anchor.proofs.CountLemmas.{file-none}
use Rattle.st_anchor.proofs.binding.bind_provisional.Goals as goal

pub returns-in_ok-branch-in-Is-clause-work : goal.returns-in_ok-branch-in-Is-clause-work
returns-in_ok-branch-in-Is-clause-work c =
    let missing = subst (λ part. IsMissing (provisional_part_state c.args.role part)) c.in-Is.is c.requires.missing in
    let read = provisional_part_with c.args.role c.args.context.now c.args.core.now c.args.file.now in
    c.in_ok-branch-in-Is.ensures.work
    ∙ ap (λ n. one_file_with n c.args.work.now)
    (sym (ap (λ part. count_read opened_in_provisional (read part) - count_read opened_in_provisional part) c.in-Is.is
    ∙ ap (λ part. count_read opened_in_provisional part - opened_in_provisional c.in-Is.branch)
    (provisional-is c.args.role c.args.context.now c.args.core.now c.args.file.now c.in-Is.branch missing)))

pub returns-in_ok-part-in-Missing-clause-work : goal.returns-in_ok-part-in-Missing-clause-work
returns-in_ok-part-in-Missing-clause-work c =
    let missing = subst (λ part. IsMissing (provisional_part_state c.args.role part)) c.in-Missing.is c.requires.missing in
    let read = provisional_part_with c.args.role c.args.context.now c.args.core.now c.args.file.now in
    file-none _ c.args.work.now c.provisional_part.new.work
    (ap (λ part. count_read opened_in_provisional (read part) - count_read opened_in_provisional part) c.in-Missing.is
    ∙ provisional-missing c.args.role c.args.context.now c.args.core.now c.args.file.now c.in-Missing.field-0 missing)
    c.in_ok-part-in-Missing.ensures.counted
