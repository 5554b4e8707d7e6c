use Rattle.std.proofs.Common.{◌∙◌, Err, ap, refl, rules, subst}
use Rattle.st_hss.specs.Public.{SignGives}
use Rattle.st_wallet.specs.Drafts.Found.{Opened}
use Rattle.st_wallet.proofs.StepLemmas.{signed, unsigned}
use Rattle.st_wallet.proofs.wallet.sign_message.Goals as goal

pub returns-in_err-text-in-Ok-clause-steps : goal.returns-in_err-text-in-Ok-clause-steps
returns-in_err-text-in-Ok-clause-steps g c =
    unsigned _ c.into_hss-hss.ensures.vault c.in-Ok.ensures.gives.0 c.sign.ensures.may_spend _ (search rules)

pub returns-in-Ok-clause-steps : goal.returns-in-Ok-clause-steps
returns-in-Ok-clause-steps g c =
    signed _ c.into_hss-hss.ensures.vault c.in-Ok.ensures.gives.0 c.sign.ensures.may_spend _ c.in-Ok.ensures.has_spent
    (c.of.ensures ∙ ap Opened c.with_hss.ensures)

pub returns-in-Err-DiskFault-clause-steps : goal.returns-in-Err-DiskFault-clause-steps
returns-in-Err-DiskFault-clause-steps g c =
    let gives = subst
    (λ refused. SignGives c.into_hss-hss.result.0 c.args.message (g.D.Disk.faults c.args.disk.now) (g.D.Disk.faults c.sign.new.disk) (Err refused))
    c.in-Err-DiskFault.field-0-is c.in-Err-DiskFault.ensures.gives in
    unsigned _ c.into_hss-hss.ensures.vault gives.0 c.sign.ensures.may_spend _ refl

pub returns-clause-steps : goal.returns-clause-steps
returns-clause-steps g c =
    let gives = subst
    (λ refused. SignGives c.into_hss-hss.result.0 c.args.message (g.D.Disk.faults c.args.disk.now) (g.D.Disk.faults c.sign.new.disk) (Err refused))
    c.in-Err-WantOfMemory.field-0-is c.in-Err-WantOfMemory.ensures.gives in
    unsigned _ c.into_hss-hss.ensures.vault gives c.sign.ensures.may_spend _ refl
