use Rattle.std.proofs.Common.{◌∙◌, Err, ap, refl, rules, subst}
use Rattle.st_vault.specs.Vault.{ReserveGives}
use Rattle.st_wallet.specs.Drafts.Found.{Opened}
use Rattle.st_wallet.proofs.StepLemmas.{signed, unsigned}
use Rattle.st_wallet.proofs.wallet.sign.Goals as goal

pub returns-in_err-text-in-Ok-clause-steps : goal.returns-in_err-text-in-Ok-clause-steps
returns-in_err-text-in-Ok-clause-steps g c =
    unsigned _ c.in_ok-vault.ensures.vault c.in-Ok.ensures.gives.0 c.reserve.ensures.may_spend _ (search rules)

pub returns-in-Ok-clause-steps : goal.returns-in-Ok-clause-steps
returns-in-Ok-clause-steps g c =
    signed _ c.in_ok-vault.ensures.vault c.in-Ok.ensures.gives.0 c.reserve.ensures.may_spend _ c.in-Ok.ensures.has_spent
    (c.of.ensures ∙ ap Opened c.with_signer.ensures)

pub returns-clause-steps : goal.returns-clause-steps
returns-clause-steps g c =
    let gives = subst
    (λ refused. ReserveGives c.in_ok-vault.vault (g.D.Disk.faults c.args.disk.now) (g.D.Disk.faults c.reserve.new.disk) (Err refused))
    c.in-Err-DiskFault.field-0-is c.in-Err-DiskFault.ensures.gives in
    unsigned _ c.in_ok-vault.ensures.vault gives.0 c.reserve.ensures.may_spend _ refl
