use Rattle.std.proofs.Common.{◌∙◌, ◌/◌, sym, ap}
use Rattle.st_vault.proofs.OpeningLemmas.{may_as, spent_as}
use Rattle.st_vault.specs.Image.{CounterValue}
use Rattle.st_hss.proofs.VaultLemmas.{next_of_left}
use Rattle.st_hss.proofs.vault.HssVault.sign.Goals as goal

pub signature_with-requires-clause-leaf : goal.signature_with-requires-clause-leaf
signature_with-requires-clause-leaf g c =
    let next = next_of_left c.self.inside.vault c.left-left.result c.self.invariant.0 c.left-left.ensures.known c.left-left.ensures.value in
    c.in_ok-trees-in-Ok.ensures.leaf
    ∙ ap (λ n. n / 32) (next ∙ sym (ap (λ (counter : CounterValue). counter.number) c.in-Ok.ensures.gives.2))

pub returns-in_err-signature-in-Ok-clause-lost : goal.returns-in_err-signature-in-Ok-clause-lost
returns-in_err-signature-in-Ok-clause-lost g c = λ _. (spent_as c.self.view_is c.in-Ok.ensures.has_spent).spent

pub returns-in_err-trees-in-Ok-clause-lost : goal.returns-in_err-trees-in-Ok-clause-lost
returns-in_err-trees-in-Ok-clause-lost g c = λ _. (spent_as c.self.view_is c.in-Ok.ensures.has_spent).spent

pub returns-in_err-trees-in-Ok-clause-may_spend : goal.returns-in_err-trees-in-Ok-clause-may_spend
returns-in_err-trees-in-Ok-clause-may_spend g c = may_as c.self.view_is c.reserve.ensures.may_spend

pub returns-in_err-signature-in-Ok-clause-may_spend : goal.returns-in_err-signature-in-Ok-clause-may_spend
returns-in_err-signature-in-Ok-clause-may_spend g c = may_as c.self.view_is c.reserve.ensures.may_spend

pub returns-in_ok-signature-in-Ok-clause-may_spend : goal.returns-in_ok-signature-in-Ok-clause-may_spend
returns-in_ok-signature-in-Ok-clause-may_spend g c = may_as c.self.view_is c.reserve.ensures.may_spend

pub returns-in_ok-signature-in-Ok-clause-has_spent : goal.returns-in_ok-signature-in-Ok-clause-has_spent
returns-in_ok-signature-in-Ok-clause-has_spent g c = spent_as c.self.view_is c.in-Ok.ensures.has_spent

pub returns-in-Err-Exhausted-clause-may_spend : goal.returns-in-Err-Exhausted-clause-may_spend
returns-in-Err-Exhausted-clause-may_spend g c = may_as c.self.view_is c.reserve.ensures.may_spend

pub returns-in-Err-DiskFault-clause-may_spend : goal.returns-in-Err-DiskFault-clause-may_spend
returns-in-Err-DiskFault-clause-may_spend g c = may_as c.self.view_is c.reserve.ensures.may_spend
