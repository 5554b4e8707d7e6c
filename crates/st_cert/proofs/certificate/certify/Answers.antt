use Rattle.std.proofs.Common.{subst}
use Rattle.st_base.specs.Work.{AppliesAtMost}
use Rattle.st_cert.specs.Certificate.{acting_count, anchored_items}
use Rattle.st_cert.proofs.CertificateLemmas.{all_certified, few_applied, verdicts_are}
use Rattle.st_cert.proofs.certificate.certify.Goals as goal

pub returns-clause-certificate : goal.returns-clause-certificate
returns-clause-certificate c = all_certified c.args.schedule.now (anchored_items c.args.items.now) c.requires c.follow.result c.follow.ensures.verdicts c.follow.ensures.finish

pub returns-clause-acting : goal.returns-clause-acting
returns-clause-acting c =
    subst (λ vs. AppliesAtMost (acting_count vs) c.args.work.now c.follow.new.work)
    (verdicts_are c.args.schedule.now (anchored_items c.args.items.now) c.requires) c.follow.ensures.acting

pub returns-clause-few : goal.returns-clause-few
returns-clause-few c = few_applied c.args.schedule.now c.args.items.now c.follow.ensures.acting
