use Rattle.st_cert.proofs.LawLemmas.{acting_suffice, one_certificate, one_each, verdicts_stay}
use Rattle.st_cert.proofs.checking.certificate_laws.Goals as goal

pub returns-clause-each : goal.returns-clause-each
returns-clause-each c = one_each

pub returns-clause-stay : goal.returns-clause-stay
returns-clause-stay c = verdicts_stay

pub returns-clause-unique : goal.returns-clause-unique
returns-clause-unique c = one_certificate

pub returns-clause-suffice : goal.returns-clause-suffice
returns-clause-suffice c = acting_suffice
