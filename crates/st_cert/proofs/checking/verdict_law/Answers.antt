use Rattle.st_cert.proofs.CertificateLemmas.{verdict_acts}
use Rattle.st_cert.proofs.checking.verdict_law.Goals as goal

pub returns : goal.returns
returns g c = verdict_acts
