use Rattle.st_cert.specs.Certificate.{anchored_items}
use Rattle.st_cert.proofs.CertificateLemmas.{from_zero}
use Rattle.st_cert.proofs.certificate.places_ascend.Goals as goal

pub loop-item-init : goal.loop-item-init
loop-item-init c = from_zero (anchored_items c.args.items.now)
