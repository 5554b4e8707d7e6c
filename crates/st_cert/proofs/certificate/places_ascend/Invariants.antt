use Rattle.std.proofs.Common.{◌↔◌, drop}
use Rattle.st_apply.specs.Laws.{place_of, PlacesAscend}
use Rattle.st_cert.specs.Certificate.{anchored_items}
use Rattle.st_cert.proofs.CertificateLemmas.{AscendFrom}
use Rattle.st_cert.proofs.certificate.places_ascend.Given as goal

abbrev pub invariant-loop-item : goal.invariant-loop-item
invariant-loop-item l =
    PlacesAscend place_of (anchored_items l.items) ↔ AscendFrom l.least (anchored_items (drop l.item-index l.items))
