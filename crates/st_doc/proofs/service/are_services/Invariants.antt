use Rattle.std.proofs.Common.{◌≡◌, length}
use Rattle.std.specs.List.{list_all}
use Rattle.st_doc.specs.Document.{is_service}
use Rattle.st_doc.proofs.service.are_services.Given as goal

abbrev pub invariant-services : goal.invariant-services
invariant-services l = list_all is_service l.fn.services ≡ list_all is_service l.left

abbrev pub decreases-services : goal.decreases-services
decreases-services l = length l.left
