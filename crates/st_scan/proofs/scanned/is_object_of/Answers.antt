use Rattle.st_scan.proofs.EntryLemmas.{at_object_of}
use Rattle.st_scan.proofs.scanned.is_object_of.Goals as goal

pub returns-in-Some : goal.returns-in-Some
returns-in-Some c = at_object_of c.args.text.now c.in-Some.left.now c.requires c.in-Some.ensures.some _ c.have_only.result c.have_only.ensures
