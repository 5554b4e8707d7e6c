use Rattle.std.proofs.Common.{ap, sym}
use Rattle.st_plain.specs.Objects.{members_in}
use Rattle.st_scan.proofs.EntryLemmas.{at_object}
use Rattle.st_scan.proofs.scanned.members.Goals as goal

pub returns-in-Some-clause-value : goal.returns-in-Some-clause-value
returns-in-Some-clause-value c = sym (ap members_in (at_object c.args.text.now c.in-Some.left.now c.requires c.in-Some.ensures.some))
