use Rattle.std.proofs.Common.{Some, None}
use Rattle.st_scan.specs.Standing.{value_of}
use Rattle.st_scan.proofs.EntryLemmas.{at_member}
use Rattle.st_scan.proofs.scanned.member.Goals as goal

pub returns-in-Some-find-clause-value : goal.returns-in-Some-find-clause-value
returns-in-Some-find-clause-value c =
    at_member c.args.text.now c.in-Some.left.now c.requires c.in-Some.ensures.some c.args.name.now
    (Some (value_of c.in-Some-find.value.now)) c.in-Some-find.ensures.some

pub returns-in-None-clause-value : goal.returns-in-None-clause-value
returns-in-None-clause-value c =
    at_member c.args.text.now c.in-Some.left.now c.requires c.in-Some.ensures.some c.args.name.now None c.in-None.ensures.none
