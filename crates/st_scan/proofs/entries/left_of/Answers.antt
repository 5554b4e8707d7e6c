use Rattle.std.proofs.Common.{◌∙◌, sym}
use Rattle.st_scan.proofs.EntryLemmas.{at_list, no_list}
use Rattle.st_scan.proofs.entries.left_of.Goals as goal

pub returns-in-Some-clause-value : goal.returns-in-Some-clause-value
returns-in-Some-clause-value c = at_list c.args.text.now c.in-Some.left.now c.in-Some.ensures.some

pub returns-in-None-clause-value : goal.returns-in-None-clause-value
returns-in-None-clause-value c = c.no_entries.ensures.value ∙ sym (no_list c.args.text.now c.requires c.in-None.ensures.none)
