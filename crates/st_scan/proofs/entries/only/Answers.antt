use Rattle.std.proofs.Common.{◌∙◌, sym}
use Rattle.st_scan.proofs.EntryLemmas.{one_entry, two_entries}
use Rattle.st_scan.proofs.entries.only.Goals as goal

pub returns-then-not-starts-clause-none : goal.returns-then-not-starts-clause-none
returns-then-not-starts-clause-none c =
    two_entries c.args.left.now c.in-Some.entry.now c.in-Some.others.now c.in-Some.ensures.some (sym c.starts.ensures ∙ c.if-not-starts.true)

pub returns-clause-some : goal.returns-clause-some
returns-clause-some c =
    one_entry c.args.left.now c.in-Some.entry.now c.in-Some.others.now c.in-Some.ensures.some (sym c.starts.ensures ∙ c.if-not-starts.false)
