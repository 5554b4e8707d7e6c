use Rattle.std.proofs.Common.{◌∙◌, sym, subst}
use Rattle.st_scan.specs.inside.Standing.{IsNextEntry}
use Rattle.st_scan.proofs.EntryLemmas.{next_entry, no_entry}
use Rattle.st_scan.proofs.entries.next_entry.Goals as goal

pub returns-then-starts-clause-none : goal.returns-then-starts-clause-none
returns-then-starts-clause-none c = no_entry c.args.left.now c.requires (sym c.starts.ensures ∙ c.if-starts.true)

pub returns-clause-some : goal.returns-clause-some
returns-clause-some c =
    subst (IsNextEntry c.args.left.now c.split_value.result.0.now) (sym c.behind_comma.ensures)
    (next_entry c.args.left.now _ c.split_value.result.1.now c.requires (sym c.starts.ensures ∙ c.if-starts.false) c.split_value.ensures)
