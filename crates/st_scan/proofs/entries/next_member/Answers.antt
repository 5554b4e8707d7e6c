use Rattle.std.proofs.Common.{◌∙◌, sym, subst}
use Rattle.st_plain.specs.ReadAgain.{Splits}
use Rattle.st_scan.specs.inside.Standing.{IsNextMember}
use Rattle.st_scan.proofs.EntryLemmas.{next_member, no_member}
use Rattle.st_scan.proofs.entries.next_member.Goals as goal

pub returns-then-starts-clause-none : goal.returns-then-starts-clause-none
returns-then-starts-clause-none c = no_member c.args.left.now c.requires (sym c.starts.ensures ∙ c.if-starts.true)

pub returns-clause-some : goal.returns-clause-some
returns-clause-some c =
    let value = c.split_value-2.result in
    let again = subst (λ text. Splits text value.0.now value.1.now) c.behind_first.ensures c.split_value-2.ensures in
    subst (IsNextMember c.args.left.now c.split_value.result.0.now value.0.now) (sym c.behind_comma.ensures)
    (next_member c.args.left.now _ c.split_value.result.1.now _ value.1.now c.split_value.ensures again c.requires
    (sym c.starts.ensures ∙ c.if-starts.false))
