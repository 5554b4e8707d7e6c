use Rattle.std.proofs.Common.{◌∙◌, length, ap, arith, inl, inr}
use Rattle.st_opindex.specs.Items.{from, with_item}
use Rattle.st_opindex.proofs.Placed.{Ascend-with_item, split-alike, split-length}
use Rattle.st_opindex.proofs.RowLemmas.{row_alike, kept_before}
use Rattle.st_opindex.proofs.row.put_row.Goals as goal

pub set_item-requires : goal.set_item-requires
set_item-requires g c = rw c.as_slice.ensures.value at c.count_before-at.ensures

pub go_back-requires : goal.go_back-requires
go_back-requires g c =
    let splits = rw c.as_slice.ensures.value at c.count_before-at.ensures in
    let at = c.count_before-at.result in
    let put = with_item c.args.place c.args.item c.args.row.now.items.items in
    let is = c.in_ok-set_item.ensures in
    record {
      ascends = rw is (Ascend-with_item c.args.place c.args.item c.args.row.now.items.items c.requires.ascends);
      within = omega (arith, split-length splits c.args.item, ap length is);
      reached = λ upto. rw is (row_alike c.requires put at upto (split-alike splits c.args.item));
      kept = λ past. rw is (kept_before c.requires put at past (split-alike splits c.args.item));
    }

pub returns-clause-left : goal.returns-clause-left
returns-clause-left g c =
    let splits = rw c.as_slice.ensures.value at c.count_before-at.ensures in
    let is = c.in_ok-go_back.ensures.items ∙ c.in_ok-set_item.ensures in
    elim c.in_ok-go_back.ensures.left [
      | inl same ↦ inl (omega (arith, same, c.requires.within, c.in_ok-go_back.ensures.row.within))
      | inr left ↦ inr (omega (
        arith,
        left,
        split-length splits c.args.item,
        ap length c.in_ok-set_item.ensures,
        ap (λ items. length (from c.args.place items)) is,
      ))
    ]
