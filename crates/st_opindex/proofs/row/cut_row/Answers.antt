use Rattle.std.proofs.Common.{◌∙◌, length, take, ap, arith, inl, inr, length-take}
use Rattle.std.proofs.lemmas.List.{take-take}
use Rattle.st_opindex.proofs.KeyLemmas.{Ascend-take}
use Rattle.st_opindex.proofs.Placed.{split-within, split-front, split-all, split-reaches}
use Rattle.st_opindex.proofs.RowLemmas.{kept_before, row_alike}
use Rattle.st_opindex.proofs.row.cut_row.Goals as goal

pub count_before-at-requires : goal.count_before-at-requires
count_before-at-requires g c = rw c.as_slice.ensures.value c.requires.ascends

pub returns-then-at-len-clause-items : goal.returns-then-at-len-clause-items
returns-then-at-len-clause-items g c =
    let splits = rw c.as_slice.ensures.value at c.count_before-at.ensures in
    split-all splits (omega (arith, c.args.row.now.items.ok.0))

pub go_back-requires : goal.go_back-requires
go_back-requires g c =
    let splits = rw c.as_slice.ensures.value at c.count_before-at.ensures in
    let at = c.count_before-at.result in
    let held = c.args.row.now.items.items in
    let alike = take-take at at held (omega arith) in
    let is = c.truncate.ensures.items in
    record {
      ascends = rw is (Ascend-take at held c.requires.ascends);
      within = omega (arith, split-within splits, ap length is, length-take at held);
      reached = λ upto. rw is (row_alike c.requires (take at held) at upto alike);
      kept = λ past. rw is (kept_before c.requires (take at held) at past alike);
    }

pub returns-clause-items : goal.returns-clause-items
returns-clause-items g c =
    let splits = rw c.as_slice.ensures.value at c.count_before-at.ensures in
    c.in_ok-go_back.ensures.items ∙ c.truncate.ensures.items ∙ split-front splits

pub returns-clause-left : goal.returns-clause-left
returns-clause-left g c =
    let splits = rw c.as_slice.ensures.value at c.count_before-at.ensures in
    let kept = ap length (c.in_ok-go_back.ensures.items ∙ c.truncate.ensures.items) in
    let few = length-take c.count_before-at.result c.args.row.now.items.items in
    elim c.in_ok-go_back.ensures.left [
      | inl same ↦ inl (omega (arith, same, kept, few, split-within splits, c.in_ok-go_back.ensures.row.within))
      | inr left ↦ inr (omega (arith, left, ap length c.truncate.ensures.items, few))
    ]

pub returns-clause-some : goal.returns-clause-some
returns-clause-some g c = λ any.
    let splits = rw c.as_slice.ensures.value at c.count_before-at.ensures in
    split-reaches splits (omega (arith, split-within splits, c.args.row.now.items.ok.0))
