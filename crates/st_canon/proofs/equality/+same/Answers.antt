use Rattle.std.proofs.Common.{length, ap, sym, ◌∙◌, arith}
use Rattle.std.proofs.lemmas.Bool.{false≢true}
use Rattle.st_base.proofs.ListLemmas.{next_item}
use Rattle.st_canon.specs.View.{plain_members}
use Rattle.st_canon.proofs.TreeLemmas.{same_length, same_count, name_here, same_so_far}
use Rattle.st_canon.proofs.equality.+same.Goals as goal

pub same_items-returns-then-items-others : goal.same_items-returns-then-items-others
same_items-returns-then-items-others t c = (
  λ h. absurd (false≢true h),
  λ same.
      let long = same_length c.args.first.now c.args.second.now same in
      absurd (omega (arith, ap length c.as_slice-items.ensures, ap length c.as_slice-others.ensures)),
)

pub same_members-returns-then-pairs-others : goal.same_members-returns-then-pairs-others
same_members-returns-then-pairs-others t c = (
  λ h. absurd (false≢true h),
  λ same.
      let long = same_count c.args.first.now c.args.second.now same in
      absurd (omega (arith, ap length c.pairs-pairs.ensures.all, ap length c.pairs-others.ensures.all)),
)

pub same_members-returns-then-not-is_name : goal.same_members-returns-then-not-is_name
same_members-returns-then-not-is_name t c =
    let es = c.pairs-pairs.result.now in
    let fs = c.pairs-others.result.now in
    let first = next_item es c.loop-at.at c.index-pairs-at.result c.loop-at-test.true c.index-pairs-at.is in
    let second = next_item fs c.loop-at.at c.index-others-at.result (omega arith) c.index-others-at.is in (
      λ h. absurd (false≢true h),
      λ same.
          let whole = ap plain_members c.pairs-pairs.ensures.all ∙ same ∙ sym (ap plain_members c.pairs-others.ensures.all) in
          let named = name_here es fs c.loop-at.at c.index-pairs-at.result c.index-others-at.result _ first second c.loop-at.invariant whole in
          let is = c.is_name.ensures.1 (c.as_str.ensures ∙ named ∙ sym c.as_str-in-loop-at.ensures) in
          absurd (false≢true (sym c.if-not-is_name.true ∙ is)),
    )

pub same_members-loop-at-preserved : goal.same_members-loop-at-preserved
same_members-loop-at-preserved t c =
    let es = c.pairs-pairs.result.now in
    let fs = c.pairs-others.result.now in
    let first = next_item es c.loop-at.at c.index-pairs-at.result c.loop-at-test.true c.index-pairs-at.is in
    let second = next_item fs c.loop-at.at c.index-others-at.result (omega arith) c.index-others-at.is in
    same_so_far es fs c.loop-at.at c.index-pairs-at.result c.index-others-at.result _ first second c.loop-at.invariant
    (sym c.as_str.ensures ∙ c.is_name.ensures.0 c.if-not-is_name.false ∙ c.as_str-in-loop-at.ensures) (c.same.ensures.0 c.if-not-same.false)
