use Rattle.std.proofs.Common.{◌≡◌, ◌∙◌, slice_index, arith}
use Rattle.st_lanes.specs.Chains.{value_at}
use Rattle.st_lanes.proofs.Lanes.{one_more}
use Rattle.st_lanes.proofs.rows.put_values.Goals as goal

pub lanes-init : goal.lanes-init
lanes-init c = λ end hold. (λ m lt. absurd (omega arith), λ i was. was)

pub lanes-preserved : goal.lanes-preserved
lanes-preserved c = λ end hold.
    let before = c.lanes.invariant end hold in
    let here = hold c.lanes.k (omega arith) in (
      one_more (λ m. value_at c.put_lane.new.row (slice_index c.args.numbers.now m) ≡ end (slice_index c.args.numbers.now m)) c.lanes.k
          (λ m lt. c.put_lane.ensures.others end here _ (before.0 m lt))
          (c.put_lane.ensures.value ∙ here),
      λ i was. c.put_lane.ensures.others end here i (before.1 i was),
    )

pub returns-clause-values : goal.returns-clause-values
returns-clause-values c = λ end hold k lt. (c.lanes.invariant end hold).0 k (omega arith)

pub returns-clause-others : goal.returns-clause-others
returns-clause-others c = λ end hold. (c.lanes.invariant end hold).1
