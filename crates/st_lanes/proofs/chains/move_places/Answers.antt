use Rattle.std.proofs.Common.{◌∙◌, ◌+◌, ◌≡◌, ap, arith, length-set, slice_index, subst}
use Rattle.st_lanes.specs.inside.Lanes.{Moves}
use Rattle.st_lanes.proofs.LinkLemmas.{moves_more, moves_none}
use Rattle.st_lanes.proofs.chains.move_places.Goals as goal

pub lanes-init : goal.lanes-init
lanes-init c = (c.told-places, moves_none c.args.numbers.now c.args.places.now c.args.count)

pub lanes-preserved : goal.lanes-preserved
lanes-preserved c = (
  length-set c.lanes.places _ _ ∙ c.lanes.invariant.0,
  λ i. moves_more c.args.numbers.now c.args.places.now c.args.count c.lanes.places c.lanes.k _ i
      (omega (arith, c.requires.numbers c.lanes.k c.lanes-test.true, c.lanes.invariant.0))
      (ap (λ x. x + c.args.count) (c.requires.first c.lanes.k c.lanes-test.true)) (c.lanes.invariant.1 i),
)

pub returns : goal.returns
returns c =
    let done : c.lanes.k ≡ 8 = omega arith in
    λ i. subst (λ k. Moves c.args.numbers.now k c.args.count (slice_index c.args.places.now i) (slice_index c.lanes.places i) i) done (c.lanes.invariant.1 i)
