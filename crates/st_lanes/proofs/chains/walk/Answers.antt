use Rattle.std.proofs.Common.{◌≡◌, ◌≤◌, ◌∙◌, ◌+◌, ◌++◌, ◌-◌, ◌<◌, ◌⊎◌, ℕ, ap, arith, inl, inr, length, List, length-set, refl, set, slice_index, subst, sym}
use Rattle.std.proofs.lemmas.Bool.{cases_eq}
use Rattle.std.proofs.lemmas.List.{get_or-set_other, get_or-set_same}
use Rattle.std.specs.Int.{to_be_bytes, w16}
use Rattle.st_lanes.specs.Chains.{end_of, steps, value_at}
use Rattle.st_lanes.specs.inside.Lanes.{Has, Leads}
use Rattle.st_lanes.proofs.LinkLemmas.{has_rest, steps_on}
use Rattle.st_lanes.proofs.chains.walk.Goals.{then-steps-gt0, else-steps-gt0}
use Rattle.st_lanes.proofs.chains.walk.Goals as goal

pub chains-init : goal.chains-init
chains-init c = (
  c.by_steps-order.ensures.long,
  c.copied-row.ensures.long,
  λ i lt. ap (steps (c.args.head.now ++ to_be_bytes w16 i) (slice_index c.args.from.now i) (slice_index c.args.to.now i - slice_index c.args.from.now i)) (c.copied-row.ensures.values i lt),
  λ k lt. c.by_steps-order.ensures.chains k (omega (arith, lt)),
  λ i lt. let found = c.by_steps-order.ensures.all i lt in inr (found.0, omega (arith, found.1), found.2),
)

pub advance-requires-clause-fits : goal.advance-requires-clause-fits
advance-requires-clause-fits c k lt =
    omega (arith, c.shortest-lane.ensures.shortest k lt, c.steps_left-steps.ensures, c.if-steps-gt0.true, c.fits-to)

-- where each chain is after a turn, and that the one of the lane is at its end
record Turned (c : goal.After-saturating_sub) (row places : List ℕ) : Type 0 where
  long : length row ≡ 8480
  on : (i : ℕ) → i < c.args.count → Leads c.args.head.now c.args.to.now (end_of c.args.head.now c.args.from.now c.args.to.now c.args.starts.now) row places i
  later : (i : ℕ) → slice_index c.chains.places i ≤ slice_index places i
  ended :
      slice_index c.args.to.now (slice_index c.eight_before-numbers.result c.shortest-lane.result)
      ≤ slice_index places (slice_index c.eight_before-numbers.result c.shortest-lane.result)

turned : (c : goal.After-saturating_sub) → Turned c c.if-steps-gt0.row c.if-steps-gt0.places
turned c = elim c.if-steps-gt0.branch [
  | then-steps-gt0 w ↦
      let numbers = c.eight_before-numbers.result in
      let to = c.args.to.now in
      let was = c.chains.places in
      let now = w.advance.new.places in
      let count = c.steps_left-steps.result in
      let step : (i : ℕ) → (slice_index was i ≤ slice_index now i) × (slice_index now i - slice_index was i ≤ slice_index to i - slice_index was i) =
      λ i. elim (w.advance.ensures.places i) [
        | inl moved ↦
            let fits : count ≤ slice_index to i - slice_index was i =
            subst (λ m. count ≤ slice_index to m - slice_index was m) moved.1.2 (omega (arith, c.steps_left-steps.ensures, c.shortest-lane.ensures.shortest moved.1.0 moved.1.1)) in
            (omega (arith, moved.0), omega (arith, moved.0, fits))
        | inr stayed ↦ (omega (arith, stayed.0), omega (arith, stayed.0))
      ] in
      subst (λ places. Turned c c.if-steps-gt0.row places) (sym w.places-is) (subst (λ row. Turned c row now) (sym w.row-is) (record {
        long = w.advance.array_long;
        on = λ i lt.
            let p = c.args.head.now ++ to_be_bytes w16 i in
            ap (steps p (slice_index now i) (slice_index to i - slice_index now i)) (w.advance.ensures.values i)
            ∙ steps_on p (value_at c.chains.row i) (slice_index was i) (slice_index now i) (slice_index to i) (step i).0 (step i).1 ∙ c.chains.invariant.2 i lt;
        later = λ i. (step i).0;
        ended = elim (w.advance.ensures.places (slice_index numbers c.shortest-lane.result)) [
          | inl moved ↦ omega (arith, moved.0, c.steps_left-steps.ensures)
          | inr stayed ↦ absurd (stayed.1 (c.shortest-lane.result, c.shortest-lane.ensures.lane, refl))
        ];
      }))
  | else-steps-gt0 w ↦
      subst (λ places. Turned c c.if-steps-gt0.row places) (sym w.places-is) (subst (λ row. Turned c row c.chains.places) (sym w.row-is) (record {
        long = c.chains.invariant.1;
        on = c.chains.invariant.2;
        later = λ i. omega arith;
        ended = omega (arith, w.if-steps-gt0.false, c.steps_left-steps.ensures);
      }))
]

pub chains-preserved : goal.chains-preserved
chains-preserved c =
    let now = turned c in
    let order = c.chains.order in
    let place = c.saturating_sub.result in
    let left = c.args.count - c.chains.ended in
    let low : place < left = omega (arith, c.shortest-lane.ensures.lane, c.chains-test.true) in
    let fits : left ≤ length order = omega (arith, c.chains.invariant.0, c.requires.count) in
    let here : slice_index order place ≡ slice_index c.eight_before-numbers.result c.shortest-lane.result =
    ap (slice_index order) (omega arith) ∙ sym (c.eight_before-numbers.ensures c.shortest-lane.result c.shortest-lane.ensures.lane) in
    let less : left - 1 ≡ c.args.count - (c.chains.ended + 1) = omega arith in (
      length-set order _ _ ∙ c.chains.invariant.0,
      now.long,
      now.on,
      λ k lt. elim (cases_eq k place) [
        | inl is ↦
            let same : slice_index (set order place (slice_index order (left - 1))) k ≡ slice_index order (left - 1) =
            ap (slice_index (set order place (slice_index order (left - 1)))) is ∙ get_or-set_same order place (slice_index order (left - 1)) 0 (omega (arith, low, fits)) in
            omega (arith, same, c.chains.invariant.3 (left - 1) (omega arith))
        | inr other ↦ omega (arith, get_or-set_other order place k (slice_index order (left - 1)) 0 other, c.chains.invariant.3 k (omega (arith, lt)))
      ],
      λ i lt.
          let before : (slice_index c.args.to.now i ≤ slice_index c.if-steps-gt0.places i) ⊎ Has order left i = elim (c.chains.invariant.4 i lt) [
            | inl past ↦ inl (omega (arith, past, now.later i))
            | inr found ↦ inr found
          ] in
          rw (sym less) (has_rest (λ m. slice_index c.args.to.now m ≤ slice_index c.if-steps-gt0.places m) order left place low fits (rw here now.ended) i before),
    )

pub returns-clause-long : goal.returns-clause-long
returns-clause-long c = c.chains.invariant.1

pub returns-clause-ends : goal.returns-clause-ends
unfolding steps
returns-clause-ends c i lt = elim (c.chains.invariant.4 i lt) [
  | inl past ↦
      let none : slice_index c.args.to.now i - slice_index c.chains.places i ≡ 0 = omega (arith, past) in
      rw none at (c.chains.invariant.2 i lt)
  | inr found ↦ absurd (omega (arith, found.1, c.chains-test.false))
]
