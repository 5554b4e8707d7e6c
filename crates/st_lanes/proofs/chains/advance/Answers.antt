use Rattle.std.proofs.Common.{◌≡◌, ◌∙◌, ◌-◌, ◌++◌, ℕ, List, ap, arith, inl, inr, refl, slice_index, subst, sym}
use Rattle.std.specs.Int.{to_be_bytes, w16}
use Rattle.st_lanes.specs.Chains.{steps, value_at}
use Rattle.st_lanes.specs.inside.Lanes.{AreValues, lane}
use Rattle.st_lanes.proofs.LinkLemmas.{at_next, at_start}
use Rattle.st_lanes.proofs.chains.advance.Goals as goal

pub move_places-requires : goal.move_places-requires
move_places-requires c = record {
  numbers = c.requires.numbers;
  first = c.pick-first.ensures;
  fits = λ k lt. omega (arith, c.pick-first.ensures k lt, c.requires.fits k lt);
}

pub steps-init : goal.steps-init
steps-init c k lt =
    at_start (lane k c.values-value.result) (c.args.head.now ++ to_be_bytes w16 (slice_index c.args.numbers.now k))
    (slice_index c.pick-first.result k) _ (c.values-value.ensures.words k lt) (c.values-value.ensures.values k lt)

pub steps-preserved : goal.steps-preserved
steps-preserved c k lt =
    let i = slice_index c.args.numbers.now k in
    let p = c.args.head.now ++ to_be_bytes w16 i in
    let now = c.steps.invariant k lt in
    let byte = c.bytes_after-bytes.ensures k lt in
    at_next p _ (lane k c.step-value.result) (slice_index c.pick-first.result k) c.steps.done (c.step-value.ensures.words k lt)
    (c.step-value.ensures.digest k p lt (c.heads-heads.ensures k lt) now.words (omega (arith, byte)) ∙ rw (byte, now.value) refl)

pub returns-clause-places : goal.returns-clause-places
returns-clause-places c = c.move_places.ensures

pub returns-clause-values : goal.returns-clause-values
unfolding steps
returns-clause-values c i =
    let was = c.args.places.now in
    let now = c.move_places.new.places in
    let row = c.args.row.now in
    let end : ℕ → List ℕ = λ m. steps (c.args.head.now ++ to_be_bytes w16 m) (slice_index was m) (slice_index now m - slice_index was m) (value_at row m) in
    let hold : AreValues end c.steps.value c.args.numbers.now = λ k lt.
    let m = slice_index c.args.numbers.now k in
    elim (c.move_places.ensures m) [
      | inl moved ↦
          let all : c.steps.done ≡ slice_index now m - slice_index was m = omega (arith, moved.0, c.steps-test.false) in
          (c.steps.invariant k lt).value
          ∙ ap (λ p. steps (c.args.head.now ++ to_be_bytes w16 m) p c.steps.done (value_at row m)) (c.pick-first.ensures k lt)
          ∙ ap (λ n. steps (c.args.head.now ++ to_be_bytes w16 m) (slice_index was m) n (value_at row m)) all
      | inr stayed ↦ absurd (stayed.1 (k, lt, refl))
    ] in
    elim (c.move_places.ensures i) [
      | inl moved ↦ subst (λ m. value_at c.put_values.new.row m ≡ end m) moved.1.2 (c.put_values.ensures.values end hold moved.1.0 moved.1.1)
      | inr stayed ↦
          let none : slice_index now i - slice_index was i ≡ 0 = omega (arith, stayed.0) in
          c.put_values.ensures.others end hold i
          (sym (ap (λ n. steps (c.args.head.now ++ to_be_bytes w16 i) (slice_index was i) n (value_at row i)) none))
    ]
