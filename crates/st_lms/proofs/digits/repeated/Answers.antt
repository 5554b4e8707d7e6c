use Rattle.std.proofs.Common.{◌≡◌, ◌∙◌, ◌+◌, ◌*◌, ◌++◌, List, ℕ, ap, arith, sym}
use Rattle.st_lms.proofs.ChainLemmas.{value_in_row, joined-more, joined-none}
use Rattle.st_lms.proofs.digits.repeated.Goals as goal

pub values-init : goal.values-init
values-init c = (c.blank-row.ensures, sym (joined-none (λ i. c.args.value.now)))

pub put-requires : goal.put-requires
put-requires c = omega (arith, c.told-value, c.values.invariant.0, c.requires)

pub values-preserved : goal.values-preserved
values-preserved c =
    let size : 32 * (c.values.i + 1) ≡ 32 * c.values.i + 32 = omega arith in
    let value : ℕ → List ℕ = λ i. c.args.value.now in (
      c.put.auto.row ∙ c.values.invariant.0,
      rw size ((rw c.told-value at c.put.ensures) ∙ ap (λ xs. xs ++ c.args.value.now) c.values.invariant.1 ∙ sym (joined-more value c.values.i)),
    )

pub returns-clause-long : goal.returns-clause-long
returns-clause-long c = c.values.invariant.0

pub returns-clause-values : goal.returns-clause-values
returns-clause-values c = λ i lt.
    value_in_row c.values.row (λ i. c.args.value.now) c.values.i i (λ i. c.told-value) c.values.invariant.1 (omega arith)
