use Rattle.std.proofs.Common.{◌≡◌, ◌+◌, ◌≤◌, ◌/◌, ◌∙◌, ap, sym, arith}
use Rattle.st_lms.specs.OneTime.{shortfall, one_time_number}
use Rattle.st_lms.proofs.ChainLemmas.{coef-greatest, shortfall-more, shortfall-none, shortfall_fits, shifted-checksum, sized, fits_byte}
use Rattle.st_lms.proofs.digits.checksum.Goals as goal

pub nonzero_div-count : goal.nonzero_div-count
nonzero_div-count c =
    (fits_byte 0 _ _ c.parameters-parameters.ensures.width c.parameters-parameters.ensures.known).some

pub digits-init : goal.digits-init
digits-init c = sym (shortfall-none (one_time_number c.args.kind) c.args.hash.now)

pub overflow_sub-sum : goal.overflow_sub-sum
overflow_sub-sum c =
    rw (c.coef.ensures, c.parameters-parameters.ensures.greatest_digit)
    (coef-greatest c.args.hash.now c.digits.i (one_time_number c.args.kind))

pub overflow_add-sum : goal.overflow_add-sum
overflow_add-sum c =
    let sizes = sized (one_time_number c.args.kind) c.parameters-parameters.ensures.known in
    let many : c.digits.i + 1 ≤ 256 = omega (arith, rw (← c.parameters-parameters.ensures.width) at sizes.digits) in
    omega (
      arith,
      c.coef.ensures,
      c.parameters-parameters.ensures.greatest_digit,
      c.digits.invariant,
      shortfall-more (one_time_number c.args.kind) c.args.hash.now c.digits.i,
      shortfall_fits (one_time_number c.args.kind) c.args.hash.now (c.digits.i + 1) c.parameters-parameters.ensures.known many,
    )

pub digits-preserved : goal.digits-preserved
digits-preserved c =
    rw (
      shortfall-more (one_time_number c.args.kind) c.args.hash.now c.digits.i,
      c.coef.ensures,
      c.parameters-parameters.ensures.greatest_digit,
      c.digits.invariant,
    )

pub overflow_cast-result : goal.overflow_cast-result
overflow_cast-result c =
    let sizes = sized (one_time_number c.args.kind) c.parameters-parameters.ensures.known in
    omega (arith, sizes.shifted, c.parameters-parameters.ensures.shift)

pub overflow_shl-result : goal.overflow_shl-result
overflow_shl-result c =
    let sizes = sized (one_time_number c.args.kind) c.parameters-parameters.ensures.known in
    omega (arith, sizes.shifted, c.parameters-parameters.ensures.shift)

pub returns : goal.returns
returns c =
    let t = one_time_number c.args.kind in
    let hash = c.args.hash.now in
    let parameters = c.parameters-parameters in
    let last : c.digits.i ≡ 256 / parameters.result.width = omega arith in
    let whole = c.digits.invariant ∙ ap (shortfall t hash) (last ∙ ap (λ w. 256 / w) parameters.ensures.width) in
    shifted-checksum t hash c.digits.sum parameters.result.shift parameters.ensures.known whole parameters.ensures.shift
