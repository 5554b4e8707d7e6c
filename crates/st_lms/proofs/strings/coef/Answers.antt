use Rattle.std.proofs.Common.{arith}
use Rattle.st_lms.specs.OneTime.{greatest_digit}
use Rattle.st_lms.proofs.KeyLemmas.{shifted-coef}
use Rattle.st_lms.proofs.ChainLemmas.{fits_byte, place_fits}
use Rattle.st_lms.proofs.strings.coef.Goals as goal

pub nonzero_div-below : goal.nonzero_div-below
nonzero_div-below c =
    (fits_byte c.args.i _ _ c.parameters-parameters.ensures.width c.parameters-parameters.ensures.known).some

pub nonzero_rem-below : goal.nonzero_rem-below
nonzero_rem-below c =
    (fits_byte c.args.i _ _ c.parameters-parameters.ensures.width c.parameters-parameters.ensures.known).whole

pub overflow_mul-below : goal.overflow_mul-below
overflow_mul-below c =
    let fits = fits_byte c.args.i _ _ c.parameters-parameters.ensures.width c.parameters-parameters.ensures.known in
    omega (arith, fits.within)

pub overflow_add-below : goal.overflow_add-below
overflow_add-below c =
    let fits = fits_byte c.args.i _ _ c.parameters-parameters.ensures.width c.parameters-parameters.ensures.known in
    omega (arith, fits.within)

pub overflow_sub-below : goal.overflow_sub-below
overflow_sub-below c =
    (fits_byte c.args.i _ _ c.parameters-parameters.ensures.width c.parameters-parameters.ensures.known).within

pub overflow_mul-result : goal.overflow_mul-result
overflow_mul-result c =
    let fits = fits_byte c.args.i _ _ c.parameters-parameters.ensures.width c.parameters-parameters.ensures.known in
    omega (arith, place_fits c.args.i c.parameters-parameters.result.width c.ranges.i.fits fits.small)

pub overflow_shr-result : goal.overflow_shr-result
overflow_shr-result c =
    let fits = fits_byte c.args.i _ _ c.parameters-parameters.ensures.width c.parameters-parameters.ensures.known in
    omega (arith, fits.some, fits.within)

pub returns : goal.returns
unfolding greatest_digit
returns c =
    rw (← c.parameters-parameters.ensures.width)
    (shifted-coef c.args.s.now c.args.i c.parameters-parameters.result.width _
    (rw c.parameters-parameters.ensures.width c.parameters-parameters.ensures.greatest_digit))
