use Rattle.std.proofs.Common.{◌+◌, ap, arith}
use Rattle.st_lanes.proofs.Lanes.{filled_more, filled_none}
use Rattle.st_lms.specs.OneTime.{one_time_number}
use Rattle.st_lms.proofs.KeyLemmas.{one_time_known}
use Rattle.st_lms.proofs.ChainLemmas.{digit_in_digits, sized}
use Rattle.st_lms.proofs.digits.digit_places.Goals as goal

pub digits-init : goal.digits-init
digits-init c = filled_none _ 265 0

pub coef-requires : goal.coef-requires
coef-requires c =
    omega (arith, c.told-digits, digit_in_digits c.digits.i (one_time_number c.args.kind) (one_time_known c.args.kind) (omega (arith, c.parameters-i-end.ensures.chains)))

pub bounds-places-i : goal.bounds-places-i
bounds-places-i c =
    omega (arith, (sized (one_time_number c.args.kind) c.parameters-i-end.ensures.known).chain_count, c.parameters-i-end.ensures.chains)

pub digits-preserved : goal.digits-preserved
digits-preserved c =
    filled_more _ 265 c.digits.places c.digits.i _ c.digits.invariant (omega (arith, (sized (one_time_number c.args.kind) c.parameters-i-end.ensures.known).chain_count, c.parameters-i-end.ensures.chains)) (ap (λ d. d + 1) c.coef.ensures)

pub returns : goal.returns
returns c = λ i lt. c.digits.invariant.each i (omega (arith, lt, c.parameters-i-end.ensures.chains))
