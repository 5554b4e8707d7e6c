use Rattle.std.proofs.Common.{arith}
use Rattle.st_lms.specs.OneTime.{signed_value, signed_values, chains, width, one_time_number}
use Rattle.st_lms.specs.Strings.{coef}
use Rattle.st_lms.proofs.ChainLemmas.{row_joined, coef-greatest, sized}
use Rattle.st_lms.proofs.KeyLemmas.{one_time_known}
use Rattle.st_lms.proofs.one_time.signed_values.Goals as goal

pub returns-clause-long : goal.returns-clause-long
returns-clause-long c = c.values_of_secret.ensures.long

pub returns-clause-values : goal.returns-clause-values
unfolding signed_values signed_value
returns-clause-values c =
    let t = one_time_number c.args.kind in
    let digits = c.args.digits.now in
    let sizes = sized t (one_time_known c.args.kind) in
    row_joined c.values_of_secret.result (signed_value t c.args.id.now c.args.q c.args.seed.now digits) (chains t) (λ i lt.
    c.values_of_secret.ensures.values i (coef digits i (width t)) lt (omega (arith, sizes.greatest, coef-greatest digits i t)) (c.digit_places.ensures i lt))
