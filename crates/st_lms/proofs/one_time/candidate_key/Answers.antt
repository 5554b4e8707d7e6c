use Rattle.std.proofs.Common.{◌∙◌, ◌<◌, arith}
use Rattle.st_lms.specs.OneTime.{candidate_key, end_of_value, greatest_digit, width, one_time_number}
use Rattle.st_lms.specs.Strings.{coef, value_at}
use Rattle.st_lms.proofs.ChainLemmas.{walk_of_value, coef-greatest, sized}
use Rattle.st_lms.proofs.one_time.candidate_key.Goals as goal

pub walk-ends-requires : goal.walk-ends-requires
walk-ends-requires c =
    record {
      count = omega (arith, (sized (one_time_number c.args.kind) c.parameters.ensures.known).chain_count, c.parameters.ensures.chains);
      starts = omega (arith, c.parameters.ensures.chains, c.requires);
    }

pub returns : goal.returns
unfolding candidate_key end_of_value
returns c =
    let t = one_time_number c.args.kind in
    let digits = c.args.digits.now in
    let sizes = sized t c.parameters.ensures.known in
    c.key_of_ends.ensures (end_of_value t c.args.id.now c.args.q digits c.args.values.now) (λ i lt.
    let chain : i < c.parameters.result.chains = omega (arith, lt, c.parameters.ensures.chains) in
    let last = c.last_places.ensures i (omega (arith, lt, sizes.chain_count)) in
    c.walk-ends.ensures.ends i chain ∙ rw (c.head.ensures, c.digit_places.ensures i lt, last) (
    walk_of_value c.args.id.now c.args.q i (coef digits i (width t)) (greatest_digit t) (value_at c.args.values.now i) (coef-greatest digits i t)
    (omega (arith, sizes.greatest))))
