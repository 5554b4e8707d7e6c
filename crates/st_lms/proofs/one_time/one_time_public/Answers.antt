use Rattle.std.proofs.Common.{arith}
use Rattle.st_lms.specs.OneTime.{end_of_secret, one_time_public, greatest_digit, one_time_number}
use Rattle.st_lms.proofs.ChainLemmas.{sized}
use Rattle.st_lms.proofs.KeyLemmas.{one_time_known}
use Rattle.st_lms.proofs.one_time.one_time_public.Goals as goal

pub returns : goal.returns
unfolding one_time_public end_of_secret
returns c =
    let t = one_time_number c.args.kind in
    let sizes = sized t (one_time_known c.args.kind) in
    c.key_of_ends.ensures (end_of_secret t c.args.id.now c.args.q c.args.seed.now) (λ i lt.
    c.values_of_secret-ends.ensures.values i (greatest_digit t) lt (omega (arith, sizes.greatest)) (c.last_places.ensures i (omega (arith, lt, sizes.chain_count))))
