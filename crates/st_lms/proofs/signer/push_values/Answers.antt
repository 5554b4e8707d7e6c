use Rattle.std.proofs.Common.{◌∙◌, ◌++◌, ◌*◌, ◌≤◌, ap, arith, length, length-take-le, take}
use Rattle.st_lms.specs.OneTime.{signed_values}
use Rattle.st_lms.proofs.ChainLemmas.{sized}
use Rattle.st_lms.proofs.signer.push_values.Goals as goal

pub slice_bounds-values-end : goal.slice_bounds-values-end
slice_bounds-values-end c =
    omega (arith, (sized _ c.parameters.ensures.known).chain_count, c.parameters.ensures.chains, c.signed_values-values.ensures.long)

pub slice_bounds-push_all-end : goal.slice_bounds-push_all-end
slice_bounds-push_all-end c =
    let fits : 32 * c.parameters.result.chains ≤ length c.signed_values-values.result =
    omega (arith, (sized _ c.parameters.ensures.known).chain_count, c.parameters.ensures.chains, c.signed_values-values.ensures.long) in
    omega (arith, length-take-le (32 * c.parameters.result.chains) c.signed_values-values.result fits)

pub returns : goal.returns
returns c =
    let values = c.signed_values-values in
    c.in_ok-push_all.ensures.ok
    ∙ ap (λ xs. c.args.out.now ++ xs) (ap (λ n. take (32 * n) values.result) c.parameters.ensures.chains
    ∙ values.ensures.values
    ∙ ap (λ secret. signed_values secret.ots secret.id c.args.q secret.seed c.args.digits.now) c.secret.view_is)
