use Rattle.std.proofs.Common.{◌∙◌, ℕ, ◌<◌, arith}
use Rattle.std.proofs.lemmas.List.{get_or-replicate}
use Rattle.st_lms.specs.OneTime.{one_time_number}
use Rattle.st_lms.proofs.ChainLemmas.{walk_of_seed, sized}
use Rattle.st_lms.proofs.one_time.values_of_secret.Goals as goal

pub repeated-starts-requires : goal.repeated-starts-requires
repeated-starts-requires c = omega (arith, (sized (one_time_number c.args.kind) c.parameters-count.ensures.known).chain_count, c.parameters-count.ensures.chains)

pub walk-requires : goal.walk-requires
walk-requires c =
    let few = (sized (one_time_number c.args.kind) c.parameters-count.ensures.known).chain_count in
    record {
      count = omega (arith, few, c.parameters-count.ensures.chains);
      starts = omega (arith, few, c.parameters-count.ensures.chains, c.repeated-starts.ensures.long);
    }

pub returns-clause-long : goal.returns-clause-long
returns-clause-long c = c.walk.ensures.long

pub returns-clause-values : goal.returns-clause-values
returns-clause-values c = λ i n lt small is.
    let few = (sized (one_time_number c.args.kind) c.parameters-count.ensures.known).chain_count in
    let chain : i < c.parameters-count.result.chains = omega (arith, lt, c.parameters-count.ensures.chains) in
    let first = get_or-replicate {A = ℕ} 265 i 0 0 (omega (arith, lt, few)) in
    c.walk.ensures.ends i chain ∙ rw (c.head.ensures, first, is, c.repeated-starts.ensures.values i chain) (walk_of_seed c.args.id.now c.args.q i n c.args.seed.now small)
