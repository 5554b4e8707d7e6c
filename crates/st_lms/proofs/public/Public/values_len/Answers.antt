use Rattle.std.proofs.Common.{arith}
use Rattle.st_lms.specs.OneTime.{one_time_number}
use Rattle.st_lms.proofs.ChainLemmas.{sized}
use Rattle.st_lms.proofs.public.Public.values_len.Goals as goal

pub returns-clause-small : goal.returns-clause-small
returns-clause-small c =
    let sizes = sized (one_time_number c.self.inside.ots) c.parameters.ensures.known in
    omega (arith, c.parameters.ensures.chains, sizes.chain_count)
