use Rattle.std.proofs.Common.{◌<◌, arith}
use Rattle.st_apply.proofs.LawLemmas.{long_counts_not}
use Rattle.st_apply.proofs.counting.may_count.Goals as goal

pub returns-then-size-max_delta-clause-no : goal.returns-then-size-max_delta-clause-no
returns-then-size-max_delta-clause-no c =
    let more : c.args.params.now.max_delta < c.size.result = omega (arith, c.if-size-max_delta.true, c.max_delta.ensures) in
    λ _. long_counts_not c.args.params.now c.args.delta_hash.now c.args.delta.now c.size.result c.size.ensures more
