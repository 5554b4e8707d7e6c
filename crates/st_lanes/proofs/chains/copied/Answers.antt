use Rattle.std.proofs.Common.{◌*◌, arith}
use Rattle.st_lanes.proofs.Lanes.{value_in_front}
use Rattle.st_lanes.proofs.chains.copied.Goals as goal

pub returns-clause-values : goal.returns-clause-values
returns-clause-values c i lt =
    value_in_front c.args.starts.now c.copy_from_slice.new.self _ (32 * c.args.count) i
    c.copy_from_slice.ensures.after (omega (arith, c.requires.starts)) (omega (arith, lt))
