use Rattle.std.proofs.Common.{refl, sym}
use Rattle.sha2.proofs.Schedule256.{rounds_first}
use Rattle.st_lanes.specs.inside.Lanes.{lane}
use Rattle.st_lanes.proofs.Lanes.{lane_at}
use Rattle.st_lanes.proofs.block.first_step.Goals as goal

pub returns : goal.returns
returns c = λ j b h lt window held.
    rounds_first b h (lane j c.args.w.now) (lane j c.args.v) c.args.t _ _ _ c.requires window held refl
    (sym (lane_at c.args.w.now j c.args.t)) (c.round.ensures j lt)
