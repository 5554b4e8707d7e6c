use Rattle.st_lanes.proofs.Lanes.{shift_right}
use Rattle.st_lanes.proofs.words.shift_right.Goals as goal

pub returns : goal.returns
returns c = shift_right c.args.k c.requires c.args.x c.fits-x.0
