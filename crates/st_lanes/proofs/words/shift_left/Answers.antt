use Rattle.st_lanes.proofs.Lanes.{shift_left}
use Rattle.st_lanes.proofs.words.shift_left.Goals as goal

pub returns : goal.returns
returns c = shift_left c.args.k c.requires c.args.x c.fits-x.0
