use Rattle.std.proofs.Common.{arith}
use Rattle.st_plain.proofs.MarkLemmas.{lanes_stop}
use Rattle.st_plain.proofs.spans.stops_of_16.Goals as goal

pub returns : goal.returns
returns c = lanes_stop c.args.step 16 c.fits-step.0 (omega arith)
