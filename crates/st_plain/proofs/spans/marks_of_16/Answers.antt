use Rattle.std.proofs.Common.{arith}
use Rattle.st_plain.proofs.MarkLemmas.{lanes_marked}
use Rattle.st_plain.proofs.spans.marks_of_16.Goals as goal

pub returns : goal.returns
returns c = lanes_marked 34 92 c.args.step 16 c.fits-step.0 (omega arith)
