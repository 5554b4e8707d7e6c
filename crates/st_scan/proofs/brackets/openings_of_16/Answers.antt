use Rattle.std.proofs.Common.{ap, ◌∙◌, arith, count_ones}
use Rattle.std.proofs.lemmas.Simd.{ones-mask_l}
use Rattle.st_plain.specs.ReadAgain.{opens}
use Rattle.st_plain.proofs.MarkLemmas.{lanes_marked}
use Rattle.st_scan.proofs.brackets.openings_of_16.Goals as goal

pub returns : goal.returns
returns c = ap count_ones (lanes_marked 91 123 c.args.step 16 c.fits-step.0 (omega arith)) ∙ ones-mask_l opens c.args.step
