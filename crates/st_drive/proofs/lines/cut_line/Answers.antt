use Rattle.std.proofs.Common.{◌∙◌, ◌+◌, ◌∷◌, ap, length, take}
use Rattle.std.proofs.Math.Seq.{take-append-add}
use Rattle.st_drive.proofs.lines.cut_line.Goals as goal

pub returns-in-Some-clause-line : goal.returns-in-Some-clause-line
returns-in-Some-clause-line c = record {
  line = c.in-Some.front.now;
  none = c.in-Some.ensures.first;
  is = c.split_at.ensures.front ∙ ap (take (length c.in-Some.front.now + 1)) c.in-Some.ensures.whole ∙ take-append-add c.in-Some.front.now (10 ∷ _) 1;
}
