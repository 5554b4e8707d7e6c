use Rattle.std.proofs.Common.{◌≡◌, ◌+◌, ◌≤◌, ◌++◌, length, List, ℕ}
use Rattle.st_drive.specs.Lines.{all_lines}
use Rattle.st_drive.proofs.lines.answer_all.Given as goal

-- the lines so far, and those of the rest
abbrev pub invariant-lines : goal.invariant-lines
invariant-lines g l = record {
  fits : g.M.Machine.fits l.machine (l.context, l.device) (length l.rest + 1);
  later : g.M.Machine.faults (l.fn.context, l.fn.device) ≤ g.M.Machine.faults (l.context, l.device);
  lines : (lines : List (List ℕ)) × (lines ++ all_lines l.rest ≡ all_lines l.bytes) × g.M.Machine.meaning.ran l.fn.machine (l.fn.context, l.fn.device) lines l.machine (l.context, l.device);
  replies : g.M.Machine.meaning.told (l.fn.context, l.fn.device) → l.replies ++ g.M.Machine.meaning.answers l.machine (all_lines l.rest) ≡ g.M.Machine.meaning.answers l.fn.machine (all_lines l.bytes);
}

abbrev pub decreases-lines : goal.decreases-lines
decreases-lines g l = length l.rest
