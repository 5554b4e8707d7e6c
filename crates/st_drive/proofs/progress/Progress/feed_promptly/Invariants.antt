use Rattle.std.proofs.Common.{◌≤◌, ◌+◌, ◌++◌, List, ℕ, length, vec_len}
use Rattle.st_io.specs.Past.{FinishesNothing}
use Rattle.st_drive.specs.Runs.{Wrote}
use Rattle.st_drive.proofs.FedLemmas.{Pieces}
use Rattle.st_drive.proofs.progress.Progress.feed_promptly.Given as goal

-- the lines so far were answered and their replies are written, and the others are those of the line and the rest
abbrev pub invariant-lines : goal.invariant-lines
invariant-lines g l = record {
  fits : (more : ℕ) → g.M.Machine.fits l.fn.self.machine (l.fn.context, l.fn.device) (vec_len l.fn.self.line + length l.piece + more) → g.M.Machine.fits l.progress.machine (l.context, l.device) (vec_len l.progress.line + length l.rest + more);
  later : g.K.Sink.faults l.fn.sink ≤ g.K.Sink.faults l.sink;
  context_later : g.M.Machine.faults (l.fn.context, l.fn.device) ≤ g.M.Machine.faults (l.context, l.device);
  unfinished : FinishesNothing (g.K.Sink.is_finished l.fn.sink) (g.K.Sink.is_finished l.sink);
  answered : (lines : List (List ℕ))
      × Pieces g.M.Machine.CAP (l.fn.self.line.items ++ l.piece) lines (l.progress.line.items ++ l.rest)
      × Wrote g.M.Machine.meaning g.M.Machine.CAP l.fn.self.machine (l.fn.context, l.fn.device) lines l.progress.machine (l.context, l.device) (g.K.Sink.written l.fn.sink) (g.K.Sink.written l.sink);
}

abbrev pub decreases-lines : goal.decreases-lines
decreases-lines g l = length l.rest
