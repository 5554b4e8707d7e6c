use Rattle.std.proofs.Common.{vec_len, ◌+◌, ◌≤◌}
use Rattle.st_io.specs.Past.{FinishesNothing}
use Rattle.st_drive.proofs.EndLemmas.{Taken}
use Rattle.st_drive.proofs.driver.drive.Given as goal

abbrev pub invariant-pieces : goal.invariant-pieces
invariant-pieces g l = record {
  fits : g.M.Machine.fits l.progress.machine (l.context, l.device) (vec_len l.progress.line + l.room + 1);
  context_later : g.M.Machine.faults (l.fn.context, l.fn.device) ≤ g.M.Machine.faults (l.context, l.device);
  source_later : g.S.Source.faults l.fn.source ≤ g.S.Source.faults l.source;
  sink_later : g.K.Sink.faults l.fn.sink ≤ g.K.Sink.faults l.sink;
  unfinished : FinishesNothing (g.K.Sink.is_finished l.fn.sink) (g.K.Sink.is_finished l.sink);
  taken : Taken g.M.Machine.meaning g.M.Machine.CAP l.limit l.room l.progress.line.items
      (record { machine = l.fn.machine; context = (l.fn.context, l.fn.device); left = g.S.Source.left l.fn.source; holds = g.K.Sink.written l.fn.sink })
      (record { machine = l.progress.machine; context = (l.context, l.device); left = g.S.Source.left l.source; holds = g.K.Sink.written l.sink });
}

abbrev pub decreases-pieces : goal.decreases-pieces
decreases-pieces g l = l.room
