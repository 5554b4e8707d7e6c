use Rattle.std.proofs.Common.{◌<◌, ◌≤◌}
use Rattle.st_io.specs.Past.{StaysAsItWas}
use Rattle.st_io.specs.Histories.{IfTold}
use Rattle.st_journal.specs.Opening.{IsReading, coming, left_of}
use Rattle.st_journal_lines.proofs.ReplayLemmas.{Replayed}
use Rattle.st_journal_lines.proofs.running.replay.Given as goal

-- the machine has replayed the records read so far
abbrev pub invariant-records : goal.invariant-records
invariant-records g l = record {
  reading : IsReading l.opening (g.D.Disk.reads l.disk) (g.D.Disk.past l.disk);
  replayed : IfTold (g.D.Disk.reads l.fn.disk) (λ image.
      Replayed g.N.Replayable.answering l.fn.machine l.fn.context l.fn.opening.place l.opening.place image (coming l.fn.opening image) (coming l.opening image) l.machine l.context);
  left : 0 < left_of l.opening → 0 < left_of l.fn.opening;
  as_it_was : StaysAsItWas (g.D.Disk.reads l.fn.disk) (g.D.Disk.reads l.disk) (g.D.Disk.past l.fn.disk) (g.D.Disk.past l.disk);
  later : g.D.Disk.faults l.fn.disk ≤ g.D.Disk.faults l.disk;
}

abbrev pub decreases-records : goal.decreases-records
decreases-records g l = left_of l.opening
