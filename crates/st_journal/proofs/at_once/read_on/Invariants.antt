use Rattle.std.proofs.Common.{◌≡◌, ◌<◌, ◌≤◌}
use Rattle.st_io.specs.Past.{StaysAsItWas}
use Rattle.st_io.specs.Histories.{IfTold}
use Rattle.st_journal.specs.Opening.{IsReading, coming, left_of, put_before}
use Rattle.st_journal.proofs.at_once.read_on.Given as goal

-- the records so far were read
abbrev pub invariant-records : goal.invariant-records
invariant-records g l = record {
  reading : IsReading l.opening (g.D.Disk.reads l.disk) (g.D.Disk.past l.disk);
  given : IfTold (g.D.Disk.reads l.fn.disk) (λ image. coming l.fn.opening image ≡ put_before l.bodies (coming l.opening image));
  left : 0 < left_of l.opening → 0 < left_of l.fn.opening;
  as_it_was : StaysAsItWas (g.D.Disk.reads l.fn.disk) (g.D.Disk.reads l.disk) (g.D.Disk.past l.fn.disk) (g.D.Disk.past l.disk);
  later : g.D.Disk.faults l.fn.disk ≤ g.D.Disk.faults l.disk;
}

abbrev pub decreases-records : goal.decreases-records
decreases-records g l = left_of l.opening
