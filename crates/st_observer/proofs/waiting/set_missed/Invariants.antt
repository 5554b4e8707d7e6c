use Rattle.std.proofs.Common.{take}
use Rattle.st_observer.specs.inside.Waiting.{AreRows, SetsMissed, seen}
use Rattle.st_observer.proofs.waiting.set_missed.Given as goal

abbrev pub invariant-states : goal.invariant-states
invariant-states l = record {
  rows : AreRows l.files.entries;
  sets : SetsMissed (take l.state-index l.states) l.n l.waits (seen l.fn.files.entries) (seen l.files.entries);
}
