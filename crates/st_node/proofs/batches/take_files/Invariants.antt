use Rattle.std.proofs.Common.{◌≡◌}
use Rattle.std.specs.Vec.Iter.{into_iter_items}
use Rattle.st_base.specs.Work.{WorkValue}
use Rattle.st_batch.specs.Laws.{AreNamed}
use Rattle.st_node.specs.Machine.{all_arrived}
use Rattle.st_node.specs.Work.{ArrivalsCounts}
use Rattle.st_node.proofs.batches.take_files.Given as goal

-- the remaining files are named; after they are received too, all are; and their counts are within the bound of all
abbrev pub invariant-loop-file : goal.invariant-loop-file
invariant-loop-file l = record {
  named : AreNamed (into_iter_items l.file-iterator);
  state : all_arrived (into_iter_items l.file-iterator) l.taken ≡ all_arrived l.fn.files l.fn.observer;
  counts : (new : WorkValue) → ArrivalsCounts l.taken (into_iter_items l.file-iterator) l.work new → ArrivalsCounts l.fn.observer l.fn.files l.fn.work new;
}
