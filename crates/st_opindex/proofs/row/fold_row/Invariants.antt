use Rattle.std.proofs.Common.{◌≡◌, ◌-◌, ◌≤◌, length}
use Rattle.st_base.specs.Work.{AppliesAtMost}
use Rattle.st_opindex.specs.Items.{Reached}
use Rattle.st_opindex.proofs.row.fold_row.Given as goal

abbrev pub invariant-loop-at : goal.invariant-loop-at
invariant-loop-at g l = record {
  items : l.row.items.items ≡ l.fn.row.items.items;
  within : l.at ≤ length l.row.items.items;
  reached : Reached (g.F.Folder.next l.folder) (g.F.Folder.first l.folder) l.row.items.items l.at l.row.kept.items l.row.last;
  bound : AppliesAtMost (l.at - l.fn.row.done) l.fn.work l.work;
}
