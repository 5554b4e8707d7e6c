use Rattle.std.proofs.Common.{List, take, ℕ}
use Rattle.std.specs.List.{AllByRecursion}
use Rattle.st_opindex.specs.Items.{Covers, AreRows}
use Rattle.st_opindex.proofs.FoldLemmas.{HasPaid, IsFolding}
use Rattle.st_opindex.proofs.rows.fold_keys.Given as goal

abbrev pub invariant-changes : goal.invariant-changes
invariant-changes g l =
    let cmp = g.K.Ord.cmp in
    record {
      rows : AreRows cmp (g.F.Folder.next l.folder) (g.F.Folder.first l.folder) l.rows.entries;
      folding : IsFolding cmp (take l.change-index l.changes) l.fn.rows.entries l.rows.entries;
      paid : (names : List (_ × ℕ)) → AllByRecursion (Covers cmp names) l.changes → HasPaid cmp names l.fn.rows.entries l.rows.entries l.fn.work l.work;
    }
