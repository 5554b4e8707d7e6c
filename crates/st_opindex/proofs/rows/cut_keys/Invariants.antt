use Rattle.std.proofs.Common.{List, ℕ, take}
use Rattle.std.specs.List.{AllByRecursion}
use Rattle.st_opindex.specs.Items.{AreCut, Covers, CoversLosing, AreOwed, AreRows, seen_items}
use Rattle.st_opindex.proofs.rows.cut_keys.Given as goal

abbrev pub invariant-keys : goal.invariant-keys
invariant-keys g l =
    let cmp = g.K.Ord.cmp in
    let old = seen_items l.fn.rows.entries in
    record {
      rows : AreRows cmp (g.F.Folder.next l.folder) (g.F.Folder.first l.folder) l.rows.entries;
      cut : AreCut cmp l.place (take l.key-index l.keys) old (seen_items l.rows.entries);
      owed : AreOwed cmp l.changes.items l.rows.entries;
      covers : (names : List (_ × ℕ)) → AllByRecursion (Covers cmp names) l.fn.changes.items → CoversLosing cmp names l.place old
          → AllByRecursion (Covers cmp names) l.changes.items;
    }
