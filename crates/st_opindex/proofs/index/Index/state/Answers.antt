use Rattle.std.proofs.Common.{◌≡◌, ◌∙◌, sym, ap, Some, None, rules}
use Rattle.st_opindex.specs.Items.{folded, items_at, left_of, seen_items}
use Rattle.st_opindex.proofs.FoldLemmas.{nothing_left}
use Rattle.st_opindex.proofs.KeyLemmas.{left_in, seen_found, row_found}
use Rattle.st_opindex.proofs.RowLemmas.{row_folds}
use Rattle.st_opindex.proofs.index.Index.state.Goals as goal

pub returns-in-Some : goal.returns-in-Some
returns-in-Some g c =
    let inside = c.self.inside in
    let row = c.in-Some.row.now in
    let found = c.in-Some.ensures.value in
    let none : inside.changes.items ≡ _ = ap (λ index. index.changes) c.self.view_is ∙ c.requires in
    let owed = rw none at c.self.invariant.owed in
    let left : left_of row ≡ 0 = ap left_in found ∙ nothing_left owed c.args.key.now in
    let is : row.last ≡ folded (g.F.Folder.next inside.folder) (g.F.Folder.first inside.folder) (items_at g.K.Ord.cmp c.args.key.now (seen_items inside.rows.entries)) =
    row_folds (row_found c.self.invariant.rows c.args.key.now row found) left
    ∙ sym (ap (folded (g.F.Folder.next inside.folder) (g.F.Folder.first inside.folder)) (seen_found g.K.Ord.cmp c.args.key.now inside.rows.entries (Some row) found)) in
    rw (← c.self.view_is, ← is) (search rules)

pub returns-in-None : goal.returns-in-None
returns-in-None g c =
    let inside = c.self.inside in
    rw (← c.self.view_is)
    (c.self.invariant.none
    ∙ sym (ap (folded (g.F.Folder.next inside.folder) (g.F.Folder.first inside.folder)) (seen_found g.K.Ord.cmp c.args.key.now inside.rows.entries None c.in-None.ensures.value)))
