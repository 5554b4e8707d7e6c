use Rattle.std.proofs.Common.{◌∙◌, ap, sym, Some, None}
use Rattle.st_opindex.proofs.KeyLemmas.{seen_found, row_found}
use Rattle.st_opindex.proofs.index.Index.items.Goals as goal

pub returns-in-Some : goal.returns-in-Some
returns-in-Some g c =
    let row = c.in-Some.row.now in
    let found = c.in-Some.ensures.value in
    record {
      value = rw (← c.self.view_is)
          (c.as_slice.ensures.value ∙ ap (λ row. row.items.items) c.get-in-Some.ensures
          ∙ sym (seen_found g.K.Ord.cmp c.args.key.now c.self.inside.rows.entries (Some row) found));
      ascend = rw c.as_slice.ensures.value (rw c.get-in-Some.ensures (row_found c.self.invariant.rows c.args.key.now row found).ascends);
    }

pub returns-in-None-clause-value : goal.returns-in-None-clause-value
returns-in-None-clause-value g c =
    rw (← c.self.view_is) (sym (seen_found g.K.Ord.cmp c.args.key.now c.self.inside.rows.entries None c.in-None.ensures.value))
