use Rattle.st_opindex.proofs.RowLemmas.{all_cut, placed_cut}
use Rattle.st_opindex.proofs.index.Index.cut.Goals as goal

pub invariant_of-result : goal.invariant_of-result
invariant_of-result g c =
    let cut = rw c.as_slice.ensures.value at c.in_ok-cut_keys.ensures.items in
    record {
      none = c.self.invariant.none;
      rows = c.in_ok-cut_keys.ensures.rows;
      placed = placed_cut c.self.invariant.placed c.in_ok-late.ensures.late cut c.take_late.new.placed.keys c.in_ok-late.ensures.rest;
      owed = c.in_ok-cut_keys.ensures.owed;
    }

pub returns-clause-items : goal.returns-clause-items
returns-clause-items g c =
    let cut = rw c.as_slice.ensures.value at c.in_ok-cut_keys.ensures.items in
    rw (← c.self.view_is)
    (all_cut c.self.invariant.placed c.in_ok-late.ensures.late cut)

pub returns-clause-changes : goal.returns-clause-changes
returns-clause-changes g c = rw (← c.self.view_is) c.in_ok-cut_keys.ensures.changes
