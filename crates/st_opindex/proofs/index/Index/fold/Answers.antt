use Rattle.st_opindex.specs.Items.{seen_items}
use Rattle.st_opindex.proofs.Placed.{placed_alike}
use Rattle.st_opindex.proofs.index.Index.fold.Goals as goal

pub fold_keys-requires-clause-owed : goal.fold_keys-requires-clause-owed
fold_keys-requires-clause-owed g c = rw c.as_slice.ensures.value c.self.invariant.owed

pub invariant_of-result : goal.invariant_of-result
invariant_of-result g c = record {
  none = c.self.invariant.none;
  rows = c.in_ok-fold_keys.ensures.rows;
  placed = placed_alike c.self.invariant.placed (seen_items c.fold_keys.new.rows.entries) c.in_ok-fold_keys.ensures.items;
  owed = rw c.new.ensures.items c.in_ok-fold_keys.ensures.owed;
}

pub returns-in_err-fold_keys-clause-few : goal.returns-in_err-fold_keys-clause-few
returns-in_err-fold_keys-clause-few g c =
    let bound = rw c.as_slice.ensures.value at c.fold_keys.ensures.few in
    rw (← c.self.view_is) bound

pub returns-clause-few : goal.returns-clause-few
returns-clause-few g c =
    let bound = rw c.as_slice.ensures.value at c.fold_keys.ensures.few in
    rw (← c.self.view_is) bound
