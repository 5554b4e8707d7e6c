use Rattle.std.proofs.Common.{◌∙◌, ap, Some, refl, rules}
use Rattle.st_opindex.proofs.KeyLemmas.{IsUpdated, left_folded, row_found, rows_updated, seen_changed, updated_by_itself}
use Rattle.st_opindex.proofs.rows.fold_key.Goals as goal

pub returns-in_default-clause-rows : goal.returns-in_default-clause-rows
returns-in_default-clause-rows g c = rw c.get_mut.follows.holds-at-none c.requires

pub returns-in_default-clause-items : goal.returns-in_default-clause-items
returns-in_default-clause-items g c =
    let order = g.met.K.Ord.total in
    let missing = c.in_default.ensures.value in
    rw c.get_mut.follows.holds-at-none (seen_changed (updated_by_itself order missing) order (λ items. items) missing refl)

pub returns-in_default-clause-folds : goal.returns-in_default-clause-folds
returns-in_default-clause-folds g c =
    rw c.get_mut.follows.holds-at-none (left_folded (updated_by_itself g.met.K.Ord.total c.in_default.ensures.value) refl)

pub fold_row-requires : goal.fold_row-requires
fold_row-requires g c = row_found c.requires c.args.key c.get_mut-2.result.now (ap Some c.get_mut-2.ensures.value ∙ c.in-Some.ensures.value)

pub returns-in_err-fold_row-clause-few : goal.returns-in_err-fold_row-clause-few
returns-in_err-fold_row-clause-few g c =
    let found = ap Some c.get_mut-2.ensures.value ∙ c.in-Some.ensures.value in
    rw (← found) c.fold_row.ensures.few

pub returns : goal.returns
returns g c =
    let row = c.fold_row.new.row in
    let found = ap Some c.get_mut-2.ensures.value ∙ c.in-Some.ensures.value in
    let updates : IsUpdated g.K.Ord.cmp c.args.key (Some row) c.args.rows.now.entries (c.get_mut.follows.lender row).entries =
    record { each = ((c.get_mut.follows.holds row).3 (search rules)).0 } in
    record {
      rows = rows_updated c.requires updates c.in_ok-fold_row.ensures.row;
      items = seen_changed updates g.met.K.Ord.total (λ items. items) found c.in_ok-fold_row.ensures.items;
      folds = left_folded updates c.in_ok-fold_row.ensures.none;
      few = rw (← found) c.fold_row.ensures.few;
    }
