use Rattle.std.proofs.Common.{◌≡◌, ◌∙◌, ◌+◌, ◌∷◌, [], ◌++◌, take, sym, ap}
use Rattle.std.proofs.lemmas.List.{take_all, take_more}
use Rattle.st_opindex.proofs.FoldLemmas.{fold_paid, fold_stopped, folding_more, folding_start, none_left, nothing_owed, paid_folded, paid_start}
use Rattle.st_opindex.proofs.rows.fold_keys.Goals as goal

pub changes-init : goal.changes-init
changes-init g c = record {
  rows = c.requires.rows;
  folding = folding_start c.args.rows.now.entries;
  paid = λ names named. paid_start names c.args.rows.now.entries c.args.work.now;
}

pub returns-in_err-fold_key-clause-few : goal.returns-in_err-fold_key-clause-few
returns-in_err-fold_key-clause-few g c = λ names named.
    fold_stopped g.met.K.Ord.total c.changes.invariant.folding c.change-item.result.0 c.requires.owed names named
    (c.changes.invariant.paid names named) c.fold_key.ensures.few

pub changes-preserved : goal.changes-preserved
changes-preserved g c =
    let order = g.met.K.Ord.total in
    let front = take c.changes.change-index c.args.changes.now in
    let change = c.change-item.result in
    let more : take (c.changes.change-index + 1) c.args.changes.now ≡ front ++ change ∷ [] =
    take_more c.args.changes.now c.changes.change-index change c.changes-test.true ∙ ap (λ last. front ++ last ∷ []) (sym c.change-item.is) in
    record {
      rows = c.in_ok-fold_key.ensures.rows;
      folding = rw more (folding_more order c.changes.invariant.folding change.0 change.1 c.fold_key.new.rows.entries
          c.in_ok-fold_key.ensures.folds c.in_ok-fold_key.ensures.items);
      paid = λ names named.
          fold_paid order c.changes.invariant.folding change.0 c.requires.owed names named (c.changes.invariant.paid names named) c.fold_key.ensures.few
          c.fold_key.new.rows.entries c.in_ok-fold_key.ensures.folds;
    }

pub returns-clause-owed : goal.returns-clause-owed
returns-clause-owed g c =
    let folding = rw (take_all c.changes.change-index c.args.changes.now c.changes-test.false) at c.changes.invariant.folding in
    nothing_owed (none_left c.requires.owed folding)

pub returns-clause-items : goal.returns-clause-items
returns-clause-items g c = c.changes.invariant.folding.items

pub returns-clause-few : goal.returns-clause-few
returns-clause-few g c = λ names named. paid_folded (c.changes.invariant.paid names named)
