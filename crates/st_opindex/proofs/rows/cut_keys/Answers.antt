use Rattle.std.proofs.Common.{◌≡◌, ◌∙◌, ◌+◌, ◌∷◌, [], ◌++◌, take, sym, ap}
use Rattle.std.proofs.lemmas.List.{take_more}
use Rattle.st_base.proofs.ListLemmas.{each-append}
use Rattle.st_opindex.specs.Items.{Covers, before, seen_items}
use Rattle.st_opindex.proofs.RowLemmas.{cut_more, reached_first}
use Rattle.st_opindex.proofs.FoldLemmas.{cut_counts, owed_more, owed_same}
use Rattle.st_opindex.proofs.rows.cut_keys.Goals as goal
use Rattle.st_opindex.proofs.rows.cut_keys.Goals.{then-branch+in_ok-push, else-branch}

pub keys-preserved : goal.keys-preserved
keys-preserved g c =
    let order = g.met.K.Ord.total in
    let place = c.args.place in
    let key = c.key-item.result in
    let held = c.keys.invariant in
    let step = c.in_ok-cut_key.ensures in
    let front = take c.keys.key-index c.args.keys.now in
    let more : take (c.keys.key-index + 1) c.args.keys.now ≡ front ++ key ∷ [] =
    take_more c.args.keys.now c.keys.key-index key c.keys-test.true ∙ ap (λ last. front ++ last ∷ []) (sym c.key-item.is) in
    let cut = cut_more order held.cut key (seen_items c.cut_key.new.rows.entries) step.items in
    elim c.if-branch.branch [
      | then-branch+in_ok-push w ↦
          let is = ap (λ changes. changes.items) w.changes-is ∙ w.in_ok-push.ensures.items in
          record {
            rows = step.rows;
            cut = rw more cut;
            owed = rw is (owed_more order held.owed key place (before place) (cut_counts place) step.items step.left);
            covers = λ names first losing. rw is
                (each-append (Covers g.K.Ord.cmp names) c.keys.changes.items ((key, place) ∷ []) (held.covers names first losing)
                (losing key (reached_first order held.cut key (step.some w.if-branch.true)), tt));
          }
      | else-branch w ↦
          let is = ap (λ changes. changes.items) w.changes-is in
          record {
            rows = step.rows;
            cut = rw more cut;
            owed = rw is (owed_same held.owed (step.none w.if-branch.false));
            covers = λ names first losing. rw is (held.covers names first losing);
          }
    ]
