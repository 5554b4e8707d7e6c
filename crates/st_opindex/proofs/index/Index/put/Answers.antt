use Rattle.st_opindex.specs.Items.{with_item, seen_items}
use Rattle.st_opindex.proofs.FoldLemmas.{owed_more, put_counts}
use Rattle.st_opindex.proofs.Placed.{placed_put}
use Rattle.st_opindex.proofs.index.Index.put.Goals as goal

pub invariant_of-result : goal.invariant_of-result
invariant_of-result g c = record {
  none = c.self.invariant.none;
  rows = c.in_ok-put_item.ensures.rows;
  placed = placed_put c.self.invariant.placed c.args.place c.args.key c.args.item (seen_items c.put_item.new.rows.entries) c.in_ok-put_item.ensures.items
      c.insert.new.self.keys c.in_ok-insert.ensures.updates.0;
  owed = rw c.in_ok-push.ensures.items
      (owed_more g.met.K.Ord.total c.self.invariant.owed c.args.key c.args.place (with_item c.args.place c.args.item) (put_counts c.args.place c.args.item)
      c.in_ok-put_item.ensures.items c.in_ok-put_item.ensures.left);
}
