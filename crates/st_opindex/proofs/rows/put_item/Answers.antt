use Rattle.std.proofs.Common.{◌≡◌, Some, None, rules}
use Rattle.std.specs.BTreeMap.{is_at}
use Rattle.std.specs.BTreeMap.Entry.{map_with_value}
use Rattle.std.specs.Map.{lookup}
use Rattle.st_opindex.specs.Items.{with_item}
use Rattle.st_opindex.proofs.KeyLemmas.{IsUpdated, left_more, row_found, rows_updated, seen_changed, updated_as}
use Rattle.st_opindex.proofs.rows.put_item.Goals as goal

pub put_row-requires : goal.put_row-requires
put_row-requires g c =
    let found : Some c.get_mut.result.now ≡ lookup (is_at (g.K.Ord.cmp c.args.key)) c.args.rows.now.entries = search rules in
    row_found c.requires c.args.key c.get_mut.result.now found

pub returns-in_ok-put_row-in-Occupied : goal.returns-in_ok-put_row-in-Occupied
returns-in_ok-put_row-in-Occupied g c =
    let order = g.met.K.Ord.total in
    let place = c.args.place in
    let old = c.args.rows.now.entries in
    let was = c.get_mut.result.now in
    let row = c.put_row.new.row in
    let put = c.in_ok-put_row-in-Occupied.ensures in
    let found : Some was ≡ lookup (is_at (g.K.Ord.cmp c.args.key)) old = search rules in
    let written : IsUpdated g.K.Ord.cmp c.args.key (Some row) old (map_with_value c.in_ok-entry.field-0 row).entries =
    record { each = (c.in_ok-entry.ensures.update.0 row).0 } in
    let updates : IsUpdated g.K.Ord.cmp c.args.key (Some row) old _ = updated_as written (search rules) in
    record {
      rows = rows_updated c.requires updates put.row;
      items = seen_changed updates order (with_item place c.args.item) found put.items;
      left = left_more updates order place found put.left;
    }

pub returns-in_ok-row-in-Vacant-clause-items : goal.returns-in_ok-row-in-Vacant-clause-items
returns-in_ok-row-in-Vacant-clause-items g c =
    let row = c.insert-row.result.now in
    let old = c.args.rows.now.entries in
    let missing : None ≡ lookup (is_at (g.K.Ord.cmp c.args.key)) old = search rules in
    let written : IsUpdated g.K.Ord.cmp c.args.key (Some row) old (map_with_value c.in_ok-entry.field-0 row).entries =
    record { each = (c.in_ok-entry.ensures.update.0 row).0 } in
    seen_changed (updated_as written (search rules)) g.met.K.Ord.total (with_item c.args.place c.args.item) missing (search rules)
