use Rattle.std.proofs.Common.{◌≡◌, ◌∙◌, length, sym, ap, refl, Some, None, arith, rules, inl, inr}
use Rattle.std.proofs.lemmas.Bool.{eqb-true}
use Rattle.std.proofs.lemmas.List.{nil_from_length}
use Rattle.st_opindex.specs.Items.{before}
use Rattle.st_opindex.proofs.KeyLemmas.{IsUpdated, left_more, left_none, row_found, rows_updated, seen_changed, seen_found, updated_by_itself, updated_twice}
use Rattle.st_opindex.proofs.rows.cut_key.Goals as goal

pub returns-in_default : goal.returns-in_default
returns-in_default g c =
    let order = g.met.K.Ord.total in
    let missing = c.in_default.ensures.value in
    let itself = updated_by_itself order missing in
    rw c.get_mut.follows.holds-at-none (record {
      rows = c.requires;
      items = seen_changed itself order (before c.args.place) missing refl;
      left = left_more itself order c.args.place missing (inr (omega arith));
      none = λ no. left_none itself order missing (inl refl);
      some = search rules;
    })

pub cut_row-requires : goal.cut_row-requires
cut_row-requires g c = row_found c.requires c.args.key c.get_mut-row.result.now (ap Some c.get_mut-row.ensures.value ∙ c.in-Some.ensures.value)

pub returns-then-is_empty : goal.returns-then-is_empty
returns-then-is_empty g c =
    let old = c.args.rows.now.entries in
    let row = c.cut_row.new.row in
    let order = g.met.K.Ord.total in
    let found = ap Some c.get_mut-row.ensures.value ∙ c.in-Some.ensures.value in
    let cuts : IsUpdated g.K.Ord.cmp c.args.key (Some row) old (c.get_mut.follows.lender row).entries =
    record { each = ((c.get_mut.follows.holds row).3 (search rules)).0 } in
    let takes : IsUpdated g.K.Ord.cmp c.args.key None (c.get_mut.follows.lender row).entries c.remove.new.self.entries =
    record { each = c.remove.ensures.updates.0 } in
    let updates = updated_twice cuts takes in
    let empty : length row.items.items ≡ 0 = omega (arith, eqb-true _ 0 (sym c.if-is_empty.ensures), row.items.ok.0) in
    record {
      rows = rows_updated c.requires updates tt;
      items = seen_changed updates order (before c.args.place) found
          (sym (nil_from_length row.items.items empty) ∙ c.in_ok-any.ensures.items);
      left = left_more updates order c.args.place found (inr (omega arith));
      none = λ no. left_none updates order found (inr refl);
      some = search rules;
    }

pub returns : goal.returns
returns g c =
    let old = c.args.rows.now.entries in
    let row = c.cut_row.new.row in
    let order = g.met.K.Ord.total in
    let found = ap Some c.get_mut-row.ensures.value ∙ c.in-Some.ensures.value in
    let updates : IsUpdated g.K.Ord.cmp c.args.key (Some row) old (c.get_mut.follows.lender row).entries =
    record { each = ((c.get_mut.follows.holds row).3 (search rules)).0 } in
    record {
      rows = rows_updated c.requires updates c.in_ok-any.ensures.row;
      items = seen_changed updates order (before c.args.place) found c.in_ok-any.ensures.items;
      left = left_more updates order c.args.place found c.in_ok-any.ensures.left;
      none = λ no. left_none updates order found (inl (ap Some (c.in_ok-any.ensures.none no)));
      some = λ yes. rw (seen_found g.K.Ord.cmp c.args.key old _ found) (c.in_ok-any.ensures.some yes);
    }
