use Rattle.st_plain.proofs.SortLemmas.{ascend_from_placed}
use Rattle.st_canon.proofs.MemberLemmas.{place_moved, gap_moved, placed_at_place, placed_from_gap}
use Rattle.st_canon.proofs.object.Members.place.Goals as goal

pub invariant_of-self : goal.invariant_of-self
invariant_of-self g c =
    let at = place_moved c.as_str.ensures c.as_slice.ensures.value c.in-Ok.ensures.place in
    ascend_from_placed (c.args.name, c.args.value) c.self.inside.pairs.items _
    (placed_at_place c.args.name c.self.inside.pairs.items c.in-Ok.at at c.self.invariant c.args.value) c.self.invariant

pub returns-in-Ok-clause-ok : goal.returns-in-Ok-clause-ok
returns-in-Ok-clause-ok g c =
    let at = place_moved c.as_str.ensures c.as_slice.ensures.value c.in-Ok.ensures.place in
    rw (← c.self.view_is) (placed_at_place c.args.name c.self.inside.pairs.items c.in-Ok.at at c.self.invariant c.args.value)

pub invariant_of-self-in-Continue-1 : goal.invariant_of-self-in-Continue-1
invariant_of-self-in-Continue-1 g c =
    let gap = gap_moved c.as_str.ensures c.as_slice.ensures.value c.in-Err.ensures.gap in
    ascend_from_placed (c.args.name, c.args.value) c.self.inside.pairs.items _
    (placed_from_gap c.args.name c.args.value c.in_ok-insert-in-Err.ensures.items gap) c.self.invariant

pub returns-in_ok-insert-in-Err-clause-ok : goal.returns-in_ok-insert-in-Err-clause-ok
returns-in_ok-insert-in-Err-clause-ok g c =
    let gap = gap_moved c.as_str.ensures c.as_slice.ensures.value c.in-Err.ensures.gap in
    rw (← c.self.view_is) (placed_from_gap c.args.name c.args.value c.in_ok-insert-in-Err.ensures.items gap)
