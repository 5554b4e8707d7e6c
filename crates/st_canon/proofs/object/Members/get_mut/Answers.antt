use Rattle.std.proofs.Common.{ap, refl, sym, ◌∙◌, Some}
use Rattle.st_plain.proofs.SortLemmas.{ascend_from_placed}
use Rattle.st_canon.proofs.MemberLemmas.{place_moved, gap_moved, changed_at_place, found_at_place, none_at_gap}
use Rattle.st_canon.proofs.object.Members.get_mut.Goals as goal

pub invariant_of-self-lent : goal.invariant_of-self-lent
invariant_of-self-lent g c w =
    let at = place_moved refl c.as_slice.ensures.value c.in-Ok.ensures.place in
    ascend_from_placed (c.args.name.now, w) c.self.inside.pairs.items _
    (changed_at_place c.args.name.now c.self.inside.pairs.items c.in-Ok.at at c.self.invariant _ w c.index_mut-pair.ensures.value) c.self.invariant

pub returns-in-Ok : goal.returns-in-Ok
returns-in-Ok g c =
    let at = place_moved refl c.as_slice.ensures.value c.in-Ok.ensures.place in
    let pairs = c.self.inside.pairs.items in
    rw (← c.self.view_is) (
      (refl, λ w. changed_at_place c.args.name.now pairs c.in-Ok.at at c.self.invariant _ w c.index_mut-pair.ensures.value, refl),
      ap (λ p. Some p.1) c.index_mut-pair.ensures.value ∙ sym (found_at_place c.args.name.now pairs c.in-Ok.at at c.self.invariant _),
    )

pub returns-in-Err : goal.returns-in-Err
returns-in-Err g c =
    let gap = gap_moved refl c.as_slice.ensures.value c.in-Err.ensures.gap in
    rw (← c.self.view_is) ((refl, λ _. tt, refl), sym (none_at_gap c.args.name.now c.self.inside.pairs.items c.in-Err.field-0 gap))
