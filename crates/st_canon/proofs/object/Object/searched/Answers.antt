use Rattle.std.proofs.Common.{ap, sym, subst, ◌∙◌, Some}
use Rattle.st_canon.specs.inside.Place.{IsPlaceOf, IsGapFor}
use Rattle.st_canon.specs.View.{plain}
use Rattle.st_canon.proofs.MemberLemmas.{found_at_place, none_at_gap, value_at_place, no_value_at_gap}
use Rattle.st_canon.proofs.object.Object.searched.Goals as goal

pub returns-in-Ok-clause-value : goal.returns-in-Ok-clause-value
returns-in-Ok-clause-value c =
    let at = subst (λ pairs. IsPlaceOf c.args.name.now pairs c.in-Ok.at) c.as_slice.ensures.value c.in-Ok.ensures.place in
    rw (← c.self.view_is)
    (ap (λ p. Some (plain p.1)) c.index.ensures
    ∙ value_at_place c.args.name.now c.self.inside.pairs.items c.in-Ok.at at c.self.invariant c.index.result.now)

pub returns-in-Ok-clause-found : goal.returns-in-Ok-clause-found
returns-in-Ok-clause-found c =
    let at = subst (λ pairs. IsPlaceOf c.args.name.now pairs c.in-Ok.at) c.as_slice.ensures.value c.in-Ok.ensures.place in
    rw (← c.self.view_is)
    (ap (λ p. Some p.1) c.index.ensures ∙ sym (found_at_place c.args.name.now c.self.inside.pairs.items c.in-Ok.at at c.self.invariant c.index.result.now))

pub returns-in-Err-clause-value : goal.returns-in-Err-clause-value
returns-in-Err-clause-value c =
    let gap = subst (λ pairs. IsGapFor c.args.name.now pairs c.in-Err.field-0) c.as_slice.ensures.value c.in-Err.ensures.gap in
    rw (← c.self.view_is) (no_value_at_gap c.args.name.now c.self.inside.pairs.items c.in-Err.field-0 gap)

pub returns-in-Err-clause-found : goal.returns-in-Err-clause-found
returns-in-Err-clause-found c =
    let gap = subst (λ pairs. IsGapFor c.args.name.now pairs c.in-Err.field-0) c.as_slice.ensures.value c.in-Err.ensures.gap in
    rw (← c.self.view_is) (sym (none_at_gap c.args.name.now c.self.inside.pairs.items c.in-Err.field-0 gap))
