use Rattle.std.proofs.Common.{ap, sym, subst, ◌∙◌, Some}
use Rattle.st_plain.specs.Objects.{OthersStay, member_at}
use Rattle.st_plain.specs.inside.Objects.{NamesAscend}
use Rattle.st_plain.proofs.NameLemmas.{member_at-without_same, others_stay_without}
use Rattle.st_canon.specs.inside.Place.{IsPlaceOf, IsGapFor}
use Rattle.st_canon.specs.View.{plain, plain_members}
use Rattle.st_canon.proofs.MemberLemmas.{ascend_removed, value_at_place, removed_at_place, no_value_at_gap, kept_at_gap}
use Rattle.st_canon.proofs.object.Object.remove.Goals as goal

pub invariant_of-self : goal.invariant_of-self
invariant_of-self c =
    let at = subst (λ pairs. IsPlaceOf c.args.name.now pairs c.in-Ok.at) c.as_slice.ensures.value c.in-Ok.ensures.place in
    subst NamesAscend (sym c.remove-name.ensures.items) (ascend_removed c.args.name.now c.self.inside.pairs.items c.in-Ok.at at.in_range c.self.invariant)

pub returns-in-Ok-clause-value : goal.returns-in-Ok-clause-value
returns-in-Ok-clause-value c =
    let at = subst (λ pairs. IsPlaceOf c.args.name.now pairs c.in-Ok.at) c.as_slice.ensures.value c.in-Ok.ensures.place in
    rw (← c.self.view_is)
    (ap (λ p. Some (plain p.1)) c.remove-name.ensures.value
    ∙ value_at_place c.args.name.now c.self.inside.pairs.items c.in-Ok.at at c.self.invariant c.remove-name.result)

pub returns-in-Ok-clause-rest : goal.returns-in-Ok-clause-rest
returns-in-Ok-clause-rest c =
    let at = subst (λ pairs. IsPlaceOf c.args.name.now pairs c.in-Ok.at) c.as_slice.ensures.value c.in-Ok.ensures.place in
    rw (← c.self.view_is)
    (ap plain_members c.remove-name.ensures.items
    ∙ removed_at_place c.args.name.now c.self.inside.pairs.items c.in-Ok.at at c.self.invariant c.remove-name.result)

pub returns-in-Err-clause-value : goal.returns-in-Err-clause-value
returns-in-Err-clause-value c =
    let gap = subst (λ pairs. IsGapFor c.args.name.now pairs c.in-Err.field-0) c.as_slice.ensures.value c.in-Err.ensures.gap in
    rw (← c.self.view_is) (no_value_at_gap c.args.name.now c.self.inside.pairs.items c.in-Err.field-0 gap)

pub returns-in-Err-clause-rest : goal.returns-in-Err-clause-rest
returns-in-Err-clause-rest c =
    let gap = subst (λ pairs. IsGapFor c.args.name.now pairs c.in-Err.field-0) c.as_slice.ensures.value c.in-Err.ensures.gap in
    rw (← c.self.view_is) (kept_at_gap c.args.name.now c.self.inside.pairs.items c.in-Err.field-0 gap)

pub returns-in-Ok-clause-gone : goal.returns-in-Ok-clause-gone
returns-in-Ok-clause-gone c =
    ap (member_at c.args.name.now) (returns-in-Ok-clause-rest c) ∙ member_at-without_same c.args.name.now (plain_members c.args.self.now)

pub returns-in-Ok-clause-others : goal.returns-in-Ok-clause-others
returns-in-Ok-clause-others c =
    subst (OthersStay c.args.name.now (plain_members c.args.self.now)) (sym (returns-in-Ok-clause-rest c))
    (others_stay_without c.args.name.now (plain_members c.args.self.now))

pub returns-in-Err-clause-gone : goal.returns-in-Err-clause-gone
returns-in-Err-clause-gone c = sym (returns-in-Err-clause-value c)
