use Rattle.std.proofs.Common.{◌≡◌, ◌∙◌, ap, sym, subst}
use Rattle.st_hash.specs.Hash.{uri_of}
use Rattle.st_anchor.specs.Gives.{opened_by}
use Rattle.st_anchor.specs.States.{WorkedAtMost, one_file_with, Holds, IsSoundCore, role_state}
use Rattle.st_anchor.specs.BoundValue.{bound_with}
use Rattle.st_anchor.specs.declared.part.Part.TheVariants.{Is}
use Rattle.st_anchor.specs.declared.part.RoleState.TheVariants.{Missing}
use Rattle.st_anchor.proofs.SettleLemmas.{bound_with-is, missing-is, opened_by-is, opened_by-missing}
use Rattle.st_anchor.proofs.CountLemmas.{file-none}
use Rattle.st_anchor.proofs.SoundLemmas.{sound-core_in, sound-core_with}
use Rattle.st_anchor.proofs.bound.Bound.bind.Goals as goal

pub invariant_of-result : goal.invariant_of-result
invariant_of-result c =
    subst (Holds (IsSoundCore c.self.inside.context)) (sym c.in_ok-core-in-Missing.ensures.value) (sound-core_in c.self.inside.context _)

pub bind-requires-clause-missing : goal.bind-requires-clause-missing
bind-requires-clause-missing c =
    let missing = subst (λ bound. role_state c.args.role bound ≡ Missing (uri_of c.args.file.now)) (sym c.self.view_is) c.requires in
    missing-is c.self.inside.context c.self.inside.core (uri_of c.args.file.now) c.args.file.now c.in-Is.branch c.in-Is.is c.args.role missing

pub invariant_of-result-in-Is : goal.invariant_of-result-in-Is
invariant_of-result-in-Is c =
    subst (IsSoundCore c.self.inside.context) (sym c.in_ok-branch-in-Is.ensures.value)
    (sound-core_with c.args.role c.self.inside.context c.args.file.now c.in-Is.branch (subst (Holds (IsSoundCore c.self.inside.context)) c.in-Is.is c.self.invariant))

pub returns-in_ok-core-in-Missing-clause-work : goal.returns-in_ok-core-in-Missing-clause-work
returns-in_ok-core-in-Missing-clause-work c =
    let missing = subst (λ bound. role_state c.args.role bound ≡ Missing (uri_of c.args.file.now)) (sym c.self.view_is) c.requires in
    subst (λ bound. c.core_part.new.work ≡ one_file_with (opened_by c.args.role c.args.file.now bound) c.args.work.now) c.self.view_is
    (file-none _ c.args.work.now c.core_part.new.work
    (opened_by-missing c.self.inside.context c.self.inside.core (uri_of c.args.file.now) c.args.file.now c.args.role c.in-Missing.field-0 c.in-Missing.is missing)
    c.in_ok-core-in-Missing.ensures.counted)

pub returns-in_ok-branch-in-Is-clause-value : goal.returns-in_ok-branch-in-Is-clause-value
returns-in_ok-branch-in-Is-clause-value c =
    let missing = subst (λ bound. role_state c.args.role bound ≡ Missing (uri_of c.args.file.now)) (sym c.self.view_is) c.requires in
    ap (λ branch. record { context = c.self.inside.context; core = Is branch }) c.in_ok-branch-in-Is.ensures.value
    ∙ sym (bound_with-is c.self.inside.context c.self.inside.core (uri_of c.args.file.now) c.args.file.now c.in-Is.branch c.in-Is.is c.args.role missing)
    ∙ ap (bound_with c.args.role c.args.file.now) c.self.view_is

pub returns-in_ok-branch-in-Is-clause-work : goal.returns-in_ok-branch-in-Is-clause-work
returns-in_ok-branch-in-Is-clause-work c =
    let missing = subst (λ bound. role_state c.args.role bound ≡ Missing (uri_of c.args.file.now)) (sym c.self.view_is) c.requires in
    c.in_ok-branch-in-Is.ensures.work
    ∙ ap (λ n. one_file_with n c.args.work.now)
    (sym (opened_by-is c.self.inside.context c.self.inside.core (uri_of c.args.file.now) c.args.file.now c.in-Is.branch c.in-Is.is c.args.role missing)
    ∙ ap (opened_by c.args.role c.args.file.now) c.self.view_is)

pub returns-in_ok-branch-in-Is-clause-few : goal.returns-in_ok-branch-in-Is-clause-few
returns-in_ok-branch-in-Is-clause-few c =
    let missing = subst (λ bound. role_state c.args.role bound ≡ Missing (uri_of c.args.file.now)) (sym c.self.view_is) c.requires in
    subst (λ n. WorkedAtMost 1 n c.args.work.now c.bind.new.work)
    (sym (opened_by-is c.self.inside.context c.self.inside.core (uri_of c.args.file.now) c.args.file.now c.in-Is.branch c.in-Is.is c.args.role missing)
    ∙ ap (opened_by c.args.role c.args.file.now) c.self.view_is)
    c.in_ok-branch-in-Is.ensures.few
