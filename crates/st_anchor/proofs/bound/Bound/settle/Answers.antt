use Rattle.std.proofs.Common.{◌-◌, ◌<◌, sym, subst}
use Rattle.st_anchor.specs.States.{decided_roles}
use Rattle.st_anchor.proofs.SettleLemmas.{Settles, settled-counts, settled-few, settled-known, settled-wanting, settles-bind, settles-smaller}
use Rattle.st_anchor.proofs.bound.Bound.settle.Goals as goal

pub returns-in_err-bound-clause-few : goal.returns-in_err-bound-clause-few
returns-in_err-bound-clause-few c =
    settled-wanting c.binding.invariant c.in-Some.role c.in-Some.file.now c.bind.new.work c.in-Some.ensures.found c.in_err-bound.ensures.few

pub binding-smaller : goal.binding-smaller
binding-smaller c =
    subst (λ bound. 5 - decided_roles bound < 5 - decided_roles c.binding.bound)
    (sym c.in_ok-bound.ensures.value)
    (settles-smaller c.binding.bound c.in-Some.role c.in-Some.file.now c.args.content.now c.in-Some.ensures.found)

pub binding-preserved : goal.binding-preserved
binding-preserved c =
    subst (λ bound. Settles c.args.content.now c.args.self c.args.work.now bound c.bind.new.work)
    (sym c.in_ok-bound.ensures.value)
    (settles-bind c.binding.invariant c.in-Some.role c.in-Some.file.now c.bind.new.work c.in-Some.ensures.found c.in_ok-bound.ensures.work)

pub returns-clause-value : goal.returns-clause-value
returns-clause-value c = settled-known c.binding.invariant c.in_default.ensures.not_found

pub returns-clause-work : goal.returns-clause-work
returns-clause-work c = settled-counts c.binding.invariant c.in_default.ensures.not_found

pub returns-clause-few : goal.returns-clause-few
returns-clause-few c = settled-few c.binding.invariant
