use Rattle.std.proofs.Common.{◌∙◌, List, arith, refl, subst, sym}
use Rattle.st_anchor.specs.BoundValue.{BoundValue}
use Rattle.st_base.proofs.ListLemmas.{applies-few}
use Rattle.st_observer.specs.inside.Steps.{ReadOver, over}
use Rattle.st_observer.proofs.WorkLemmas.{going-cost, grew-then}
use Rattle.st_observer.proofs.GoingLemmas.{going-end}
use Rattle.st_observer.proofs.ObserverLemmas.{kept-folded}
use Rattle.st_observer.proofs.changes.settle_those.Goals as goal

pub returns-clause-state : goal.returns-clause-state
returns-clause-state c =
    let observed = over c.args.kept.index.folder.schedule c.args.ledger.now c.args.content.now in
    kept-folded observed c.in_ok-later.later c.in_ok-kept.kept (going-end c.in_ok-later.ensures.state (λ n. refl))
    c.in_ok-kept.ensures.step

pub returns-clause-exact : goal.returns-clause-exact
returns-clause-exact c =
    let exactly = c.in_ok-later.ensures.exact in
    let nothing = c.fold.ensures.reads in
    subst (λ (bounds : List BoundValue). ReadOver c.args.kept.bounds.items bounds c.args.work.now c.fold.new.work) (sym c.in_ok-kept.ensures.step.bounds)
    (record { read = nothing.read ∙ exactly.read; opened = nothing.opened ∙ exactly.opened })

pub returns-clause-few : goal.returns-clause-few
returns-clause-few c = λ names covers.
    grew-then c.in_ok-later.ensures.few
    (applies-few _ _ (going-cost c.in_ok-later.ensures.state names) (c.fold.ensures.few names (c.in_ok-later.ensures.changes names covers)))

pub returns-in_err-kept-clause-few : goal.returns-in_err-kept-clause-few
returns-in_err-kept-clause-few c = λ names covers.
    grew-then c.in_ok-later.ensures.few
    (applies-few _ _ (going-cost c.in_ok-later.ensures.state names) (c.fold.ensures.few names (c.in_ok-later.ensures.changes names covers)))

pub returns-in_err-later-clause-few : goal.returns-in_err-later-clause-few
returns-in_err-later-clause-few c = λ names covers.
    let grew = c.in_err-later.ensures.few in
    record { least = grew.least; read = grew.read; opened = grew.opened; applied = omega (arith, grew.applied) }
