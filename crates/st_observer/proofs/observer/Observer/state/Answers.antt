use Rattle.std.proofs.Common.{◌∙◌, ap, subst, sym}
use Rattle.st_observer.specs.Observed.{state_of}
use Rattle.st_observer.specs.Work.{IsObserved}
use Rattle.st_observer.specs.inside.Steps.{over}
use Rattle.st_observer.specs.declared.kept.Kept.{Kept}
use Rattle.st_observer.proofs.ObserverLemmas.{kept-state}
use Rattle.st_observer.proofs.observer.Observer.state.Goals as goal

pub state-requires : goal.state-requires
state-requires c = ap (λ (k : Kept). k.index.changes) c.get.ensures ∙ c.self.invariant.none

pub returns : goal.returns
returns c =
    let observed = over c.self.inside.schedule c.self.inside.ledger c.self.inside.content in
    let held : IsObserved observed c.get.result.now = subst (λ (k : Kept). IsObserved observed k) (sym c.get.ensures) c.self.invariant in
    c.state.ensures ∙ kept-state c.args.suffix.now observed c.get.result.now held.is ∙ ap (state_of c.args.suffix.now) c.self.view_is
