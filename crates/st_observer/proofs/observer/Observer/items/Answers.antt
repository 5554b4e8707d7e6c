use Rattle.std.proofs.Common.{◌∙◌, ap, map, subst, sym}
use Rattle.st_observer.specs.Observed.{operations}
use Rattle.st_observer.specs.Work.{IsObserved, anchored_item}
use Rattle.st_observer.specs.inside.Steps.{over}
use Rattle.st_observer.specs.declared.kept.Kept.{Kept}
use Rattle.st_observer.proofs.ObserverLemmas.{operations-ascend}
use Rattle.st_observer.proofs.OperationsLemmas.{kept-operations}
use Rattle.st_observer.proofs.StoredLemmas.{kept_operations}
use Rattle.st_observer.proofs.observer.Observer.items.Goals as goal

pub returns-clause-items : goal.returns-clause-items
returns-clause-items c =
    let observed = over c.self.inside.schedule c.self.inside.ledger c.self.inside.content in
    let held : IsObserved observed c.get.result.now = subst (λ (k : Kept). IsObserved observed k) (sym c.get.ensures) c.self.invariant in
    c.in_ok-items.ensures ∙ ap (map anchored_item) c.items.ensures.value ∙ kept_operations c.args.suffix.now c.get.result.now.index.items
    ∙ kept-operations c.args.suffix.now observed c.get.result.now held.is ∙ ap (operations c.args.suffix.now) c.self.view_is

pub returns-clause-ascend : goal.returns-clause-ascend
returns-clause-ascend c = operations-ascend c.args.suffix.now c.args.self.now

pub returns-in_err-items-clause-ascend : goal.returns-in_err-items-clause-ascend
returns-in_err-items-clause-ascend c = operations-ascend c.args.suffix.now c.args.self.now
