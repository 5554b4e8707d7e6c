use Rattle.std.proofs.Common.{◌≤◌, ap, arith, length, List, subst, sym}
use Rattle.st_base.proofs.ListLemmas.{applies-few}
use Rattle.st_ledger.specs.declared.ledger.Entry.{Entry}
use Rattle.st_observer.specs.Work.{IsObserved}
use Rattle.st_observer.specs.Observed.{Observed, cut_to}
use Rattle.st_observer.specs.inside.Steps.{over}
use Rattle.st_observer.specs.declared.kept.Kept.{Kept}
use Rattle.st_observer.proofs.WorkLemmas.{cut-few}
use Rattle.st_observer.proofs.ObserverLemmas.{kept-cut, kept-folded}
use Rattle.st_observer.proofs.observer.Observer.cut.Goals as goal

pub invariant_of-observer : goal.invariant_of-observer
invariant_of-observer c =
    let observed = over c.self.inside.schedule c.self.inside.ledger c.self.inside.content in
    let held : IsObserved observed c.take.result = subst (λ (k : Kept). IsObserved observed k) (sym c.take.ensures) c.self.invariant in
    let within : c.args.n ≤ length c.self.inside.ledger = omega (arith, ap (λ (s : Observed). length s.ledger) c.self.view_is, c.requires) in
    subst (λ (ledger : List Entry). IsObserved (over c.self.inside.schedule ledger c.self.inside.content) c.in_ok-kept.kept) (sym c.cut-removed.ensures.kept)
    (kept-folded (cut_to c.args.n observed) c.in_ok-later.later c.in_ok-kept.kept
    (kept-cut observed c.args.n c.take.result c.in_ok-later.later held.is within c.in_ok-later.ensures) c.in_ok-kept.ensures.step)

pub returns-clause-few : goal.returns-clause-few
returns-clause-few c =
    let held : IsObserved c.args.self c.take.result = subst (λ (k : Kept). IsObserved c.args.self k) (sym c.take.ensures)
    (subst (λ (o : Observed). IsObserved o c.self.inside.kept) c.self.view_is c.self.invariant) in
    let few = cut-few c.args.n c.args.self held c.in_ok-later.ensures in
    applies-few _ _ few.2 (c.fold.ensures.few few.0 few.1)

pub returns-in_err-kept-clause-few : goal.returns-in_err-kept-clause-few
returns-in_err-kept-clause-few c =
    let held : IsObserved c.args.self c.take.result = subst (λ (k : Kept). IsObserved c.args.self k) (sym c.take.ensures)
    (subst (λ (o : Observed). IsObserved o c.self.inside.kept) c.self.view_is c.self.invariant) in
    let few = cut-few c.args.n c.args.self held c.in_ok-later.ensures in
    applies-few _ _ few.2 (c.fold.ensures.few few.0 few.1)
