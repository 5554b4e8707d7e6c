use Rattle.std.proofs.Common.{List, subst, sym}
use Rattle.st_ledger.specs.declared.ledger.Entry.{Entry}
use Rattle.st_observer.specs.Work.{IsObserved}
use Rattle.st_observer.specs.Observed.{appended}
use Rattle.st_observer.specs.inside.Steps.{over}
use Rattle.st_observer.proofs.ObserverLemmas.{AppendFew, appended-few, appended-kept, appended-wanting, kept-folded}
use Rattle.st_observer.proofs.observer.Observer.append.Goals as goal

pub invariant_of-observer : goal.invariant_of-observer
invariant_of-observer c =
    let observed = over c.self.inside.schedule c.self.inside.ledger c.self.inside.content in
    subst (λ (ledger : List Entry). IsObserved (over c.self.inside.schedule ledger c.self.inside.content) c.in_ok-kept.kept) (sym c.in_ok-number.ensures.ok)
    (kept-folded (appended c.args.entry observed) c.in_ok-later.later c.in_ok-kept.kept
    (appended-kept observed c.args.entry c.as_slice.result.now c.at.result c.in_ok-anchored.anchored c.as_slice.ensures c.at.ensures c.in_ok-anchored.ensures
    c.in_ok-number.number c.in_ok-bound.bound c.self.inside.kept c.take.result c.in_ok-later.later c.in_ok-bound.ensures.value c.self.invariant c.take.ensures
    c.in_ok-number.ensures.number c.in_ok-later.ensures.step) c.in_ok-kept.ensures.step)

pub returns-clause-few : goal.returns-clause-few
returns-clause-few c =
    subst (AppendFew c.args.entry c.args.work.now c.fold.new.work) c.self.view_is
    (appended-few (over c.self.inside.schedule c.self.inside.ledger c.self.inside.content)
    c.args.entry c.as_slice.result.now c.at.result c.in_ok-anchored.anchored c.as_slice.ensures c.at.ensures c.in_ok-anchored.ensures
    c.in_ok-number.number c.in_ok-bound.bound c.self.inside.kept c.take.result c.in_ok-later.later c.in_ok-bound.ensures.value c.self.invariant c.take.ensures
    c.in_ok-number.ensures.number c.in_ok-later.ensures.step c.args.work.now c.settle.new.work c.fold.new.work c.in_ok-bound.ensures.few c.fold.ensures.few)

pub returns-in_err-kept-clause-few : goal.returns-in_err-kept-clause-few
returns-in_err-kept-clause-few c =
    subst (AppendFew c.args.entry c.args.work.now c.fold.new.work) c.self.view_is
    (appended-few (over c.self.inside.schedule c.self.inside.ledger c.self.inside.content)
    c.args.entry c.as_slice.result.now c.at.result c.in_ok-anchored.anchored c.as_slice.ensures c.at.ensures c.in_ok-anchored.ensures
    c.in_ok-number.number c.in_ok-bound.bound c.self.inside.kept c.take.result c.in_ok-later.later c.in_ok-bound.ensures.value c.self.invariant c.take.ensures
    c.in_ok-number.ensures.number c.in_ok-later.ensures.step c.args.work.now c.settle.new.work c.fold.new.work c.in_ok-bound.ensures.few c.fold.ensures.few)

pub returns-in_err-later-clause-few : goal.returns-in_err-later-clause-few
returns-in_err-later-clause-few c =
    subst (AppendFew c.args.entry c.args.work.now c.settle.new.work) c.self.view_is
    (appended-wanting (over c.self.inside.schedule c.self.inside.ledger c.self.inside.content) c.args.entry
    c.as_slice.result.now c.at.result c.in_ok-anchored.anchored c.as_slice.ensures c.at.ensures c.in_ok-anchored.ensures c.args.work.now c.settle.new.work
    c.in_ok-bound.ensures.few)

pub returns-in_err-bound-clause-few : goal.returns-in_err-bound-clause-few
returns-in_err-bound-clause-few c =
    subst (AppendFew c.args.entry c.args.work.now c.settle.new.work) c.self.view_is
    (appended-wanting (over c.self.inside.schedule c.self.inside.ledger c.self.inside.content) c.args.entry
    c.as_slice.result.now c.at.result c.in_ok-anchored.anchored c.as_slice.ensures c.at.ensures c.in_ok-anchored.ensures c.args.work.now c.settle.new.work
    c.in_err-bound.ensures.few)
