use Rattle.std.proofs.Common.{◌-◌, subst}
use Rattle.st_observer.specs.Observed.{Observed, arrived}
use Rattle.st_observer.specs.inside.Steps.{over}
use Rattle.st_observer.specs.Work.{GrewAtMost, ReadExactly, arrival_cost, decided_in, opened_in}
use Rattle.st_observer.proofs.ObserverLemmas.{arrived-exact, arrived-few, arrived-kept, arrived-start}
use Rattle.st_observer.proofs.observer.Observer.arrive_under.Goals as goal

pub settle_waiting-requires-clause-going : goal.settle_waiting-requires-clause-going
settle_waiting-requires-clause-going c =
    let observed = over c.self.inside.schedule c.self.inside.ledger c.self.inside.content in
    arrived-start c.args.bytes observed c.self.inside.kept c.args.uri c.put_under.new.self
    c.self.invariant.is c.requires c.in_ok-put.ensures.ok

pub invariant_of-observer : goal.invariant_of-observer
invariant_of-observer c =
    let observed = over c.self.inside.schedule c.self.inside.ledger c.self.inside.content in
    arrived-kept c.args.bytes observed c.self.inside.kept c.args.uri c.put_under.new.self
    c.self.invariant.is c.requires c.in_ok-put.ensures.ok c.in_ok-kept.kept c.in_ok-kept.ensures.state

pub returns-clause-exact : goal.returns-clause-exact
returns-clause-exact c =
    let observed = over c.self.inside.schedule c.self.inside.ledger c.self.inside.content in
    subst (λ (s : Observed). ReadExactly (decided_in (arrived c.args.bytes s) - decided_in s)
    (opened_in (arrived c.args.bytes s) - opened_in s) c.args.work.now c.settle_waiting.new.work) c.self.view_is
    (arrived-exact c.args.bytes observed c.self.inside.kept c.args.uri c.put_under.new.self
    c.self.invariant.is c.requires c.in_ok-put.ensures.ok c.in_ok-kept.kept c.args.work.now c.settle_waiting.new.work c.in_ok-kept.ensures.state
    c.in_ok-kept.ensures.exact)

pub returns-clause-few : goal.returns-clause-few
returns-clause-few c =
    let observed = over c.self.inside.schedule c.self.inside.ledger c.self.inside.content in
    subst (λ (s : Observed). GrewAtMost (decided_in (arrived c.args.bytes s) - decided_in s) (opened_in (arrived c.args.bytes s) - opened_in s)
    (arrival_cost c.args.bytes s) c.args.work.now c.settle_waiting.new.work) c.self.view_is
    (arrived-few c.args.bytes observed c.self.inside.kept c.args.uri c.put_under.new.self
    c.self.invariant.is c.requires c.in_ok-put.ensures.ok c.args.work.now c.settle_waiting.new.work c.settle_waiting.ensures.few)

pub returns-in_err-kept-clause-few : goal.returns-in_err-kept-clause-few
returns-in_err-kept-clause-few c =
    let observed = over c.self.inside.schedule c.self.inside.ledger c.self.inside.content in
    subst (λ (s : Observed). GrewAtMost (decided_in (arrived c.args.bytes s) - decided_in s) (opened_in (arrived c.args.bytes s) - opened_in s)
    (arrival_cost c.args.bytes s) c.args.work.now c.settle_waiting.new.work) c.self.view_is
    (arrived-few c.args.bytes observed c.self.inside.kept c.args.uri c.put_under.new.self
    c.self.invariant.is c.requires c.in_ok-put.ensures.ok c.args.work.now c.settle_waiting.new.work c.settle_waiting.ensures.few)
