use Rattle.std.proofs.Common.{◌∙◌, ap, subst, sym}
use Rattle.st_observer.specs.Work.{IsKept}
use Rattle.st_observer.specs.inside.Steps.{over}
use Rattle.st_observer.specs.declared.kept.Kept.{Kept}
use Rattle.st_observer.specs.Observed.{is_wanted}
use Rattle.st_observer.proofs.WantedLemmas.{asked-wants}
use Rattle.st_observer.proofs.observer.Observer.wants.Goals as goal

pub returns : goal.returns
returns c =
    let observed = over c.self.inside.schedule c.self.inside.ledger c.self.inside.content in
    let kept : IsKept observed c.get.result.now = subst (λ (k : Kept). IsKept observed k) (sym c.get.ensures) c.self.invariant.is in
    asked-wants observed c.get.result.now c.args.uri.now c.in_ok-found.found
    kept c.in_ok-found.ensures.read c.in_ok-found.ensures.waited
    ∙ ap (is_wanted c.args.uri.now) c.self.view_is
