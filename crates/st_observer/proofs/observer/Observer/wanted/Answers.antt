use Rattle.std.proofs.Common.{◌∙◌, ◌↔◌, IsTrue, ap, subst, sym}
use Rattle.std.specs.List.{list_any}
use Rattle.st_hash.specs.Hash.{same_hash}
use Rattle.st_observer.specs.Observed.{Observed, IsMissed, wanted}
use Rattle.st_observer.specs.Work.{IsKept}
use Rattle.st_observer.specs.inside.Steps.{over}
use Rattle.st_observer.specs.declared.kept.Kept.{Kept}
use Rattle.st_observer.proofs.WantedLemmas.{asked-by, asked-missed, asked-wanted}
use Rattle.st_observer.proofs.observer.Observer.wanted.Goals as goal

pub returns-clause-value : goal.returns-clause-value
returns-clause-value c =
    let observed = over c.self.inside.schedule c.self.inside.ledger c.self.inside.content in
    let kept : IsKept observed c.get.result.now = subst (λ (k : Kept). IsKept observed k) (sym c.get.ensures) c.self.invariant.is in
    asked-wanted observed c.get.result.now c.in_ok-uris.uris kept
    c.in_ok-uris.ensures.ordered c.in_ok-uris.ensures.waited c.in_ok-uris.ensures.all
    ∙ ap wanted c.self.view_is

pub returns-clause-missed : goal.returns-clause-missed
returns-clause-missed c uri =
    let observed = over c.self.inside.schedule c.self.inside.ledger c.self.inside.content in
    let kept : IsKept observed c.get.result.now = subst (λ (k : Kept). IsKept observed k) (sym c.get.ensures) c.self.invariant.is in
    subst (λ (s : Observed). IsTrue (list_any (same_hash uri) c.in_ok-uris.uris) ↔ IsMissed uri s) c.self.view_is
    (asked-by observed uri c.in_ok-uris.uris
    (asked-missed observed c.get.result.now c.in_ok-uris.uris kept
    c.in_ok-uris.ensures.waited c.in_ok-uris.ensures.all uri))
