use Rattle.std.proofs.Common.{◌≡◌, true, subst, sym}
use Rattle.std.specs.List.{list_any}
use Rattle.st_hash.specs.Hash.{same_hash}
use Rattle.st_observer.specs.inside.Waiting.{IsWaitedFor}
use Rattle.st_observer.proofs.WaitingLemmas.{all_waited, waited}
use Rattle.st_observer.proofs.waiting.Waiting.uris.Goals as goal

pub returns-clause-waited : goal.returns-clause-waited
returns-clause-waited c = λ uri any.
    subst (IsWaitedFor uri) c.self.view_is
    (waited uri c.self.inside.files.entries c.self.invariant
    (subst (λ uris. list_any (same_hash uri) uris ≡ true) c.in_ok-uris_of.ensures.value any))

pub returns-clause-all : goal.returns-clause-all
returns-clause-all c = λ uri waits.
    subst (λ uris. list_any (same_hash uri) uris ≡ true) (sym c.in_ok-uris_of.ensures.value)
    (all_waited uri c.self.inside.files.entries (subst (IsWaitedFor uri) (sym c.self.view_is) waits))
