use Rattle.std.proofs.Common.{◌≡◌, ◌↔◌, subst, true}
use Rattle.st_hash.specs.Hash.{HashValue}
use Rattle.st_observer.specs.Observed.{Waits}
use Rattle.st_observer.specs.inside.Waiting.{AreRead, IsWaitedFor, seen}
use Rattle.st_observer.proofs.WaitingLemmas.{row-waited, rows-read}
use Rattle.st_observer.proofs.waiting.Waiting.has.Goals as goal

pub returns-clause-waited : goal.returns-clause-waited
returns-clause-waited c =
    subst (λ (waits : Waits). (c.contains_key.result ≡ true) ↔ IsWaitedFor c.args.uri.now waits) c.self.view_is
    (subst (λ (uri : HashValue). (c.contains_key.result ≡ true) ↔ IsWaitedFor uri (seen c.self.inside.files.entries)) c.in_ok-key.ensures.value
    (row-waited c.in_ok-key.key c.self.inside.files.entries c.contains_key.result c.in_ok-key.ensures.read c.self.invariant c.contains_key.ensures))

pub returns-clause-read : goal.returns-clause-read
returns-clause-read c = subst AreRead c.self.view_is (rows-read c.self.inside.files.entries c.self.invariant)
