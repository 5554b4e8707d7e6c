use Rattle.st_observer.specs.inside.Steps.{over}
use Rattle.st_observer.proofs.LookingLemmas.{Looking}
use Rattle.st_observer.proofs.changes.settle_entries.Given as goal

abbrev pub invariant-entries : goal.invariant-entries
invariant-entries l = Looking (over l.fn.start.index.folder.schedule l.ledger l.content) l.entries l.n-index l.fn.start l.going l.initial.work l.work
