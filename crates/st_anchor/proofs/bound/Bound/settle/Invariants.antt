use Rattle.std.proofs.Common.{◌-◌}
use Rattle.st_anchor.specs.States.{decided_roles}
use Rattle.st_anchor.proofs.SettleLemmas.{Settles}
use Rattle.st_anchor.proofs.bound.Bound.settle.Given as goal

abbrev pub invariant-binding : goal.invariant-binding
invariant-binding l = Settles l.content l.fn.self l.initial.work l.bound l.work

abbrev pub decreases-binding : goal.decreases-binding
decreases-binding l = 5 - decided_roles l.bound
