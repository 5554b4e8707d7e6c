use Rattle.std.proofs.Common.{ℕ, ◌<◌, get_or}
use Rattle.st_datafiles.specs.declared.role.Role.TheVariants.{Core}
use Rattle.st_anchor.specs.Gives.{MissesNone}
use Rattle.st_anchor.proofs.bound.next_there.Given as goal

abbrev pub invariant-loop-role : goal.invariant-loop-role
invariant-loop-role l = (k : ℕ) → k < l.role-index → MissesNone l.content l.bound (get_or l.role-items k Core)
