use Rattle.std.specs.Prelude.{◌≡◌, ℕ, ◌-◌, List, Some, Option}
use Rattle.st_base.specs.Work.{WorkValue}
use Rattle.st_plain.specs.Plain.{Plain}
use Rattle.st_hash.specs.Hash.{HashValue}
use Rattle.st_indexfiles.specs.declared.entries.Target.{Target}
use Rattle.st_ops.specs.Operation.{Proof, PlainOperation, updating, recovering}
use Rattle.st_content.specs.Files.{Files, file_at}
use Rattle.st_anchor.specs.Gives.{deactivating_only}
use Rattle.st_anchor.specs.States.{counted_more}
use Rattle.st_anchor.specs.declared.given.Kind.{Kind}
use Rattle.st_anchor.specs.declared.given.Kind.TheVariants.{Update, Recover, Deactivate}
use Rattle.st_anchor.specs.declared.part.RoleState.{RoleState}
use Rattle.st_anchor.specs.declared.part.RoleState.TheVariants.{Unneeded, Missing, Rejected, Read}

-- the file is missing
abbrev pub IsMissing : RoleState → Type 0
IsMissing Unneeded = ⊥
IsMissing (Missing uri) = Unit {0}
IsMissing (Rejected rule) = ⊥
IsMissing Read = ⊥

-- the later files have each of the earlier ones
pub record Extends (files later : Files) : Type 0 where
  pub kept : (uri : HashValue) (file : List ℕ) → file_at uri files ≡ Some file → file_at uri later ≡ Some file

-- this many more signed texts were opened
abbrev pub more_proofs : ℕ → WorkValue → WorkValue
more_proofs proofs work = record work { proofs = counted_more proofs work.proofs }

-- ---- The operation of a kind with a target, a proof and a delta. A deactivate has no delta.

-- the operation of a kind, by its target, its proof and its delta
abbrev pub made : Kind → Target → Option Proof → Option Plain → PlainOperation
made Update target proof delta = updating target proof delta
made Recover target proof delta = recovering target proof delta
made Deactivate target proof delta = deactivating_only target proof delta
