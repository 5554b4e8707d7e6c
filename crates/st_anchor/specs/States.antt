-- The states of the roles of an entry.
use Rattle.std.specs.Prelude.{ℕ, ◌+◌, List, [], ◌∷◌, length, sum_by, ◌≡◌, zero, suc, ◌≤◌, false, Option}
use Rattle.st_base.specs.Lists.{has_twice}
use Rattle.st_base.specs.Work.{WorkValue, counted}
use Rattle.st_hash.specs.Hash.{same_hash}
use Rattle.st_params.specs.ParamsValue.{ParamsValue}
use Rattle.st_indexfiles.specs.CoreIndex.{suffixes_of}
use Rattle.st_indexfiles.specs.ProvisionalIndex.{suffixes_in, core_count, repeats_suffix}
use Rattle.st_indexfiles.specs.declared.core_index.CoreIndex.{CoreIndex}
use Rattle.st_datafiles.specs.declared.role.Role.{Role}
use Rattle.st_datafiles.specs.declared.role.Role.TheVariants.{Core, CoreProof, Provisional, ProvisionalProof, Chunk}
use Rattle.st_ops.specs.Operation.{Proof}
use Rattle.st_content.specs.Files.{Files}
use Rattle.st_anchor.specs.BoundValue.{BoundValue, known}
use Rattle.st_anchor.specs.declared.branches.Context.{Context}
use Rattle.st_anchor.specs.declared.branches.CoreBranch.{CoreBranch}
use Rattle.st_anchor.specs.declared.branches.OpenedCore.{OpenedCore}
use Rattle.st_anchor.specs.declared.branches.ProvisionalBranch.{ProvisionalBranch}
use Rattle.st_anchor.specs.declared.part.Part.{Part}
use Rattle.st_anchor.specs.declared.part.Part.TheVariants.{Unneeded, Missing, Rejected, Is}
use Rattle.st_anchor.specs.declared.part.RoleState.{RoleState}
use Rattle.st_anchor.specs.declared.part.RoleState.TheVariants as role_is

-- the state of the role of a part
abbrev pub state : {Says : Type 0} → Part Says → RoleState
state Unneeded = role_is.Unneeded
state (Missing uri) = role_is.Missing uri
state (Rejected rule) = role_is.Rejected rule
state (Is says) = role_is.Read

-- the state of a role below a part: nothing is needed below a file that wasn't read
abbrev pub state_below : {Says : Type 0} → (Says → RoleState) → Part Says → RoleState
state_below below Unneeded = role_is.Unneeded
state_below below (Missing uri) = role_is.Unneeded
state_below below (Rejected rule) = role_is.Unneeded
state_below below (Is says) = below says

-- of a role below a provisional index
abbrev pub provisional_state : Role → ProvisionalBranch → RoleState
provisional_state ProvisionalProof branch = state branch.proofs
provisional_state Chunk branch = state branch.chunk
provisional_state other branch = role_is.Unneeded

-- of the provisional index, or of a role below it
abbrev pub provisional_part_state : Role → Part ProvisionalBranch → RoleState
provisional_part_state Provisional part = state part
provisional_part_state role part = state_below (provisional_state role) part

-- of a role below a core index
abbrev pub core_state : Role → CoreBranch → RoleState
core_state Core branch = role_is.Unneeded
core_state CoreProof branch = state branch.proofs
core_state role branch = provisional_part_state role branch.provisional

-- the state of a role, from what is known
unfoldable pub role_state : Role → BoundValue → RoleState
role_state Core bound = state bound.core
role_state role bound = state_below (core_state role) bound.core

-- of the five roles, in their order
abbrev pub role_states : BoundValue → List RoleState
role_states bound =
    role_state Core bound ∷ role_state CoreProof bound ∷ role_state Provisional bound ∷ role_state ProvisionalProof bound
    ∷ role_state Chunk bound ∷ []

-- The role states of an entry with this text, over the files received and at the limits of its height: the states of its
-- five roles.
abbrev pub role_states_from : Files → ParamsValue → List ℕ → List RoleState
role_states_from files limits text = role_states (known files limits text)

-- ---- counts

-- a role is decided if its file, or for the core role the entry's text, was read or rejected
abbrev pub decided : RoleState → ℕ
decided role_is.Unneeded = 0
decided (role_is.Missing uri) = 0
decided (role_is.Rejected rule) = 1
decided role_is.Read = 1

-- the number of decided roles
unfoldable pub decided_roles : BoundValue → ℕ
decided_roles bound = sum_by decided (role_states bound)

-- a number that depends on the content of a file, and is 0 if it wasn't read
abbrev pub count_read : {Says : Type 0} → (Says → ℕ) → Part Says → ℕ
count_read count (Is says) = count says
count_read count other = 0

-- the number of signed texts of a core proof file
abbrev pub core_proof_count : OpenedCore → ℕ
core_proof_count opened = length opened.recovers + length opened.deactivates

-- the number of signed texts of a provisional proof file, if it was read
abbrev pub opened_in_provisional : ProvisionalBranch → ℕ
opened_in_provisional branch = count_read length branch.proofs

-- the number in both proof files
abbrev pub opened_in_core : CoreBranch → ℕ
opened_in_core branch = count_read core_proof_count branch.proofs + count_read opened_in_provisional branch.provisional

-- the number of signed texts in the proof files that were read
unfoldable pub opened_proofs : BoundValue → ℕ
opened_proofs bound = count_read opened_in_core bound.core

-- ---- Counts of files read and signed texts opened.

-- this many more, each counted
abbrev pub counted_more : ℕ → ℕ → ℕ
counted_more zero count = count
counted_more (suc more) count = counted (counted_more more count)

-- this many more files were read, and this many more signed texts were opened
abbrev pub worked : ℕ → ℕ → WorkValue → WorkValue
worked files proofs work = record {
  files = counted_more files work.files;
  proofs = counted_more proofs work.proofs;
  applies = work.applies;
}

-- one more file was read, and this many signed texts in it were opened
abbrev pub one_file_with : ℕ → WorkValue → WorkValue
one_file_with proofs work = record work { files = counted work.files; proofs = counted_more proofs work.proofs }

-- At most this many files were read and this many signed texts opened, each counted. So no count fell.
pub record WorkedAtMost (files proofs : ℕ) (old new : WorkValue) : Type 0 where
  pub files_read : ℕ
  pub proofs_opened : ℕ
  pub few_files : files_read ≤ files
  pub few_proofs : proofs_opened ≤ proofs
  pub counts : new ≡ worked files_read proofs_opened old

-- ---- Everything known satisfies the rules by which its files were accepted.

-- the content of a file, if it was read, has this property
abbrev pub Holds : {Says : Type 0} → (Says → Type 0) → Part Says → Type 0
Holds P Unneeded = Unit {0}
Holds P (Missing uri) = Unit {0}
Holds P (Rejected rule) = Unit {0}
Holds P (Is says) = P says

-- at most as many signed texts as operations
abbrev pub AreCoreProofs : CoreIndex → OpenedCore → Type 0
AreCoreProofs core opened = core_proof_count opened ≤ length core.recovers + length core.deactivates

-- at most as many signed texts as updates
abbrev pub AreProofs : ℕ → List (Option Proof) → Type 0
AreProofs updates proofs = length proofs ≤ updates

-- No suffix of an update appears twice or also in the core index, and both indexes have at most as many operations as
-- the declared count.
pub record IsSoundProvisional (context : Context) (core : CoreIndex) (branch : ProvisionalBranch) : Type 0 where
  pub apart : repeats_suffix (suffixes_in branch.says.updates) core ≡ false
  pub few : core_count core + length branch.says.updates ≤ context.count
  pub proofs : Holds (AreProofs (length branch.says.updates)) branch.proofs

-- The same for a core index and the files below it.
pub record IsSoundCore (context : Context) (branch : CoreBranch) : Type 0 where
  pub once : has_twice same_hash (suffixes_of branch.says) ≡ false
  pub few : core_count branch.says ≤ context.count
  pub proofs : Holds (AreCoreProofs branch.says) branch.proofs
  pub provisional : Holds (IsSoundProvisional context branch.says) branch.provisional

-- The files read for an entry satisfy the rules that its laws need.
abbrev pub IsSound : BoundValue → Type 0
IsSound bound = Holds (IsSoundCore bound.context) bound.core
