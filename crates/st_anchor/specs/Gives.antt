-- The operations of an entry (DIF Sidetree v1.0.0, "Transaction & Operation Processing"): creates, recovers,
-- deactivates and updates, each with its suffix. An operation is withheld only if a file that it needs itself wasn't
-- read.
use Rattle.std.specs.Prelude.{ℕ, List, [], ◌∷◌, ◌++◌, drop, length, map, slice_get, Option, option_and_then, ◌≡◌, ◌-◌, Some, None, ◌+◌, ◌≤◌, false}
use Rattle.st_base.specs.Lists.{has_twice}
use Rattle.st_plain.specs.Plain.{Plain}
use Rattle.st_hash.specs.Hash.{HashValue, uri_of, same_hash}
use Rattle.st_params.specs.ParamsValue.{ParamsValue}
use Rattle.st_indexfiles.specs.declared.core_index.CoreIndex.{CoreIndex}
use Rattle.st_indexfiles.specs.declared.provisional_index.ProvisionalIndex.{ProvisionalIndex}
use Rattle.st_indexfiles.specs.declared.suffix_data.SuffixData.{SuffixData}
use Rattle.st_indexfiles.specs.declared.entries.Target.{Target}
use Rattle.st_datafiles.specs.declared.role.Role.{Role}
use Rattle.st_ops.specs.Operation.{Proof, PlainOperation, creating, updating, recovering, deactivating, plain_operation, suffix_of}
use Rattle.st_content.specs.Files.{Files, file_at, with_file}
use Rattle.st_anchor.specs.BoundValue.{BoundValue, known, bound_with, known_from}
use Rattle.st_anchor.specs.States.{decided_roles, opened_proofs, role_state}
use Rattle.st_anchor.specs.declared.branches.CoreBranch.{CoreBranch}
use Rattle.st_anchor.specs.declared.branches.OpenedCore.{OpenedCore}
use Rattle.st_anchor.specs.declared.branches.ProvisionalBranch.{ProvisionalBranch}
use Rattle.st_anchor.specs.declared.given.Given.{Given}
use Rattle.st_anchor.specs.declared.part.Part.{Part}
use Rattle.st_anchor.specs.declared.part.Part.TheVariants.{Is}
use Rattle.st_anchor.specs.declared.part.RoleState.TheVariants.{Missing}

-- each item with the other one at its place, if there is one
abbrev pub beside : {Item Other : Type 0} → List Item → List Other → List (Item × Option Other)
beside [] others = []
beside (item ∷ items) others = (item, slice_get others 0) ∷ beside items (drop 1 others)

-- ---- operations of one kind

-- A create needs only the core index.
abbrev pub creates_given : List SuffixData → List Plain → List PlainOperation
creates_given creates deltas = map (λ entry. creating entry.0 entry.1) (beside creates deltas)

-- operations with targets, each with the proof and the delta at its place
abbrev pub signed_given : (Target → Option Proof → Option Plain → PlainOperation) → List Target → List (Option Proof) → List Plain → List PlainOperation
signed_given make targets proofs deltas =
    map (λ entry. make entry.0.0 (option_and_then (λ proof. proof) entry.0.1) entry.1) (beside (beside targets proofs) deltas)

-- A deactivate has no delta.
abbrev pub deactivating_only : Target → Option Proof → Option Plain → PlainOperation
deactivating_only target proof delta = deactivating target proof

-- A recover and a deactivate need the core proof file too.
abbrev pub recovers_given : CoreIndex → List Plain → Part OpenedCore → List PlainOperation
recovers_given core deltas (Is proofs) = signed_given recovering core.recovers proofs.recovers deltas
recovers_given core deltas other = []

-- the deactivates of a core index
abbrev pub deactivates_given : CoreIndex → Part OpenedCore → List PlainOperation
deactivates_given core (Is proofs) = signed_given deactivating_only core.deactivates proofs.deactivates []
deactivates_given core other = []

-- An update needs the provisional index and its proof file.
abbrev pub updates_given : ProvisionalIndex → List Plain → Part (List (Option Proof)) → List PlainOperation
updates_given provisional deltas (Is proofs) = signed_given updating provisional.updates proofs deltas
updates_given provisional deltas other = []

-- the updates of a provisional index, if it was read
abbrev pub updates_below : List Plain → Part ProvisionalBranch → List PlainOperation
updates_below deltas (Is branch) = updates_given branch.says deltas branch.proofs
updates_below deltas other = []

-- ---- all of them

-- the deltas of the chunk file, or none if it wasn't read
abbrev pub deltas_read : Part (List Plain) → List Plain
deltas_read (Is deltas) = deltas
deltas_read other = []

-- the same from what is known about the provisional index
abbrev pub deltas_below : Part ProvisionalBranch → List Plain
deltas_below (Is branch) = deltas_read branch.chunk
deltas_below other = []

-- The operations of a core index and of the files below it. The deltas are in the order creates, recovers, updates.
abbrev pub operations_below : CoreBranch → List PlainOperation
operations_below branch =
    let deltas = deltas_below branch.provisional in
    let of_recovers = drop (length branch.says.creates) deltas in
    let of_updates = drop (length branch.says.recovers) of_recovers in
    creates_given branch.says.creates deltas ++ recovers_given branch.says of_recovers branch.proofs
    ++ deactivates_given branch.says branch.proofs ++ updates_below of_updates branch.provisional

-- the operations of an entry from what is known about its core index: none if that wasn't read
abbrev pub operations_of : Part CoreBranch → List PlainOperation
operations_of (Is branch) = operations_below branch
operations_of other = []

-- an operation with its suffix
abbrev pub with_suffix : PlainOperation → HashValue × PlainOperation
with_suffix operation = (suffix_of operation, operation)

-- the operations of an entry from what is known about it
unfoldable pub given : BoundValue → List (HashValue × PlainOperation)
given bound = map with_suffix (operations_of bound.core)

-- The operations of an entry with this text, over the files received and at the limits of its height.
abbrev pub gives : Files → ParamsValue → List ℕ → List (HashValue × PlainOperation)
gives files limits text = given (known files limits text)

-- the suffixes of given operations
abbrev pub suffixes_given : List (HashValue × PlainOperation) → List HashValue
suffixes_given entries = map (λ entry. entry.0) entries

-- the plain value of a `Given`
abbrev pub plain_given : Given → HashValue × PlainOperation
plain_given given = (given.suffix, plain_operation given.operation)

-- ---- Files that were received, and those that weren't.

-- the role's missing file is among the files
pub record HasCome (files : Files) (bound : BoundValue) (role : Role) (file : List ℕ) : Type 0 where
  pub missing : role_state role bound ≡ Missing (uri_of file)
  pub there : file_at (uri_of file) files ≡ Some file

-- the role's missing file, if any, is not among the files
abbrev pub MissesNone : Files → BoundValue → Role → Type 0
MissesNone files bound role = (uri : HashValue) → role_state role bound ≡ Missing uri → file_at uri files ≡ None

-- no role's missing file is among the files
pub record NoneHasCome (files : Files) (bound : BoundValue) : Type 0 where
  pub absent : (role : Role) → MissesNone files bound role

-- this file is missing for no role
abbrev pub IsUnmissed : HashValue → BoundValue → Type 0
IsUnmissed uri bound = (role : Role) → role_state role bound ≡ Missing uri → ⊥

-- ---- counts

-- the number of signed texts in a role's file with these bytes, if it passes as a proof file
abbrev pub opened_by : Role → List ℕ → BoundValue → ℕ
opened_by role file bound = opened_proofs (bound_with role file bound) - opened_proofs bound

-- how many roles the files decide
abbrev pub newly_decided : Files → BoundValue → ℕ
newly_decided files bound = decided_roles (known_from files bound) - decided_roles bound

-- the number of signed texts in newly read proof files
abbrev pub newly_opened : Files → BoundValue → ℕ
newly_opened files bound = opened_proofs (known_from files bound) - opened_proofs bound

-- ---- Laws of what is known about entries, for any files received.

-- A missing file that was received may be read at any time: the knowledge over the files stays the same.
abbrev pub MayBeRead : Type 0
MayBeRead = (files : Files) (bound : BoundValue) (role : Role) (file : List ℕ) → HasCome files bound role file
    → known_from files (bound_with role file bound) ≡ known_from files bound

-- If no missing file was received, what is known is all that the files give.
abbrev pub AllIsKnown : Type 0
AllIsKnown = (files : Files) (bound : BoundValue) → NoneHasCome files bound → known_from files bound ≡ bound

-- A file that is missing for no role changes nothing.
abbrev pub LeavesKnown : Type 0
LeavesKnown = (files : Files) (bound : BoundValue) (file : List ℕ) → IsUnmissed (uri_of file) (known_from files bound)
    → known_from (with_file file files) bound ≡ known_from files bound

-- Each file that is read decides one more role, so at most five are read for an entry.
abbrev pub DecidesOne : Type 0
DecidesOne = (bound : BoundValue) (role : Role) (uri : HashValue) (file : List ℕ) → role_state role bound ≡ Missing uri
    → (decided_roles (bound_with role file bound) ≡ decided_roles bound + 1) × (decided_roles bound + 1 ≤ 5)

-- The proof files read for an entry have at most as many signed texts as its anchor string declares operations.
abbrev pub OpensFew : Type 0
OpensFew = (files : Files) (limits : ParamsValue) (text : List ℕ)
    → opened_proofs (known files limits text) ≤ (known files limits text).context.count

-- An entry gives at most one operation for a suffix.
abbrev pub GivesOnce : Type 0
GivesOnce = (files : Files) (limits : ParamsValue) (text : List ℕ) → has_twice same_hash (suffixes_given (gives files limits text)) ≡ false
