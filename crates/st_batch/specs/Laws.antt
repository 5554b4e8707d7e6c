-- Reading a batch back as its operations.
use Rattle.std.specs.List.{AllByRecursion}
use Rattle.std.specs.Prelude.{◌≡◌, ◌≤◌, ℕ, ◌+◌, List, [], ◌∷◌, map, Some, ⊤, ◌<◌, ◌^◌, true, min, length, take, ◌⊎◌, Result, Ok, Err}
use Rattle.st_base.specs.Work.{WorkValue, one_proof}
use Rattle.st_hash.specs.Hash.{HashValue, uri_of}
use Rattle.st_params.specs.ParamsValue.{ParamsValue, params_of}
use Rattle.st_datafiles.specs.declared.role.Role.{Role}
use Rattle.st_datafiles.specs.declared.role.Role.TheVariants.{Core, CoreProof, Provisional, ProvisionalProof, Chunk}
use Rattle.st_ops.specs.Claim.{claim_of}
use Rattle.st_ops.specs.Operation.{HasHashes, PlainOperation, creating, updating, recovering, deactivating}
use Rattle.st_ops.specs.declared.claim.Claim.TheVariants.{Update, Recover, Deactivate}
use Rattle.st_ops.specs.declared.request.RequestRefused.{RequestRefused}
use Rattle.st_ops.specs.declared.request.RequestRefused.TheVariants.{BadProof}
use Rattle.st_content.specs.Files.{Files, file_at}
use Rattle.st_anchor.specs.Gives.{gives, with_suffix}
use Rattle.st_apply.specs.Applied.{DeltaCounts}
use Rattle.st_batch.specs.Batch.{batch_with, bytes_there, file_in, are_files_small, batch_count, is_batch}
use Rattle.st_batch.specs.Queue.{Fits, AreDifferent, IsFormed, IsQueued}
use Rattle.st_batch.specs.Groups.{in_order, grouped}
use Rattle.st_batch.specs.declared.batch.Batch.{Batch}
use Rattle.st_batch.specs.declared.batch.BatchFile.{BatchFile}
use Rattle.st_batch.specs.declared.queue.SubmitRefused.{SubmitRefused}
use Rattle.st_batch.specs.declared.queue.SubmitRefused.TheVariants.{WantOfMemory}

-- ---- the files of a batch

-- the content has each of these files by its URI
abbrev pub HasFiles : Files → List BatchFile → Type 0
HasFiles content files = AllByRecursion (λ file. file_at file.uri content ≡ Some file.bytes) files

-- each file has its own URI
abbrev pub AreNamed : List BatchFile → Type 0
AreNamed files = AllByRecursion (λ file. file.uri ≡ uri_of file.bytes) files

-- the place of a role among roles
abbrev pub place_of : Role → ℕ
place_of Core = 0
place_of CoreProof = 1
place_of Provisional = 2
place_of ProvisionalProof = 3
place_of Chunk = 4

-- the roles of the files ascend from this place on, so no role appears twice
abbrev pub AscendFrom : ℕ → List BatchFile → Type 0
AscendFrom least [] = ⊤
AscendFrom least (file ∷ files) = (least ≤ place_of file.role) × AscendFrom (place_of file.role + 1) files

-- ---- reading back

-- Each of the operations fits these limits.
abbrev pub FitAll : ParamsValue → List PlainOperation → Type 0
FitAll limits operations = AllByRecursion (Fits limits) operations

-- The operation is complete at these limits: it has a claim, if it is signed, and a delta that counts for the delta
-- hash of its suffix data or of its claim, if its kind has one.
abbrev pub SaysAll : ParamsValue → PlainOperation → Type 0
SaysAll limits (creating suffix_data delta) = DeltaCounts limits suffix_data.delta_hash delta
SaysAll limits (updating target proof delta) =
    (delta_hash : HashValue) × (claim_of limits (updating target proof delta) ≡ Some (Update delta_hash))
    × DeltaCounts limits delta_hash delta
SaysAll limits (recovering target proof delta) =
    (recovery_commitment : HashValue) × (delta_hash : HashValue)
    × (claim_of limits (recovering target proof delta) ≡ Some (Recover recovery_commitment delta_hash))
    × DeltaCounts limits delta_hash delta
SaysAll limits (deactivating target proof) = claim_of limits (deactivating target proof) ≡ Some Deactivate

-- A batch is read back as these operations at these limits, if each of them fits these: over any content that has its
-- files, an entry with its anchor string gives exactly these, in the order of a batch, each with its suffix, its
-- proof and its delta; and each of them is complete.
pub record IsReadBack (limits : ParamsValue) (batch : Batch) (operations : List PlainOperation) : Type 0 where
  pub given : (content : Files) → HasFiles content batch.files → FitAll limits operations
      → gives content limits batch.anchor ≡ map with_suffix (in_order operations)
  pub said : FitAll limits operations → AllByRecursion (SaysAll limits) operations

-- ---- Laws of batches, for all operations.

-- Different operations, fewer than 2^64, that go into one batch at these limits, or none; each has the properties of
-- each `Operation`.
pub record AreBatched (limits : ParamsValue) (operations : List PlainOperation) : Type 0 where
  pub goes : 1 ≤ length operations → is_batch limits operations ≡ true
  pub few : length operations < 2 ^ 64
  pub different : AreDifferent operations
  pub formed : AllByRecursion IsFormed operations

-- The batch of such operations is read back as these.
abbrev pub BatchIsReadBack : Type 0
BatchIsReadBack = (limits : ParamsValue) (operations : List PlainOperation) → AreBatched limits operations
    → IsReadBack limits (batch_with operations) operations

-- At the limits of each version a batch takes the first operation of a queue, if that fits the limits
-- of some version. So a queue that is not empty gives a batch.
abbrev pub TakesTheFirst : Type 0
TakesTheFirst = (first second : ℕ) (operation : PlainOperation) (waiting : List PlainOperation) → HasHashes operation
    → Fits (params_of first) operation → 1 ≤ batch_count (params_of second) (operation ∷ waiting)

-- The files of up to 1,000 operations, each of which fits the limits of some version, are never too long, at the
-- limits of each version.
abbrev pub ThousandFit : Type 0
ThousandFit = (version : ℕ) (operations : List PlainOperation) → AllByRecursion IsQueued operations
    → length operations ≤ 1000 → are_files_small (params_of version) operations ≡ true

-- In version 1 a batch takes the first 1,000 operations of a queue, or all if there are fewer, if each of the queue
-- fits the limits of some version.
abbrev pub TakesAThousand : Type 0
TakesAThousand = (queue : List PlainOperation) → AllByRecursion IsQueued queue
    → batch_count (params_of 1) queue ≡ min 1000 (length queue)

-- A longer prefix of a queue never has a shorter file, in any role; a missing file counts as 0 bytes.
abbrev pub NeverShorter : Type 0
NeverShorter = (role : Role) (queue : List PlainOperation) (fewer more : ℕ) → fewer ≤ more
    → bytes_there (file_in role (grouped (take fewer queue))) ≤ bytes_there (file_in role (grouped (take more queue)))

-- ---- The counts of submitting a request.

-- One signed text was opened, if the request is for an operation that has one, or if its signed text was refused;
-- else nothing was counted.
abbrev pub CountsOpened : Result PlainOperation RequestRefused → WorkValue → WorkValue → Type 0
CountsOpened (Ok (creating suffix_data delta)) old new = new ≡ old
CountsOpened (Ok signed) old new = new ≡ one_proof old
CountsOpened (Err BadProof) old new = new ≡ one_proof old
CountsOpened (Err refusal) old new = new ≡ old

-- the same, for any outcome; if memory ran out, either is possible
abbrev pub CountsAsking : {Found : Type 0} → Result PlainOperation RequestRefused → Result Found SubmitRefused → WorkValue → WorkValue → Type 0
CountsAsking asked (Err WantOfMemory) old new = (new ≡ old) ⊎ (new ≡ one_proof old)
CountsAsking asked result old new = CountsOpened asked old new
