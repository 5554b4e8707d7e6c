-- How the logic stores queued operations. No statement about them depends on it.
use Rattle.std.specs.Coded.{Coded, code_by, coded×, coded_bool, coded_list, coded_option, coded_ℕ}
use Rattle.std.specs.List.{AllByRecursion, list_any}
use Rattle.std.specs.Prelude.{◌≡◌, ℕ, Bool, true, false, List, Option, None, refl, is_some, Some, ◌≤◌, length, map, IfSome, not, nat_lt, [], ◌∷◌, ◌++◌, Result, Ok}
use Rattle.std.specs.Result.{result_map_both}
use Rattle.std.specs.Str.{IsUtf8}
use Rattle.st_base.specs.Answers.{◌>>=◌, ◌>>◌, holds_or}
use Rattle.st_base.specs.Lists.{has_twice}
use Rattle.st_plain.specs.Plain.{Plain, coded_plain, IsProper}
use Rattle.st_hash.specs.Hash.{HashValue, same_hash}
use Rattle.st_params.specs.ParamsValue.{ParamsValue, params_of}
use Rattle.st_ops.specs.Claim.{claim_of}
use Rattle.st_ops.specs.Operation.{coded_proof, HasHashes, PlainOperation, Proof, creating, updating, recovering, deactivating, plain_operation, suffix_of}
use Rattle.st_ops.specs.Request.{request_of, IsReadAgain, delta_there}
use Rattle.st_ops.specs.declared.claim.Claim.{Claim}
use Rattle.st_ops.specs.declared.claim.Claim.TheVariants.{Update, Recover}
use Rattle.st_ops.specs.declared.operation.Operation.{Operation}
use Rattle.st_ops.specs.declared.request.RequestRefused.{RequestRefused}
use Rattle.st_ops.specs.declared.request.RequestRefused.TheVariants as request
use Rattle.st_apply.specs.Applied.{counted}
use Rattle.st_batch.specs.Groups.{signed_text_in}
use Rattle.st_batch.specs.declared.queue.SubmitRefused.{SubmitRefused}
use Rattle.st_batch.specs.declared.queue.SubmitRefused.TheVariants.{NotJson, NotWhole, BadForm, BadHash, BadProof, BadDelta, AlreadyQueued, QueueFull, WantOfMemory}

-- two hashes, and an optional proof and delta
abbrev CodedFields : Type 0
CodedFields = (HashValue × HashValue) × (Option Proof × Option Plain)

-- the kind as two bits, and the contents of an operation
abbrev Parts : Type 0
Parts = (Bool × Bool) × CodedFields

-- the parts of an operation
abbrev parts_of : PlainOperation → Parts
parts_of (creating suffix_data delta) = ((true, true), ((suffix_data.delta_hash, suffix_data.recovery_commitment), (None, delta)))
parts_of (updating target proof delta) = ((true, false), ((target.suffix, target.reveal), (proof, delta)))
parts_of (recovering target proof delta) = ((false, true), ((target.suffix, target.reveal), (proof, delta)))
parts_of (deactivating target proof) = ((false, false), ((target.suffix, target.reveal), (proof, None)))

-- the operation of the kind of these two bits
abbrev operation_of : Bool → Bool → CodedFields → PlainOperation
operation_of true true held = creating (record { delta_hash = held.0.0; recovery_commitment = held.0.1 }) held.1.1
operation_of true false held = updating (record { suffix = held.0.0; reveal = held.0.1 }) held.1.0 held.1.1
operation_of false true held = recovering (record { suffix = held.0.0; reveal = held.0.1 }) held.1.0 held.1.1
operation_of false false held = deactivating (record { suffix = held.0.0; reveal = held.0.1 }) held.1.0

-- the operation with these parts
abbrev of_parts : Parts → PlainOperation
of_parts parts = operation_of parts.0.0 parts.0.1 parts.1

-- the parts of an operation give it again
pub parts_back : (operation : PlainOperation) → of_parts (parts_of operation) ≡ operation
parts_back (creating suffix_data delta) = refl
parts_back (updating target proof delta) = refl
parts_back (recovering target proof delta) = refl
parts_back (deactivating target proof) = refl

-- a hash as its algorithm and its digest
abbrev coded_hash : Coded HashValue
coded_hash =
    code_by (ℕ × List ℕ) (coded× coded_ℕ (coded_list coded_ℕ))
    (λ hash. (hash.code, hash.digest)) (λ fields. record { code = fields.0; digest = fields.1 }) (λ _. refl)

-- an operation as its parts
abbrev pub coded_operation : Coded PlainOperation
coded_operation =
    code_by Parts
    (coded× (coded× coded_bool coded_bool)
    (coded× (coded× coded_hash coded_hash) (coded× (coded_option coded_proof) (coded_option coded_plain))))
    parts_of of_parts parts_back

-- a queue as a list of these
abbrev pub coded_operations : Coded (List PlainOperation)
coded_operations = coded_list coded_operation

-- ---- Operations with the right delta, and operations that fit limits.

-- its delta counts for the delta hash of its suffix data, or of this claim; a deactivate has no delta
abbrev pub delta_counts : ParamsValue → PlainOperation → Option Claim → Bool
delta_counts limits (creating suffix_data delta) claim = is_some (counted limits suffix_data.delta_hash delta)
delta_counts limits (updating target proof delta) (Some (Update delta_hash)) = is_some (counted limits delta_hash delta)
delta_counts limits (recovering target proof delta) (Some (Recover recovery_commitment delta_hash)) =
    is_some (counted limits delta_hash delta)
delta_counts limits (deactivating target proof) claim = true
-- an update or a recover has a claim of its kind; without one its request was refused earlier
delta_counts limits operation claim = false

-- an operation's delta is one at these limits and has its delta hash, if its kind has a delta
unfoldable pub has_right_delta : ParamsValue → PlainOperation → Bool
has_right_delta limits operation = delta_counts limits operation (claim_of limits operation)

-- An operation fits limits: the text of its request is accepted for it, and it has the right delta.
pub record Fits (limits : ParamsValue) (operation : PlainOperation) : Type 0 where
  pub request : IsReadAgain limits operation
  pub delta : has_right_delta limits operation ≡ true

-- ---- The stored form of a queue, and properties of each operation in it.

-- the largest number of queued operations
abbrev pub most_queued : ℕ
most_queued = 10000

-- the suffixes of operations
abbrev pub suffixes_of : List PlainOperation → List HashValue
suffixes_of operations = map suffix_of operations

-- no two operations have the same suffix
abbrev pub AreDifferent : List PlainOperation → Type 0
AreDifferent operations = has_twice same_hash (suffixes_of operations) ≡ false

-- the operations of entries
abbrev pub operations_of : List (HashValue × Operation) → List PlainOperation
operations_of entries = map (λ entry. plain_operation entry.1) entries

-- An operation's hashes satisfy the rules of hashes, its signed text is UTF-8, and its delta is a proper value. This
-- holds for each `Operation`.
pub record IsFormed (operation : PlainOperation) : Type 0 where
  pub hashes : HasHashes operation
  pub signed : IfSome (signed_text_in operation) IsUtf8
  pub delta : IfSome (delta_there operation) IsProper

-- It has the properties of each operation, and fitted the limits of some version, at which it was submitted.
pub record IsQueued (operation : PlainOperation) : Type 0 where
  pub formed : IsFormed operation
  pub limits : ParamsValue
  pub versioned : limits ≡ params_of limits.version
  pub fitted : Fits limits operation

-- each entry has the suffix of its operation, there are at most as many as may be queued, and each was accepted at
-- some limits
pub record IsStoredQueue (entries : List (HashValue × Operation)) : Type 0 where
  pub named : map (λ entry. entry.0) entries ≡ suffixes_of (operations_of entries)
  pub few : length entries ≤ most_queued
  pub queued : AllByRecursion IsQueued (operations_of entries)

-- ---- A queue after a request is submitted.

-- the refusal of a request without an operation
abbrev pub unasked : RequestRefused → SubmitRefused
unasked request.NotJson = NotJson
unasked request.NotWhole = NotWhole
unasked request.BadForm = BadForm
unasked request.BadHash = BadHash
unasked request.BadProof = BadProof
unasked request.WantOfMemory = WantOfMemory

-- the operation of a request in bytes, or why there is none
abbrev pub asked_for : ParamsValue → List ℕ → Result PlainOperation SubmitRefused
asked_for limits bytes = result_map_both (λ operation. operation) unasked (request_of limits bytes)

-- an operation for this suffix is queued
abbrev pub is_queued : HashValue → List PlainOperation → Bool
is_queued suffix queue = list_any (same_hash suffix) (suffixes_of queue)

-- the operation of a request in bytes, if its delta is right
abbrev pub asked_rightly : ParamsValue → List ℕ → Result PlainOperation SubmitRefused
asked_rightly limits bytes = do
  operation ← asked_for limits bytes
  holds_or (has_right_delta limits operation) BadDelta
  Ok operation

-- the suffix of an operation that may be queued: there is none for that suffix, and there is room for it
abbrev pub queueable_suffix : List PlainOperation → PlainOperation → Result HashValue SubmitRefused
queueable_suffix queue operation = do
  holds_or (not (is_queued (suffix_of operation) queue)) AlreadyQueued
  holds_or (nat_lt (length queue) most_queued) QueueFull
  Ok (suffix_of operation)

-- the queue with the operation at its end, and its suffix, if it may be queued
abbrev pub queued_with : List PlainOperation → PlainOperation → Result (List PlainOperation × HashValue) SubmitRefused
queued_with queue operation = do
  suffix ← queueable_suffix queue operation
  Ok (queue ++ operation ∷ [], suffix)

-- The queue after the bytes are submitted at these limits, with their operation at its end, and its suffix; or the
-- first reason to refuse them, in this order: there is no operation, its delta is not right, one for its suffix is
-- queued, the queue is full.
abbrev pub submitted : ParamsValue → List PlainOperation → List ℕ → Result (List PlainOperation × HashValue) SubmitRefused
submitted limits queue bytes = do
  operation ← asked_rightly limits bytes
  queued_with queue operation

-- the refusal of an error, if it is one; no definition mentions running out of memory
abbrev pub refusal_of : SubmitRefused → Option SubmitRefused
refusal_of WantOfMemory = None
refusal_of refusal = Some refusal

-- the new queue has one more operation at its end, which fits these limits
abbrev pub AddsFitting : ParamsValue → List PlainOperation → List PlainOperation → Type 0
AddsFitting limits old new = (operation : PlainOperation) × (new ≡ old ++ operation ∷ []) × Fits limits operation
