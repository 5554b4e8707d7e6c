-- The forms of requests, after DIF Sidetree v1.0.0, "DID Operations"; the rules are this project's own: the members
-- of a request of each kind, and their values. `None` is a missing value.
use Rattle.std.specs.Option.{ok_or}
use Rattle.std.specs.Prelude.{Bool, ◌&&◌, [], ◌∷◌, codes, is_some, Option, ℕ, List, if◌then◌else◌, IsSome, Some, None, Result, Ok, Err, ◌≡◌, ◌≤◌, ◌++◌, IfSome, option_map}
use Rattle.std.specs.Result.{result_map_both}
use Rattle.st_base.specs.Answers.{◌>>=◌, ◌>>◌, holds_or}
use Rattle.st_plain.specs.Plain.{canonical, Plain, text}
use Rattle.st_plain.specs.Measures.{depth_of}
use Rattle.st_plain.specs.Names.{is_name}
use Rattle.st_plain.specs.Objects.{object_of_some}
use Rattle.st_plain.specs.Shapes.{json_of, is_object_of, member_in, object_at, text_at}
use Rattle.st_plain.specs.declared.respelling.ReadRefused.{ReadRefused}
use Rattle.st_plain.specs.declared.respelling.ReadRefused.TheVariants as reading
use Rattle.st_params.specs.ParamsValue.{ParamsValue}
use Rattle.st_indexfiles.specs.CoreIndex.{hash_json, suffix_data_of, suffix_data_json}
use Rattle.st_indexfiles.specs.declared.entries.Target.{Target}
use Rattle.st_ops.specs.Claim.{claim_of, proof_in, target_in}
use Rattle.st_ops.specs.Operation.{PlainOperation, creating, updating, recovering, deactivating, Proof}
use Rattle.st_ops.specs.declared.request.RequestRefused.{RequestRefused}
use Rattle.st_ops.specs.declared.request.RequestRefused.TheVariants.{NotJson, NotWhole, BadForm, BadHash, BadProof, WantOfMemory}

-- an object with exactly two texts, `deltaHash` and `recoveryCommitment`
unfoldable pub is_suffix_data_form : Option Plain → Bool
is_suffix_data_form there =
    is_object_of (codes "deltaHash" ∷ codes "recoveryCommitment" ∷ []) there
    && (is_some (text_at (codes "deltaHash") there) && is_some (text_at (codes "recoveryCommitment") there))

-- the texts of a signed operation
unfoldable pub has_signed_texts : Option Plain → Bool
has_signed_texts request =
    is_some (text_at (codes "didSuffix") request)
    && (is_some (text_at (codes "revealValue") request) && is_some (text_at (codes "signedData") request))

-- of a create: exactly `type`, `suffixData` and `delta`, which is an object
unfoldable pub is_create_form : Option Plain → Bool
is_create_form request =
    is_object_of (codes "type" ∷ codes "suffixData" ∷ codes "delta" ∷ []) request
    && (is_suffix_data_form (member_in (codes "suffixData") request) && is_some (object_at (codes "delta") request))

-- of an update or a recover: exactly `type`, the three texts and `delta`, which is an object
unfoldable pub is_change_form : Option Plain → Bool
is_change_form request =
    is_object_of (codes "type" ∷ codes "didSuffix" ∷ codes "revealValue" ∷ codes "signedData" ∷ codes "delta" ∷ []) request
    && (has_signed_texts request && is_some (object_at (codes "delta") request))

-- of a deactivate: exactly `type` and the three texts
unfoldable pub is_deactivate_form : Option Plain → Bool
is_deactivate_form request =
    is_object_of (codes "type" ∷ codes "didSuffix" ∷ codes "revealValue" ∷ codes "signedData" ∷ []) request
    && has_signed_texts request

-- ---- The operations of requests, after DIF Sidetree v1.0.0, "Create", "Update", "Recover" and "Deactivate" of "DID
-- Operations"; the rules are this project's own. `None` is a missing value.

-- ---- by kind: first its form, then its hash texts, then its signed text

-- the operation, if it has a claim
unfoldable pub with_claim : ParamsValue → PlainOperation → Result PlainOperation RequestRefused
with_claim limits operation = do
  claim ← ok_or (claim_of limits operation) BadProof
  Ok operation

-- the create of this suffix data and this delta
abbrev pub create_of : ParamsValue → Option Plain → Option Plain → Result PlainOperation RequestRefused
create_of limits suffix_data delta = do
  hashes ← ok_or (suffix_data_of limits.version suffix_data) BadHash
  Ok (creating hashes delta)

-- the create of a request (after DIF Sidetree v1.0.0, "Create")
abbrev pub create_asked : ParamsValue → Option Plain → Result PlainOperation RequestRefused
create_asked limits request = do
  holds_or (is_create_form request) BadForm
  create_of limits (member_in (codes "suffixData") request) (member_in (codes "delta") request)

-- the update of a request ("Update")
abbrev pub update_asked : ParamsValue → Option Plain → Result PlainOperation RequestRefused
update_asked limits request = do
  holds_or (is_change_form request) BadForm
  target ← ok_or (target_in limits.version request) BadHash
  proof ← ok_or (proof_in limits.max_signed request) BadProof
  with_claim limits (updating target (Some proof) (member_in (codes "delta") request))

-- the recover of a request ("Recover")
abbrev pub recover_asked : ParamsValue → Option Plain → Result PlainOperation RequestRefused
recover_asked limits request = do
  holds_or (is_change_form request) BadForm
  target ← ok_or (target_in limits.version request) BadHash
  proof ← ok_or (proof_in limits.max_signed request) BadProof
  with_claim limits (recovering target (Some proof) (member_in (codes "delta") request))

-- the deactivate of a request ("Deactivate")
abbrev pub deactivate_asked : ParamsValue → Option Plain → Result PlainOperation RequestRefused
deactivate_asked limits request = do
  holds_or (is_deactivate_form request) BadForm
  target ← ok_or (target_in limits.version request) BadHash
  proof ← ok_or (proof_in limits.max_signed request) BadProof
  with_claim limits (deactivating target (Some proof))

-- ---- by `type`

-- the operation of a request of this type
abbrev pub asked_by_type : List ℕ → ParamsValue → Option Plain → Result PlainOperation RequestRefused
asked_by_type type limits request =
    if is_name type (codes "create") then create_asked limits request else
    if is_name type (codes "update") then update_asked limits request else
    if is_name type (codes "recover") then recover_asked limits request else
    if is_name type (codes "deactivate") then deactivate_asked limits request else
    Err BadForm

-- the operation of a request as a JSON value
unfoldable pub asked : ParamsValue → Plain → Result PlainOperation RequestRefused
asked limits request = do
  type ← ok_or (text_at (codes "type") (Some request)) BadForm
  asked_by_type type limits (Some request)

-- ---- from bytes

-- the refusal of a request whose bytes are not JSON with whole numbers
abbrev pub unread : ReadRefused → RequestRefused
unread reading.NotJson = NotJson
unread reading.NotWhole = NotWhole
unread reading.WantOfMemory = WantOfMemory

-- the JSON with whole numbers of bytes, or why they are not
abbrev pub request_json_of : List ℕ → Result Plain RequestRefused
request_json_of bytes = result_map_both (λ json. json) unread (json_of bytes)

-- The operation of a request in bytes at these limits, or the first of these that refuses it: NotJson, NotWhole,
-- BadForm, BadHash, BadProof.
abbrev pub request_of : ParamsValue → List ℕ → Result PlainOperation RequestRefused
request_of limits bytes = do
  request ← request_json_of bytes
  asked limits request

-- the refusal of an error, if it is one
abbrev pub refusal_of : RequestRefused → Option RequestRefused
refusal_of WantOfMemory = None
refusal_of refusal = Some refusal

-- ---- what each request has

-- the proof and the delta are there, if the kind has them
abbrev pub IsComplete : PlainOperation → Type 0
IsComplete (creating suffix_data delta) = IsSome delta
IsComplete (updating target proof delta) = IsSome proof × IsSome delta
IsComplete (recovering target proof delta) = IsSome proof × IsSome delta
IsComplete (deactivating target proof) = IsSome proof

-- ---- The canonical texts of requests, and that they are read again.

-- the signed text of a proof
abbrev pub proof_json : Proof → Plain
proof_json proof = text proof.text

-- its type, and the target of a signed operation
abbrev pub named_members : List ℕ → Target → List (List ℕ × Option Plain)
named_members type target =
    (codes "type", Some (text type))
    ∷ (codes "didSuffix", Some (hash_json target.suffix))
    ∷ (codes "revealValue", Some (hash_json target.reveal)) ∷ []

-- the request of this type for a signed operation
abbrev pub signed_json : List ℕ → Target → Option Proof → Option Plain → Plain
signed_json type target proof delta = object_of_some
    (named_members type target ++ (codes "signedData", option_map proof_json proof) ∷ (codes "delta", delta) ∷ [])

-- The request for an operation: its type, what it names, and its proof and its delta, if any (after DIF Sidetree
-- v1.0.0, "DID Operations").
abbrev pub request_json : PlainOperation → Plain
request_json (creating suffix_data delta) = object_of_some
    ((codes "type", Some (text (codes "create")))
    ∷ (codes "suffixData", Some (suffix_data_json suffix_data))
    ∷ (codes "delta", delta) ∷ [])
request_json (updating target proof delta) = signed_json (codes "update") target proof delta
request_json (recovering target proof delta) = signed_json (codes "recover") target proof delta
request_json (deactivating target proof) = signed_json (codes "deactivate") target proof None

-- its canonical text
abbrev pub request_text : PlainOperation → List ℕ
request_text operation = canonical (request_json operation)

-- ---- read again

-- its text is a request for this operation at these limits
abbrev pub IsReadAgain : ParamsValue → PlainOperation → Type 0
IsReadAgain limits operation = request_of limits (request_text operation) ≡ Ok operation

-- the delta, if there is one
abbrev pub delta_there : PlainOperation → Option Plain
delta_there (creating suffix_data delta) = delta
delta_there (updating target proof delta) = delta
delta_there (recovering target proof delta) = delta
delta_there (deactivating target proof) = None

-- the delta nests at most this deep
abbrev pub IsDeltaWithin : ℕ → PlainOperation → Type 0
IsDeltaWithin most operation = IfSome (delta_there operation) (λ delta. depth_of delta ≤ most)
