-- Operations, after DIF Sidetree v1.0.0, "DID Operations", over plain values.
use Rattle.std.specs.Coded.{Coded, code_by, coded×}
use Rattle.std.specs.Prelude.{ℕ, List, Option, option_map, refl, ◌≡◌, ◌⊎◌, Result, Ok, Err}
use Rattle.st_base.specs.Work.{WorkValue, one_proof}
use Rattle.st_plain.specs.Plain.{Plain, coded_bytes, coded_plain}
use Rattle.st_hash.specs.Hash.{HashValue, IsHash}
use Rattle.st_jws.specs.contracts.jwk.Jwk as jwk
use Rattle.st_jws.specs.declared.jwk.Jwk.{Jwk}
use Rattle.st_jws.specs.declared.signed.Signed.{Signed}
use Rattle.st_indexfiles.specs.CoreIndex.{suffix_of as suffix_of_data}
use Rattle.st_indexfiles.specs.declared.suffix_data.SuffixData.{SuffixData}
use Rattle.st_indexfiles.specs.declared.entries.Target.{Target}
use Rattle.st_ops.specs.declared.operation.Operation.{Operation}
use Rattle.st_ops.specs.declared.operation.Operation.TheVariants.{Create, Update, Recover, Deactivate}
use Rattle.st_ops.specs.declared.request.RequestRefused.{RequestRefused}
use Rattle.st_ops.specs.declared.request.RequestRefused.TheVariants.{BadProof, WantOfMemory}

-- a signed text that was opened: the text, its payload, and the key in that
pub record Proof : Type 0 where
  pub text : List ℕ
  pub payload : Plain
  pub key : Jwk

-- an operation: a create has suffix data, any other a target, which is its suffix and its reveal value, and a proof
-- if its signed text could be opened; a delta, if one is known
pub data PlainOperation : Type 0 where
  creating : SuffixData → Option Plain → PlainOperation
  updating : Target → Option Proof → Option Plain → PlainOperation
  recovering : Target → Option Proof → Option Plain → PlainOperation
  deactivating : Target → Option Proof → PlainOperation

-- the proof of a `Signed`
abbrev pub plain_proof : Signed → Proof
plain_proof signed = record { text = signed.text; payload = signed.payload; key = signed.key }

-- the plain operation of an `Operation`
abbrev pub plain_operation : Operation → PlainOperation
plain_operation (Create suffix_data delta) = creating suffix_data delta
plain_operation (Update suffix reveal proof delta) =
    updating (record { suffix = suffix; reveal = reveal }) (option_map plain_proof proof) delta
plain_operation (Recover suffix reveal proof delta) =
    recovering (record { suffix = suffix; reveal = reveal }) (option_map plain_proof proof) delta
plain_operation (Deactivate suffix reveal proof) =
    deactivating (record { suffix = suffix; reveal = reveal }) (option_map plain_proof proof)

-- the suffix of its identifier
abbrev pub suffix_of : PlainOperation → HashValue
suffix_of (creating suffix_data delta) = suffix_of_data suffix_data
suffix_of (updating target proof delta) = target.suffix
suffix_of (recovering target proof delta) = target.suffix
suffix_of (deactivating target proof) = target.suffix

-- ---- How the logic stores proofs: by their fields.

-- a proof as the triple of its fields
abbrev pub coded_proof : Coded Proof
coded_proof =
    code_by (List ℕ × (Plain × Jwk)) (coded× coded_bytes (coded× coded_plain jwk.the_row.coded))
    (λ proof. (proof.text, (proof.payload, proof.key)))
    (λ fields. record { text = fields.0; payload = fields.1.0; key = fields.1.1 })
    (λ _. refl)

-- ---- The hashes of operations satisfy the rules of hashes.

-- each hash that the operation names is of one of the two algorithms
abbrev pub HasHashes : PlainOperation → Type 0
HasHashes (creating suffix_data delta) = IsHash suffix_data.delta_hash × IsHash suffix_data.recovery_commitment
HasHashes (updating target proof delta) = IsHash target.suffix × IsHash target.reveal
HasHashes (recovering target proof delta) = IsHash target.suffix × IsHash target.reveal
HasHashes (deactivating target proof) = IsHash target.suffix × IsHash target.reveal

-- ---- The counts of reading a request.

-- One signed text was opened, if reading got that far; else nothing was counted. If memory ran out, either is
-- possible.
abbrev pub CountsOpening : Result Operation RequestRefused → WorkValue → WorkValue → Type 0
CountsOpening (Ok (Create suffix_data delta)) old new = new ≡ old
CountsOpening (Ok signed) old new = new ≡ one_proof old
CountsOpening (Err BadProof) old new = new ≡ one_proof old
CountsOpening (Err WantOfMemory) old new = (new ≡ old) ⊎ (new ≡ one_proof old)
CountsOpening (Err refusal) old new = new ≡ old
