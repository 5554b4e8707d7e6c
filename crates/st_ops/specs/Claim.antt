-- The claims of operations, after DIF Sidetree v1.0.0, "Update", "Recover" and "Deactivate", which describe the
-- signed data; the rules are this project's own.
use Rattle.std.specs.Prelude.{ℕ, Bool, ◌&&◌, List, [], ◌∷◌, codes, is_some, Option, Some, None}
use Rattle.std.specs.Result.{result_ok}
use Rattle.st_base.specs.Options.{◌>>=◌, ◌>>◌}
use Rattle.st_plain.specs.Plain.{Plain}
use Rattle.st_plain.specs.Shapes.{is_object_of, member_in, text_at}
use Rattle.st_hash.specs.Hash.{HashValue, same_hash}
use Rattle.st_params.specs.ParamsValue.{ParamsValue}
use Rattle.st_jws.specs.Jwk.{reveal_of_with}
use Rattle.st_jws.specs.Signing.{opened}
use Rattle.st_jws.specs.declared.jwk.Jwk.{Jwk}
use Rattle.st_indexfiles.specs.CoreIndex.{hash_in}
use Rattle.st_indexfiles.specs.declared.entries.Target.{Target}
use Rattle.st_ops.specs.Operation.{Proof, PlainOperation, creating, updating, recovering, deactivating}
use Rattle.st_ops.specs.declared.claim.Claim.{Claim}
use Rattle.st_ops.specs.declared.claim.Claim.TheVariants.{Update, Recover, Deactivate}

-- the key's reveal value, by the algorithm of this one, is this one
abbrev pub is_revealed : HashValue → Jwk → Bool
is_revealed reveal key = same_hash (reveal_of_with reveal.code key) reveal

-- an object with the key of this name, and no members except that and these
abbrev pub is_payload_of : List ℕ → List (List ℕ) → Plain → Bool
is_payload_of key others payload = is_object_of (key ∷ others) (Some payload) && is_some (member_in key (Some payload))

-- exactly `updateKey` and `deltaHash`, a hash text of the version
abbrev pub update_claim : ℕ → Plain → Option Claim
update_claim version payload = do
  is_payload_of (codes "updateKey") (codes "deltaHash" ∷ []) payload
  delta_hash ← hash_in version (member_in (codes "deltaHash") (Some payload))
  Some (Update delta_hash)

-- exactly `recoveryKey`, `recoveryCommitment` and `deltaHash`, hash texts of the version
abbrev pub recover_claim : ℕ → Plain → Option Claim
recover_claim version payload = do
  is_payload_of (codes "recoveryKey") (codes "recoveryCommitment" ∷ codes "deltaHash" ∷ []) payload
  recovery_commitment ← hash_in version (member_in (codes "recoveryCommitment") (Some payload))
  delta_hash ← hash_in version (member_in (codes "deltaHash") (Some payload))
  Some (Recover recovery_commitment delta_hash)

-- exactly `recoveryKey` and `didSuffix`, the hash text of this suffix
abbrev pub deactivate_claim : ℕ → HashValue → Plain → Option Claim
deactivate_claim version suffix payload = do
  is_payload_of (codes "recoveryKey") (codes "didSuffix" ∷ []) payload
  named ← hash_in version (member_in (codes "didSuffix") (Some payload))
  same_hash named suffix
  Some Deactivate

-- the payload of a proof whose key has this reveal value
abbrev pub revealed : HashValue → Option Proof → Option Plain
revealed reveal proof = do
  found ← proof
  is_revealed reveal found.key
  Some found.payload

-- the claim of the payload, if there is a proof whose key has the reveal value of the target
abbrev pub claim_under : Target → Option Proof → (Plain → Option Claim) → Option Claim
claim_under target proof claimed = do
  payload ← revealed target.reveal proof
  claimed payload

-- The claim of an operation at these limits. A create has none.
abbrev pub claim_of : ParamsValue → PlainOperation → Option Claim
claim_of limits (creating suffix_data delta) = None
claim_of limits (updating target proof delta) = claim_under target proof (update_claim limits.version)
claim_of limits (recovering target proof delta) = claim_under target proof (recover_claim limits.version)
claim_of limits (deactivating target proof) = claim_under target proof (deactivate_claim limits.version target.suffix)

-- ---- The target and the proof of a signed request, besides its delta. `None` is a missing value.

-- the target in the two hash texts of the version of a request
unfoldable pub target_in : ℕ → Option Plain → Option Target
target_in version request = do
  suffix ← hash_in version (member_in (codes "didSuffix") request)
  reveal ← hash_in version (member_in (codes "revealValue") request)
  Some (record { suffix = suffix; reveal = reveal })

-- the proof of a signed text of at most this many bytes, if it can be opened
unfoldable pub proof_of : ℕ → List ℕ → Option Proof
proof_of limit text = do
  opening ← result_ok (opened text limit)
  Some (record { text = text; payload = opening.payload; key = opening.key })

-- the proof of a request, from its signed text
unfoldable pub proof_in : ℕ → Option Plain → Option Proof
proof_in limit request = do
  text ← text_at (codes "signedData") request
  proof_of limit text
