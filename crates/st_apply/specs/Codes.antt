-- What the resolution of an identifier uses, after DIF Sidetree v1.0.0, "Operation Compilation"; the rules are this
-- project's own: its operations, each at the limits of its height, and the state after them.
use Rattle.std.specs.Coded.{Coded, code_by, coded×, coded_list, coded_option, coded_ℕ}
use Rattle.std.specs.Prelude.{Bool, true, false, Option, ◌≡◌, ℕ, List, Some, None, refl, not, ◌&&◌, ◌||◌}
use Rattle.st_plain.specs.Plain.{Plain, coded_plain}
use Rattle.st_hash.specs.Hash.{HashValue}
use Rattle.st_doc.specs.Document.{PlainDocument}

-- parameters: whether a reveal value meets a commitment, and the document without entries
pub record Rules (Hash Document : Type 0) : Type 0 where
  pub meets : Hash → Hash → Bool
  pub empty : Document

-- the change of a delta that counts: its commitment to the next update, and the document after its patches, if none
-- of them fails
pub record Change (Hash Document : Type 0) : Type 0 where
  pub update : Hash
  pub patched : Document → Option Document

-- the start of a state by a create or a recover: a recovery commitment, and the change of its delta, if that counts
pub record Beginning (Hash Document : Type 0) : Type 0 where
  pub recovery : Hash
  pub change : Option (Change Hash Document)

-- an operation, by its kind
pub data Seen (Hash Document : Type 0) : Type 0 where
  -- a create: the state it starts
  creates : Beginning Hash Document → Seen Hash Document
  -- a recover that has a claim: its reveal value, and the state it starts
  recovers : Hash → Beginning Hash Document → Seen Hash Document
  -- a deactivate that has a claim: its reveal value
  deactivates : Hash → Seen Hash Document
  -- an update that has a claim: its reveal value, and the change of its delta, if that counts
  updates : Hash → Option (Change Hash Document) → Seen Hash Document
  -- a recover, a deactivate or an update that has no claim
  unclaimed : Seen Hash Document

-- the state of an identifier
pub data State (Hash Document : Type 0) : Type 0 where
  -- no create has acted
  absent : State Hash Document
  -- its recovery commitment, its update commitment if there is one, and its document
  active : Hash → Option Hash → Document → State Hash Document
  -- a deactivate has acted
  deactivated : State Hash Document

-- a create has acted, and no deactivate
abbrev pub is_active : {Hash Document : Type 0} → State Hash Document → Bool
is_active (active recovery update document) = true
is_active state = false

-- ---- How the logic stores a state. No statement about states depends on it.

abbrev hash_code : Coded HashValue
hash_code = code_by (ℕ × List ℕ) (coded× coded_ℕ (coded_list coded_ℕ)) (λ h. (h.code, h.digest)) (λ p. record { code = p.0; digest = p.1 }) (λ _. refl)

-- how a document is stored: by its fields
abbrev pub document_code : Coded PlainDocument
document_code =
    code_by (List Plain × (List Plain × List (List ℕ)))
    (coded× (coded_list coded_plain) (coded× (coded_list coded_plain) (coded_list (coded_list coded_ℕ))))
    (λ d. (d.keys, (d.services, d.names)))
    (λ p. record { keys = p.0; services = p.1.0; names = p.1.1 })
    (λ _. refl)

abbrev Parts : Type 0
Parts = Option (Option (HashValue × (Option HashValue × PlainDocument)))

abbrev parts_of : State HashValue PlainDocument → Parts
parts_of absent = None
parts_of (active recovery update document) = Some (Some (recovery, (update, document)))
parts_of deactivated = Some None

abbrev state_of : Parts → State HashValue PlainDocument
state_of None = absent
state_of (Some None) = deactivated
state_of (Some (Some parts)) = active parts.0 parts.1.0 parts.1.1

pub state_back : (state : State HashValue PlainDocument) → state_of (parts_of state) ≡ state
state_back absent = refl
state_back (active recovery update document) = refl
state_back deactivated = refl

-- how a state is stored: by its parts, if any
abbrev pub state_code : Coded (State HashValue PlainDocument)
state_code =
    code_by Parts
    (coded_option (coded_option (coded× hash_code (coded× (coded_option hash_code) document_code))))
    parts_of state_of state_back

-- ---- Which operations act on which state, after DIF Sidetree v1.0.0, "Operation Compilation"; the rules are this
-- project's own. Steps and searches use the same tests.

module _ {Hash Document : Type 0} where
  -- it is a create
  abbrev pub is_create : Seen Hash Document → Bool
  is_create (creates beginning) = true
  is_create other = false

  -- it is an update whose delta does not count
  abbrev pub has_bad_delta : Seen Hash Document → Bool
  has_bad_delta (updates reveal None) = true
  has_bad_delta other = false

module _ {Hash Document : Type 0} (rules : Rules Hash Document) where
  -- it is a recover or a deactivate that has a claim, and whose reveal value meets the commitment
  abbrev pub is_full_for : Hash → Seen Hash Document → Bool
  is_full_for commitment (recovers reveal beginning) = rules.meets reveal commitment
  is_full_for commitment (deactivates reveal) = rules.meets reveal commitment
  is_full_for commitment other = false

  -- the reveal value meets the commitment, if there is one
  abbrev pub meets_any : Option Hash → Hash → Bool
  meets_any (Some commitment) reveal = rules.meets reveal commitment
  meets_any None reveal = false

  -- it is an update that has a claim, and whose reveal value meets the commitment, if there is one
  abbrev pub reveals_update : Option Hash → Seen Hash Document → Bool
  reveals_update commitment (updates reveal change) = meets_any commitment reveal
  reveals_update commitment other = false

  -- it is such an update, and its delta counts
  abbrev pub is_update_for : Hash → Seen Hash Document → Bool
  is_update_for commitment operation = reveals_update (Some commitment) operation && not (has_bad_delta operation)

  -- its reveal value meets the commitment of the state that its kind reveals
  abbrev pub reveals : State Hash Document → Seen Hash Document → Bool
  reveals (active recovery update document) operation = is_full_for recovery operation || reveals_update update operation
  reveals state operation = false

  -- It acts: before a create has acted, only a create; afterwards an operation that reveals its commitment, an update
  -- only if its delta counts; and after a deactivate nothing.
  abbrev pub acts : State Hash Document → Seen Hash Document → Bool
  acts absent operation = is_create operation
  acts state operation = reveals state operation && not (has_bad_delta operation)
