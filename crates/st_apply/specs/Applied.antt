-- One step of resolution: the state after an operation, after DIF Sidetree v1.0.0, "Operation Compilation"; the rules
-- are this project's own.
use Rattle.std.specs.Option.{option_map_or}
use Rattle.std.specs.Prelude.{List, fold, Option, Some, option_map, unwrap_or, if◌then◌else◌, IsTrue, is_some, Bool}
use Rattle.std.specs.Result.{result_ok}
use Rattle.st_base.specs.Options.{◌>>=◌, ◌>>◌}
use Rattle.st_plain.specs.Plain.{canonical, Plain}
use Rattle.st_hash.specs.Hash.{HashValue, hash_of_with, same_hash}
use Rattle.st_params.specs.ParamsValue.{ParamsValue}
use Rattle.st_doc.specs.Delta.{PlainDelta, delta_of}
use Rattle.st_doc.specs.Document.{PlainDocument, empty_document}
use Rattle.st_doc.specs.Patched.{patched}
use Rattle.st_ops.specs.Claim.{claim_of}
use Rattle.st_ops.specs.Operation.{PlainOperation, creating, updating, recovering, deactivating}
use Rattle.st_ops.specs.declared.claim.Claim.{Claim}
use Rattle.st_ops.specs.declared.claim.Claim.TheVariants.{Update, Recover, Deactivate}
use Rattle.st_apply.specs.Codes.{acts, Rules, Change, Beginning, Seen, creates, recovers, deactivates, updates, State, active, deactivated, unclaimed}

-- the document after the patches of a delta, or unchanged if one of them fails
abbrev pub changed : {Hash Document : Type 0} → Document → Change Hash Document → Document
changed document change = unwrap_or (change.patched document) document

-- the update commitment after a create or a recover: that of its delta, if that counts
abbrev pub begun_update : {Hash Document : Type 0} → Option (Change Hash Document) → Option Hash
begun_update change = option_map (λ counts. counts.update) change

module _ {Hash Document : Type 0} (rules : Rules Hash Document) where
  -- the document after it: the empty one with the changes of its delta, if that counts
  abbrev pub begun_document : Option (Change Hash Document) → Document
  begun_document change = option_map_or (changed rules.empty) change rules.empty

  -- the state after it
  abbrev pub begun : Beginning Hash Document → State Hash Document
  begun beginning = active beginning.recovery (begun_update beginning.change) (begun_document beginning.change)

  -- the state after an operation that acts: a create and a recover start a new one, a deactivate ends it, and an
  -- update changes it by its delta
  abbrev pub left_by : State Hash Document → Seen Hash Document → State Hash Document
  left_by state (creates beginning) = begun beginning
  left_by state (recovers reveal beginning) = begun beginning
  left_by state (deactivates reveal) = deactivated
  left_by (active recovery update document) (updates reveal (Some change)) =
      active recovery (Some change.update) (changed document change)
  left_by state other = state

  -- The state after an operation. One that does not act leaves it unchanged.
  abbrev pub step : State Hash Document → Seen Hash Document → State Hash Document
  step state operation = if acts rules state operation then left_by state operation else state

  -- the state after one step for each item, from the first on
  abbrev pub folded_steps : {Item : Type 0} → (Item → Seen Hash Document) → State Hash Document → List Item → State Hash Document
  folded_steps seen state items = fold (λ state item. step state (seen item)) state items

-- ---- Deltas that count, and their changes, after DIF Sidetree v1.0.0, "Operation Compilation"; the rules are this
-- project's own.

-- The delta that counts for a delta hash at these limits: it is present, the hash of its canonical text, by the
-- algorithm of the delta hash, is that delta hash, and it is a delta.
abbrev pub counted : ParamsValue → HashValue → Option Plain → Option PlainDelta
counted limits delta_hash there = do
  delta ← there
  same_hash (hash_of_with delta_hash.code (canonical delta)) delta_hash
  result_ok (delta_of limits delta)

-- The delta counts for this delta hash.
abbrev pub DeltaCounts : ParamsValue → HashValue → Option Plain → Type 0
DeltaCounts limits delta_hash there = IsTrue (is_some (counted limits delta_hash there))

-- its change: its update commitment, and the document after all its patches
abbrev pub change_by : ParamsValue → PlainDelta → Change HashValue PlainDocument
change_by limits delta =
    record { update = delta.update; patched = λ document. result_ok (patched limits 0 delta.patches document) }

-- the change of a delta, if it counts
abbrev pub counted_change : ParamsValue → HashValue → Option Plain → Option (Change HashValue PlainDocument)
counted_change limits delta_hash there = option_map (change_by limits) (counted limits delta_hash there)

-- ---- The view of an operation that resolution has at the limits of its height, and the state after it.

-- the commitment is the hash of the digest of the reveal value, by the reveal value's algorithm (after DIF Sidetree
-- v1.0.0, "Public Key Commitment Scheme")
abbrev pub reveal_meets : HashValue → HashValue → Bool
reveal_meets reveal commitment = same_hash (hash_of_with reveal.code reveal.digest) commitment

-- the rules by which hashes meet, and the document of a new identifier
abbrev pub sidetree : Rules HashValue PlainDocument
sidetree = record { meets = reveal_meets; empty = empty_document }

-- the result of a create or a recover, by its recovery commitment, its delta hash, and its delta
abbrev pub beginning_at : ParamsValue → HashValue → HashValue → Option Plain → Beginning HashValue PlainDocument
beginning_at limits recovery delta_hash delta =
    record { recovery = recovery; change = counted_change limits delta_hash delta }

-- the view of an operation with this claim, if it has one
abbrev pub seen_as : ParamsValue → PlainOperation → Option Claim → Seen HashValue PlainDocument
seen_as limits (creating suffix_data delta) claim =
    creates (beginning_at limits suffix_data.recovery_commitment suffix_data.delta_hash delta)
seen_as limits (updating target proof delta) (Some (Update delta_hash)) =
    updates target.reveal (counted_change limits delta_hash delta)
seen_as limits (recovering target proof delta) (Some (Recover recovery_commitment delta_hash)) =
    recovers target.reveal (beginning_at limits recovery_commitment delta_hash delta)
seen_as limits (deactivating target proof) (Some Deactivate) = deactivates target.reveal
seen_as limits operation claim = unclaimed

-- The view of an operation at these limits.
abbrev pub seen_at : ParamsValue → PlainOperation → Seen HashValue PlainDocument
seen_at limits operation = seen_as limits operation (claim_of limits operation)

-- The state after an operation at these limits.
unfoldable pub applied : ParamsValue → State HashValue PlainDocument → PlainOperation → State HashValue PlainDocument
applied limits state operation = step sidetree state (seen_at limits operation)
