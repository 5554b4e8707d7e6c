-- Properties of a delta that counts: its depth and its length; and so of the right delta of an operation.
use Rattle.std.proofs.Common.{◌≡◌, ◌≤◌, Bool, true, false, if◌then◌else◌, Option, Some, None, arith, ℕ, option_and_then, refl}
use Rattle.std.specs.Prelude.{is_some, IfSome, IsSome}
use Rattle.std.specs.Result.{result_ok}
use Rattle.std.specs.Str.{IsUtf8}
use Rattle.st_plain.proofs.ReadableLemmas.{IsReadable}
use Rattle.st_plain.specs.Plain.{canonical, Plain, IsProper}
use Rattle.st_plain.specs.Measures.{depth_of, size_of}
use Rattle.st_hash.specs.Hash.{HashValue, hash_of_with, same_hash}
use Rattle.st_params.specs.ParamsValue.{ParamsValue}
use Rattle.st_doc.proofs.DeltaLemmas.{delta_depth, delta_size}
use Rattle.st_doc.specs.Delta.{delta_of}
use Rattle.st_indexfiles.specs.declared.entries.Target.{Target}
use Rattle.st_ops.proofs.AcceptedLemmas.{IsAccepted}
use Rattle.st_ops.proofs.AgainLemmas.{accepted}
use Rattle.st_ops.specs.Claim.{claim_of, deactivate_claim, revealed}
use Rattle.st_ops.specs.Operation.{PlainOperation, creating, updating, recovering, deactivating, Proof}
use Rattle.st_ops.specs.Request.{IsDeltaWithin, delta_there, request_text}
use Rattle.st_ops.specs.declared.claim.Claim.{Claim}
use Rattle.st_ops.specs.declared.claim.Claim.TheVariants.{Update, Recover, Deactivate}
use Rattle.st_apply.specs.Applied.{counted}
use Rattle.st_batch.specs.Queue.{delta_counts, has_right_delta, Fits, IsFormed}
use Rattle.st_batch.specs.Groups.{signed_text_in}
use Rattle.st_batch.specs.Laws.{SaysAll}

-- ---- a delta that counts nests at most 64 deep

tested : {Said : Type 0} (test : Bool) (said : Option Said) → is_some (if test then said else None) ≡ true → is_some said ≡ true
tested true said some = some
tested false said some = absurd cc

pub counted_depth : (limits : ParamsValue) (delta_hash : HashValue) (there : Option Plain) → is_some (counted limits delta_hash there) ≡ true
    → IfSome there (λ delta. depth_of delta ≤ 64)
counted_depth limits delta_hash None some = tt
counted_depth limits delta_hash (Some delta) some = delta_depth limits delta
    (tested (same_hash (hash_of_with delta_hash.code (canonical delta)) delta_hash) (result_ok (delta_of limits delta)) some)

-- ---- and is at most as long as a delta may be

pub counted_size : (limits : ParamsValue) (delta_hash : HashValue) (there : Option Plain) → is_some (counted limits delta_hash there) ≡ true
    → IfSome there (λ delta. size_of delta ≤ limits.max_delta)
counted_size limits delta_hash None some = tt
counted_size limits delta_hash (Some delta) some = delta_size limits delta
    (tested (same_hash (hash_of_with delta_hash.code (canonical delta)) delta_hash) (result_ok (delta_of limits delta)) some)

-- ---- the right delta of an operation

-- a property of each delta that counts is one of the right delta of an operation
module _ (limits : ParamsValue) (P : Plain → Type 0)
    (holds : (delta_hash : HashValue) (there : Option Plain) → is_some (counted limits delta_hash there) ≡ true → IfSome there P) where
  counts_holds : (operation : PlainOperation) (claim : Option Claim) → delta_counts limits operation claim ≡ true → IfSome (delta_there operation) P
  counts_holds (creating suffix_data delta) claim counts = holds suffix_data.delta_hash delta counts
  counts_holds (updating target proof delta) None counts = absurd cc
  counts_holds (updating target proof delta) (Some (Update delta_hash)) counts = holds delta_hash delta counts
  counts_holds (updating target proof delta) (Some (Recover commitment delta_hash)) counts = absurd cc
  counts_holds (updating target proof delta) (Some Deactivate) counts = absurd cc
  counts_holds (recovering target proof delta) None counts = absurd cc
  counts_holds (recovering target proof delta) (Some (Update delta_hash)) counts = absurd cc
  counts_holds (recovering target proof delta) (Some (Recover commitment delta_hash)) counts = holds delta_hash delta counts
  counts_holds (recovering target proof delta) (Some Deactivate) counts = absurd cc
  counts_holds (deactivating target proof) claim counts = tt

  pub right_holds : (operation : PlainOperation) → has_right_delta limits operation ≡ true → IfSome (delta_there operation) P
  unfolding has_right_delta
  right_holds operation right = counts_holds operation (claim_of limits operation) right

-- it does not nest too deep for the text of the operation to be read again
pub right_within : (limits : ParamsValue) (operation : PlainOperation) → has_right_delta limits operation ≡ true → IsDeltaWithin 125 operation
right_within limits operation right = shallow (delta_there operation) (right_holds limits (λ delta. depth_of delta ≤ 64) (counted_depth limits) operation right)
  where
    shallow : (there : Option Plain) → IfSome there (λ delta. depth_of delta ≤ 64) → IfSome there (λ delta. depth_of delta ≤ 125)
    shallow None within = tt
    shallow (Some delta) within = omega (arith, within)

-- ---- Properties of an operation that fits limits: those by which its parts are read again, and that it is complete.

-- an operation of which all parts are read again at these limits
pub record IsReady (limits : ParamsValue) (operation : PlainOperation) : Type 0 where
  pub accepted : IsAccepted limits operation
  pub signed : IfSome (signed_text_in operation) IsUtf8
  pub delta : IfSome (delta_there operation) (IsReadable 64)

-- ---- an operation that fits is ready

both_there : {Item : Type 0} (there : Option Item) (P Q : Item → Type 0) → IfSome there P → IfSome there Q → IfSome there (λ item. P item × Q item)
both_there None P Q first second = tt
both_there (Some item) P Q first second = (first, second)

pub ready : (limits : ParamsValue) (operation : PlainOperation) → Fits limits operation → IsFormed operation → IsReady limits operation
ready limits operation fits form = record {
  accepted = accepted limits (request_text operation) operation fits.request form.hashes;
  signed = form.signed;
  delta = both_there (delta_there operation) IsProper (λ delta. depth_of delta ≤ 64) form.delta
      (right_holds limits (λ delta. depth_of delta ≤ 64) (counted_depth limits) operation fits.delta);
}

-- ---- its completeness

-- if a step can give only this claim
claims_only : {Item : Type 0} (there : Option Item) (step : Item → Option Claim) (claim : Claim)
    → ((item : Item) → IsSome (step item) → step item ≡ Some claim) → IsSome (option_and_then step there) → option_and_then step there ≡ Some claim
claims_only None step claim only some = absurd cc
claims_only (Some item) step claim only some = only item some

tested_only : (test : Bool) (said : Option Claim) (claim : Claim) → (IsSome said → said ≡ Some claim)
    → IsSome (if test then said else None) → (if test then said else None) ≡ Some claim
tested_only true said claim only some = only some
tested_only false said claim only some = absurd cc

deactivates_only : (version : ℕ) (suffix : HashValue) (payload : Plain) → IsSome (deactivate_claim version suffix payload)
    → deactivate_claim version suffix payload ≡ Some Deactivate
deactivates_only version suffix payload some =
    tested_only _ _ Deactivate (claims_only _ _ Deactivate (λ named. tested_only (same_hash named suffix) (Some Deactivate) Deactivate (λ _. refl))) some

deactivate_says : (limits : ParamsValue) (target : Target) (proof : Option Proof) → IsSome (claim_of limits (deactivating target proof))
    → claim_of limits (deactivating target proof) ≡ Some Deactivate
deactivate_says limits target proof some = claims_only (revealed target.reveal proof) _ Deactivate (deactivates_only limits.version target.suffix) some

update_says : (limits : ParamsValue) (target : Target) (proof : Option Proof) (delta : Option Plain) (claim : Option Claim)
    → claim_of limits (updating target proof delta) ≡ claim → delta_counts limits (updating target proof delta) claim ≡ true
    → SaysAll limits (updating target proof delta)
update_says limits target proof delta None is counts = absurd cc
update_says limits target proof delta (Some (Update delta_hash)) is counts = (delta_hash, is, counts)
update_says limits target proof delta (Some (Recover commitment delta_hash)) is counts = absurd cc
update_says limits target proof delta (Some Deactivate) is counts = absurd cc

recover_says : (limits : ParamsValue) (target : Target) (proof : Option Proof) (delta : Option Plain) (claim : Option Claim)
    → claim_of limits (recovering target proof delta) ≡ claim → delta_counts limits (recovering target proof delta) claim ≡ true
    → SaysAll limits (recovering target proof delta)
recover_says limits target proof delta None is counts = absurd cc
recover_says limits target proof delta (Some (Update delta_hash)) is counts = absurd cc
recover_says limits target proof delta (Some (Recover commitment delta_hash)) is counts = (commitment, delta_hash, is, counts)
recover_says limits target proof delta (Some Deactivate) is counts = absurd cc

-- an operation that fits is complete
pub says_all : (limits : ParamsValue) (operation : PlainOperation) → Fits limits operation → IsReady limits operation → SaysAll limits operation
unfolding has_right_delta
says_all limits (creating suffix_data delta) fits right = fits.delta
says_all limits (updating target proof delta) fits right = update_says limits target proof delta (claim_of limits (updating target proof delta)) refl fits.delta
says_all limits (recovering target proof delta) fits right = recover_says limits target proof delta
    (claim_of limits (recovering target proof delta)) refl fits.delta
says_all limits (deactivating target proof) fits right = deactivate_says limits target proof right.accepted.claims
