-- The effect of a step, by the tests of the walks of resolution.
use Rattle.std.proofs.Common.{◌≡◌, refl, arith, true, false, ℕ, ◌-◌, ◌<◌, ◌^◌, min, Bool, if◌then◌else◌, Result, Err, ap}
use Rattle.std.proofs.lemmas.Bool.Decides.{nat_tests}
use Rattle.std.specs.Option.{option_map_or}
use Rattle.std.specs.Prelude.{Option, Some, None}
use Rattle.std.specs.Result.{result_ok}
use Rattle.st_plain.specs.Plain.{canonical, Plain}
use Rattle.st_plain.specs.Measures.{size_of}
use Rattle.st_hash.specs.Hash.{HashValue, hash_of_with, same_hash}
use Rattle.st_params.specs.ParamsValue.{ParamsValue}
use Rattle.st_doc.proofs.DeltaLemmas.{long_refused}
use Rattle.st_doc.specs.Delta.{PlainDelta, delta_of}
use Rattle.st_doc.specs.declared.delta.DeltaRefused.{DeltaRefused}
use Rattle.st_doc.specs.declared.delta.DeltaRefused.TheVariants.{TooLong}
use Rattle.st_apply.specs.Codes.{acts, is_create, is_full_for, is_update_for, Rules, Change, Seen, creates, recovers, deactivates, updates, unclaimed, State, absent, active, deactivated}
use Rattle.st_apply.specs.Applied.{counted, changed, begun, step}
use Rattle.st_apply.specs.Resolution.{beginning_of, change_of}

module _ {Hash Document : Type 0} (rules : Rules Hash Document) where
  -- an operation that does not act leaves the state
  pub leaves_it : (state : State Hash Document) (operation : Seen Hash Document)
      → acts rules state operation ≡ false → step rules state operation ≡ state
  leaves_it state operation is = rw is refl

  -- a create acts on an absent state
  pub create_acts : (operation : Seen Hash Document) → is_create operation ≡ true
      → option_map_or (begun rules) (beginning_of operation) deactivated ≡ step rules absent operation
  create_acts (creates beginning) is = refl
  create_acts (recovers reveal beginning) is = absurd (cc)
  create_acts (deactivates reveal) is = absurd (cc)
  create_acts (updates reveal change) is = absurd (cc)
  create_acts unclaimed is = absurd (cc)

  -- an operation for the recovery commitment starts a new state, or is a deactivate
  pub full_acts : (recovery : Hash) (update : Option Hash) (document : Document) (operation : Seen Hash Document)
      → is_full_for rules recovery operation ≡ true
      → option_map_or (begun rules) (beginning_of operation) deactivated ≡ step rules (active recovery update document) operation
  full_acts recovery update document (creates beginning) is = absurd (cc)
  full_acts recovery update document (recovers reveal beginning) is = rw is refl
  full_acts recovery update document (deactivates reveal) is = rw is refl
  full_acts recovery update document (updates reveal change) is = absurd (cc)
  full_acts recovery update document unclaimed is = absurd (cc)

  -- another leaves the state unchanged, if there is no update commitment,
  pub none_acts : (recovery : Hash) (document : Document) (operation : Seen Hash Document)
      → is_full_for rules recovery operation ≡ false
      → active recovery None document ≡ step rules (active recovery None document) operation
  none_acts recovery document (creates beginning) is = refl
  none_acts recovery document (recovers reveal beginning) is = rw is refl
  none_acts recovery document (deactivates reveal) is = rw is refl
  none_acts recovery document (updates reveal change) is = refl
  none_acts recovery document unclaimed is = refl

  -- or if it is not an update for that commitment
  pub other_leaves : (recovery commitment : Hash) (document : Document) (operation : Seen Hash Document)
      → is_full_for rules recovery operation ≡ false → is_update_for rules commitment operation ≡ false
      → active recovery (Some commitment) document ≡ step rules (active recovery (Some commitment) document) operation
  other_leaves recovery commitment document operation is fails = rw (is, fails) refl

  -- an update for it has a delta that counts, and its result is that change
  pub record Updates (recovery commitment : Hash) (document : Document) (operation : Seen Hash Document) : Type 0 where
    pub change : Change Hash Document
    pub is : change_of operation ≡ Some change
    pub leaves : active recovery (Some change.update) (changed document change) ≡ step rules (active recovery (Some commitment) document) operation

  pub update_acts : (recovery commitment : Hash) (document : Document) (operation : Seen Hash Document)
      → is_update_for rules commitment operation ≡ true → Updates recovery commitment document operation
  update_acts recovery commitment document (creates beginning) is = absurd (cc)
  update_acts recovery commitment document (recovers reveal beginning) is = absurd (cc)
  update_acts recovery commitment document (deactivates reveal) is = absurd (cc)
  update_acts recovery commitment document (updates reveal None) is = absurd (grind arith)
  update_acts recovery commitment document (updates reveal (Some change)) is =
      let meets : rules.meets reveal commitment ≡ true = grind arith in
      record { change = change; is = refl; leaves = rw meets refl }
  update_acts recovery commitment document unclaimed is = absurd (cc)

-- ---- A delta that is too long does not count.

-- a refusal gives nothing, with any other test
refused : (same : Bool) (said : Result PlainDelta DeltaRefused) → said ≡ Err TooLong → (if same then result_ok said else None) ≡ None
refused true said is = ap result_ok is
refused false said is = refl

-- its size, as far as it is counted, is above the bound
pub long_counts_not : (limits : ParamsValue) (delta_hash : HashValue) (delta : Plain) (size : ℕ)
    → size ≡ min (size_of delta) (2 ^ 64 - 1) → limits.max_delta < size → counted limits delta_hash (Some delta) ≡ None
long_counts_not limits delta_hash delta size is more =
    let long : limits.max_delta < size_of delta = grind (arith, nat_tests) in
    refused (same_hash (hash_of_with delta_hash.code (canonical delta)) delta_hash) (delta_of limits delta) (long_refused limits delta long)
