-- Everything known satisfies the rules by which its files were accepted: no suffix appears twice, and there are at
-- most as many operations as the declared count.
--     sound-known      what is known about an entry satisfies them
--     sound-core_in, sound-core_with      and so does each part read on the way
use Rattle.std.proofs.Common.{◌≡◌, ℕ, suc, ◌+◌, ◌≤◌, Bool, true, false, List, [], ◌∷◌, codes, length, map, Option, Some, None, option_map, refl, arith}
use Rattle.std.specs.Prelude.{◌&&◌, bytes_eq, if◌then◌else◌}
use Rattle.std.specs.List.{AllByRecursion, cons_option, filter_map}
use Rattle.std.proofs.lemmas.Bool.{and_parts, eqb-true, ltb-false}
use Rattle.std.proofs.lemmas.List.{length-map}
use Rattle.st_base.specs.Rules.{Table, first_failing}
use Rattle.st_base.proofs.ListLemmas.{none_fails, passes}
use Rattle.st_plain.specs.Plain.{Plain}
use Rattle.st_plain.specs.Shapes.{json_in}
use Rattle.st_content.specs.Files.{Files, file_at}
use Rattle.st_datafiles.specs.ProofFiles.{core_proofs_of, proofs_of, signed_in, signed_of, core_proof_rules, first_failing_core_proof_rule, first_failing_provisional_proof_rule, has_proofs, proof_rule_name, provisional_proof_rules}
use Rattle.st_datafiles.specs.declared.proof_files.ProofRule.TheVariants.{Q4}
use Rattle.st_datafiles.specs.declared.role.Role.{Role}
use Rattle.st_datafiles.specs.declared.role.Role.TheVariants.{Core, CoreProof, Provisional, ProvisionalProof, Chunk}
use Rattle.st_hash.specs.Hash.{HashValue}
use Rattle.st_indexfiles.specs.CoreIndex.{core_index_of, operations_of, core_rule_name, core_rules, first_failing_core_rule, operation_count, create_of, target_of}
use Rattle.st_indexfiles.specs.ProvisionalIndex.{chunk_in, provisional_with as provisional_of, updates_in, core_count, first_failing_provisional_rule, provisional_rule_name, provisional_rules, update_count}
use Rattle.st_indexfiles.specs.declared.core_index.CoreIndex.{CoreIndex}
use Rattle.st_indexfiles.specs.declared.core_index.CoreRule.TheVariants.{C6, C7}
use Rattle.st_indexfiles.specs.declared.provisional_index.ProvisionalIndex.{ProvisionalIndex}
use Rattle.st_indexfiles.specs.declared.provisional_index.ProvisionalRule.{ProvisionalRule}
use Rattle.st_indexfiles.specs.declared.provisional_index.ProvisionalRule.TheVariants.{P6, P7}
use Rattle.st_ledger.specs.Ledger.{anchor_of, anchor_rules}
use Rattle.st_ledger.specs.declared.anchor.Anchor.{Anchor}
use Rattle.st_ledger.specs.declared.anchor.AnchorRule.{AnchorRule}
use Rattle.st_params.specs.ParamsValue.{ParamsValue}
use Rattle.st_anchor.specs.BoundValue.{BoundValue, anchor_judged, as_it_is, core_branch, core_in, core_over, core_proof_in, core_with, filled, judged, known, known_from, known_of_text, looked_at, looked_below, looked_up, named, provisional_branch, provisional_in, provisional_judged, provisional_over, provisional_proof_in, provisional_with}
use Rattle.st_anchor.specs.SignedTexts.{opened_of, proof_of}
use Rattle.st_anchor.specs.States.{AreCoreProofs, AreProofs, Holds, IsSound, IsSoundCore, IsSoundProvisional, core_proof_count}
use Rattle.st_anchor.specs.declared.branches.Context.{Context}
use Rattle.st_anchor.specs.declared.branches.CoreBranch.{CoreBranch}
use Rattle.st_anchor.specs.declared.branches.ProvisionalBranch.{ProvisionalBranch}
use Rattle.st_anchor.specs.declared.part.Part.{Part}
use Rattle.st_anchor.specs.declared.part.Part.TheVariants.{Unneeded, Missing, Rejected, Is}
use Rattle.st_anchor.specs.declared.part.Rule.{Rule}
use Rattle.st_anchor.specs.declared.part.Rule.TheVariants as fails

-- ---- a rule by its name

-- whether a rule fails in a table: the first row of its name
abbrev pub fails_rule : {Rule : Type 0} → (Rule → List ℕ) → Rule → Table Rule → Bool
fails_rule name rule [] = false
fails_rule name rule (row ∷ rows) = if bytes_eq (name row.0) (name rule) then row.1 else fails_rule name rule rows

either_passes : (here first later : Bool) → first ≡ false → later ≡ false → (if here then first else later) ≡ false
either_passes true first later passes_first passes_later = passes_first
either_passes false first later passes_first passes_later = passes_later

named_passes : {Rule : Type 0} (name : Rule → List ℕ) (rule : Rule) (rules : Table Rule) → AllByRecursion (λ row. row.1 ≡ false) rules
    → fails_rule name rule rules ≡ false
named_passes name rule [] passed = refl
named_passes name rule (row ∷ rows) passed =
    either_passes (bytes_eq (name row.0) (name rule)) row.1 (fails_rule name rule rows) passed.0 (named_passes name rule rows passed.1)

-- in a table without a failing rule, each rule passes
pub passes_rule : {Rule : Type 0} (name : Rule → List ℕ) (rules : Table Rule) → first_failing rules ≡ None → (rule : Rule)
    → fails_rule name rule rules ≡ false
passes_rule name rules none rule = named_passes name rule rules (none_fails rules none)

-- ---- properties of the content of a file, if it was read

module _ {Says : Type 0} (P : Says → Type 0) where
  holds-below : (below : Says → Says) (part : Part Says) → ((says : Says) → P says → P (below says)) → Holds P part → Holds P (looked_below below part)
  holds-below below Unneeded kept holds = tt
  holds-below below (Missing uri) kept holds = tt
  holds-below below (Rejected rule) kept holds = tt
  holds-below below (Is says) kept holds = kept says holds

  -- a lookup keeps it, if each file that is read has it
  pub holds-up : (read : List ℕ → Part Says) (below : Says → Says) (files : Files) (part : Part Says)
      → ((bytes : List ℕ) → Holds P (read bytes)) → ((says : Says) → P says → P (below says))
      → Holds P part → Holds P (looked_up read below files part)
  holds-up read below files Unneeded reads kept holds = tt
  holds-up read below files (Missing uri) reads kept holds =
      elim (file_at uri files) as (λ file. Holds P (looked_at read below uri file)) [
        | None ↦ tt
        | Some bytes ↦ holds-below below (read bytes) kept (reads bytes)
      ]
  holds-up read below files (Rejected rule) reads kept holds = tt
  holds-up read below files (Is says) reads kept holds = kept says holds

  holds-judged : {Failing : Type 0} (rule_of : Failing → Rule) (failing : Option Failing) (says : Says) → (failing ≡ None → P says)
      → Holds P (judged rule_of failing says)
  holds-judged rule_of None says sound = sound refl
  holds-judged rule_of (Some failing) says sound = tt

  holds-named : (uri : Option HashValue) → Holds P (named uri)
  holds-named None = tt
  holds-named (Some uri) = tt

-- ---- properties of accepted files

length-cons_option : {Read : Type 0} (first : Option Read) (rest : List Read) → length (cons_option first rest) ≤ suc (length rest)
length-cons_option None rest = omega arith
length-cons_option (Some found) rest = omega arith

length-filter_map : {Item Read : Type 0} (read : Item → Option Read) (items : List Item) → length (filter_map read items) ≤ length items
length-filter_map read [] = omega arith
length-filter_map read (item ∷ items) =
    omega (arith, length-cons_option (read item) (filter_map read items), length-filter_map read items)

core_count-read : (version : ℕ) (index : Option Plain) → core_count (core_index_of version index) ≤ operation_count index
unfolding core_index_of operation_count
core_count-read version index =
    omega (
      arith,
      length-filter_map (create_of version) (operations_of (codes "create") index),
      length-filter_map (target_of version) (operations_of (codes "recover") index),
      length-filter_map (target_of version) (operations_of (codes "deactivate") index),
    )

update_count-read : (version : ℕ) (index : Option Plain) → length (updates_in version index) ≤ update_count index
unfolding updates_in update_count
update_count-read version index = length-filter_map (target_of version) (operations_of (codes "update") index)

signed-read : (kind : List ℕ) (file : Option Plain) → length (signed_of kind file) ≤ length (proofs_of kind file)
unfolding signed_of
signed-read kind file = length-filter_map signed_in (proofs_of kind file)

wanted-proofs : (kind : List ℕ) (wanted : ℕ) (file : Option Plain) → has_proofs kind wanted file ≡ true → length (signed_of kind file) ≤ wanted
unfolding has_proofs
wanted-proofs kind wanted file has = omega (arith, signed-read kind file, eqb-true (length (proofs_of kind file)) wanted has)

sound-core_accepted : (context : Context) (bytes : List ℕ) → first_failing_core_rule context.params context.count bytes ≡ None
    → IsSoundCore context (core_branch (core_index_of context.params.version (json_in bytes)))
unfolding core_index_of
sound-core_accepted context bytes none =
    let passed = passes_rule core_rule_name (core_rules context.params context.count bytes) none in
    let few : operation_count (json_in bytes) ≤ context.count = ltb-false context.count (operation_count (json_in bytes)) (passed C6) in
    record {
      once = passed C7;
      few = omega (arith, core_count-read context.params.version (json_in bytes));
      proofs = holds-named _ _;
      provisional = holds-named _ _;
    }

pub sound-core_in : (context : Context) (bytes : List ℕ) → Holds (IsSoundCore context) (core_in context bytes)
unfolding core_in
sound-core_in context bytes =
    holds-judged (IsSoundCore context) fails.Core (first_failing_core_rule context.params context.count bytes) _ (sound-core_accepted context bytes)

few-core_accepted : (context : Context) (core : CoreIndex) (bytes : List ℕ)
    → first_failing_core_proof_rule context.params (length core.recovers) (length core.deactivates) bytes ≡ None
    → core_proof_count (opened_of context.params.max_signed (core_proofs_of (json_in bytes))) ≤ length core.recovers + length core.deactivates
few-core_accepted context core bytes none =
    let passed = passes_rule proof_rule_name (core_proof_rules context.params (length core.recovers) (length core.deactivates) bytes) none in
    let recovers = has_proofs (codes "recover") (length core.recovers) (json_in bytes) in
    let deactivates = has_proofs (codes "deactivate") (length core.deactivates) (json_in bytes) in
    let both = and_parts recovers deactivates (passes (recovers && deactivates) (passed Q4)) in
    omega (
      arith,
      wanted-proofs (codes "recover") (length core.recovers) (json_in bytes) both.0,
      wanted-proofs (codes "deactivate") (length core.deactivates) (json_in bytes) both.1,
      length-map (signed_of (codes "recover") (json_in bytes)) (proof_of context.params.max_signed),
      length-map (signed_of (codes "deactivate") (json_in bytes)) (proof_of context.params.max_signed),
    )

few-core_proof_in : (context : Context) (core : CoreIndex) (bytes : List ℕ)
    → Holds (AreCoreProofs core) (core_proof_in context core bytes)
unfolding core_proof_in
few-core_proof_in context core bytes =
    holds-judged (AreCoreProofs core) fails.Proofs
    (first_failing_core_proof_rule context.params (length core.recovers) (length core.deactivates) bytes) _ (few-core_accepted context core bytes)

few-provisional_accepted : (context : Context) (provisional : ProvisionalIndex) (bytes : List ℕ)
    → first_failing_provisional_proof_rule context.params (length provisional.updates) bytes ≡ None
    → length (map (proof_of context.params.max_signed) (signed_of (codes "update") (json_in bytes))) ≤ length provisional.updates
few-provisional_accepted context provisional bytes none =
    let passed = passes_rule proof_rule_name (provisional_proof_rules context.params (length provisional.updates) bytes) none in
    omega (
      arith,
      wanted-proofs (codes "update") (length provisional.updates) (json_in bytes) (passes (has_proofs (codes "update") (length provisional.updates) (json_in bytes)) (passed Q4)),
      length-map (signed_of (codes "update") (json_in bytes)) (proof_of context.params.max_signed),
    )

few-provisional_proof_in : (context : Context) (provisional : ProvisionalIndex) (bytes : List ℕ)
    → Holds (AreProofs (length provisional.updates)) (provisional_proof_in context provisional bytes)
unfolding provisional_proof_in
few-provisional_proof_in context provisional bytes =
    holds-judged (AreProofs (length provisional.updates)) fails.Proofs
    (first_failing_provisional_proof_rule context.params (length provisional.updates) bytes) _ (few-provisional_accepted context provisional bytes)

sound-provisional_accepted : (context : Context) (core : CoreIndex) (bytes : List ℕ) (chunk : HashValue)
    → first_failing_provisional_rule context.params context.count core bytes ≡ None
    → IsSoundProvisional context core (provisional_branch (provisional_of context.params.version (json_in bytes) chunk))
unfolding provisional_of
sound-provisional_accepted context core bytes chunk none =
    let passed = passes_rule provisional_rule_name (provisional_rules context.params context.count core bytes) none in
    let few : core_count core + update_count (json_in bytes) ≤ context.count =
    ltb-false context.count (core_count core + update_count (json_in bytes)) (passed P7) in
    record {
      apart = passed P6;
      few = omega (arith, update_count-read context.params.version (json_in bytes));
      proofs = holds-named _ _;
    }

sound-provisional_judged : (context : Context) (core : CoreIndex) (bytes : List ℕ) (failing : Option ProvisionalRule) (chunk : Option HashValue)
    → (failing ≡ None → first_failing_provisional_rule context.params context.count core bytes ≡ None)
    → Holds (IsSoundProvisional context core)
    (provisional_judged failing (option_map (provisional_of context.params.version (json_in bytes)) chunk))
sound-provisional_judged context core bytes (Some failing) chunk none = tt
sound-provisional_judged context core bytes None None none = tt
sound-provisional_judged context core bytes None (Some chunk) none = sound-provisional_accepted context core bytes chunk (none refl)

sound-provisional_in : (context : Context) (core : CoreIndex) (bytes : List ℕ) → Holds (IsSoundProvisional context core) (provisional_in context core bytes)
unfolding provisional_in
sound-provisional_in context core bytes =
    sound-provisional_judged context core bytes (first_failing_provisional_rule context.params context.count core bytes)
    (chunk_in (json_in bytes)) (λ none. none)

-- ---- everything known has them

sound-provisional_over : (context : Context) (core : CoreIndex) (files : Files) (branch : ProvisionalBranch)
    → IsSoundProvisional context core branch → IsSoundProvisional context core (provisional_over context core files branch)
sound-provisional_over context core files branch sound = record {
  apart = sound.apart;
  few = sound.few;
  proofs = holds-up (AreProofs (length branch.says.updates)) (provisional_proof_in context branch.says) as_it_is files branch.proofs
      (few-provisional_proof_in context branch.says) (λ says few. few) sound.proofs;
}

sound-core_over : (context : Context) (files : Files) (branch : CoreBranch) → IsSoundCore context branch → IsSoundCore context (core_over context files branch)
sound-core_over context files branch sound = record {
  once = sound.once;
  few = sound.few;
  proofs = holds-up (AreCoreProofs branch.says)
      (core_proof_in context branch.says) as_it_is files branch.proofs (few-core_proof_in context branch.says) (λ says few. few) sound.proofs;
  provisional = holds-up (IsSoundProvisional context branch.says) (provisional_in context branch.says) (provisional_over context branch.says files) files
      branch.provisional (sound-provisional_in context branch.says) (sound-provisional_over context branch.says files) sound.provisional;
}

sound-from : (files : Files) (bound : BoundValue) → IsSound bound → IsSound (known_from files bound)
unfolding known_from
sound-from files bound sound =
    holds-up (IsSoundCore bound.context) (core_in bound.context) (core_over bound.context files) files bound.core
    (sound-core_in bound.context) (sound-core_over bound.context files) sound

sound-judged : (limits : ParamsValue) (failing : Option AnchorRule) (says : Option Anchor) → IsSound (anchor_judged limits failing says)
sound-judged limits (Some failing) says = tt
sound-judged limits None (Some anchor) = tt
sound-judged limits None None = tt

pub sound-known : (files : Files) (limits : ParamsValue) (text : List ℕ) → IsSound (known files limits text)
unfolding known known_of_text
sound-known files limits text =
    sound-from files (known_of_text limits text) (sound-judged limits (first_failing (anchor_rules limits text)) (anchor_of limits text))

-- ---- also after one more file is read

holds-filled : {Says : Type 0} (P : Says → Type 0) (read : List ℕ → Part Says) (bytes : List ℕ) (part : Part Says)
    → Holds P (read bytes) → Holds P part → Holds P (filled read bytes part)
holds-filled P read bytes Unneeded reads holds = tt
holds-filled P read bytes (Missing uri) reads holds = reads
holds-filled P read bytes (Rejected rule) reads holds = tt
holds-filled P read bytes (Is says) reads holds = holds

sound-provisional_with : (role : Role) (context : Context) (core : CoreIndex) (bytes : List ℕ) (branch : ProvisionalBranch)
    → IsSoundProvisional context core branch → IsSoundProvisional context core (provisional_with role context core bytes branch)
sound-provisional_with Core context core bytes branch sound = sound
sound-provisional_with CoreProof context core bytes branch sound = sound
sound-provisional_with Provisional context core bytes branch sound = sound
sound-provisional_with ProvisionalProof context core bytes branch sound = record {
  apart = sound.apart;
  few = sound.few;
  proofs = holds-filled (AreProofs (length branch.says.updates)) (provisional_proof_in context branch.says) bytes branch.proofs
      (few-provisional_proof_in context branch.says bytes) sound.proofs;
}
sound-provisional_with Chunk context core bytes branch sound = record { apart = sound.apart; few = sound.few; proofs = sound.proofs }

sound-below : (role : Role) (context : Context) (core : CoreIndex) (bytes : List ℕ) (part : Part ProvisionalBranch)
    → Holds (IsSoundProvisional context core) part → Holds (IsSoundProvisional context core) (looked_below (provisional_with role context core bytes) part)
sound-below role context core bytes part sound =
    holds-below (IsSoundProvisional context core) (provisional_with role context core bytes) part (sound-provisional_with role context core bytes) sound

pub sound-core_with : (role : Role) (context : Context) (bytes : List ℕ) (branch : CoreBranch)
    → IsSoundCore context branch → IsSoundCore context (core_with role context bytes branch)
sound-core_with Core context bytes branch sound = sound
sound-core_with CoreProof context bytes branch sound = record {
  once = sound.once;
  few = sound.few;
  proofs = holds-filled (AreCoreProofs branch.says) (core_proof_in context branch.says) bytes branch.proofs (few-core_proof_in context branch.says bytes) sound.proofs;
  provisional = sound.provisional;
}
sound-core_with Provisional context bytes branch sound = record {
  once = sound.once;
  few = sound.few;
  proofs = sound.proofs;
  provisional = holds-filled (IsSoundProvisional context branch.says) (provisional_in context branch.says) bytes branch.provisional
      (sound-provisional_in context branch.says bytes) sound.provisional;
}
sound-core_with ProvisionalProof context bytes branch sound = record {
  once = sound.once;
  few = sound.few;
  proofs = sound.proofs;
  provisional = sound-below ProvisionalProof context branch.says bytes branch.provisional sound.provisional;
}
sound-core_with Chunk context bytes branch sound = record {
  once = sound.once;
  few = sound.few;
  proofs = sound.proofs;
  provisional = sound-below Chunk context branch.says bytes branch.provisional sound.provisional;
}
