-- The suffixes of an entry's operations, from what is known about it.
use Rattle.std.proofs.Common.{◌≡◌, ◌∙◌, List, [], ◌∷◌, ◌++◌, drop, length, map, Option, option_and_then, refl, ap}
use Rattle.std.specs.Prelude.{slice_get}
use Rattle.std.proofs.lemmas.List.{map-append}
use Rattle.st_plain.specs.Plain.{Plain}
use Rattle.st_hash.specs.Hash.{HashValue}
use Rattle.st_indexfiles.specs.ProvisionalIndex.{suffixes_in}
use Rattle.st_indexfiles.specs.CoreIndex.{suffix_of as suffix_of_data}
use Rattle.st_indexfiles.specs.declared.core_index.CoreIndex.{CoreIndex}
use Rattle.st_indexfiles.specs.declared.provisional_index.ProvisionalIndex.{ProvisionalIndex}
use Rattle.st_indexfiles.specs.declared.suffix_data.SuffixData.{SuffixData}
use Rattle.st_indexfiles.specs.declared.entries.Target.{Target}
use Rattle.st_ops.specs.Operation.{PlainOperation, Proof, recovering, suffix_of, updating}
use Rattle.st_anchor.specs.Gives.{creates_given, deactivates_given, deactivating_only, deltas_below, given, operations_below, operations_of, recovers_given, signed_given, suffixes_given, updates_below, updates_given, with_suffix}
use Rattle.st_anchor.specs.BoundValue.{BoundValue}
use Rattle.st_anchor.specs.declared.branches.CoreBranch.{CoreBranch}
use Rattle.st_anchor.specs.declared.branches.OpenedCore.{OpenedCore}
use Rattle.st_anchor.specs.declared.branches.ProvisionalBranch.{ProvisionalBranch}
use Rattle.st_anchor.specs.declared.part.Part.{Part}
use Rattle.st_anchor.specs.declared.part.Part.TheVariants.{Unneeded, Missing, Rejected, Is}

abbrev pub suffixes : List PlainOperation → List HashValue
suffixes operations = map suffix_of operations

suffixes-creates : (creates : List SuffixData) (deltas : List Plain) → suffixes (creates_given creates deltas) ≡ map suffix_of_data creates
suffixes-creates [] deltas = refl
suffixes-creates (create ∷ creates) deltas = ap (λ rest. suffix_of_data create ∷ rest) (suffixes-creates creates (drop 1 deltas))

suffixes-signed : (make : Target → Option Proof → Option Plain → PlainOperation)
    → ((target : Target) (proof : Option Proof) (delta : Option Plain) → suffix_of (make target proof delta) ≡ target.suffix)
    → (targets : List Target) (proofs : List (Option Proof)) (deltas : List Plain)
    → suffixes (signed_given make targets proofs deltas) ≡ map (λ target. target.suffix) targets
suffixes-signed make own [] proofs deltas = refl
suffixes-signed make own (target ∷ targets) proofs deltas = λ i.
    own target (option_and_then (λ proof. proof) (slice_get proofs 0)) (slice_get deltas 0) i
    ∷ suffixes-signed make own targets (drop 1 proofs) (drop 1 deltas) i

-- those of a part that was read, or none
abbrev pub where_read : {Says : Type 0} → Part Says → List HashValue → List HashValue
where_read (Is says) those = those
where_read other those = []

suffixes-recovers : (core : CoreIndex) (deltas : List Plain) (part : Part OpenedCore)
    → suffixes (recovers_given core deltas part) ≡ where_read part (map (λ target. target.suffix) core.recovers)
suffixes-recovers core deltas Unneeded = refl
suffixes-recovers core deltas (Missing uri) = refl
suffixes-recovers core deltas (Rejected rule) = refl
suffixes-recovers core deltas (Is proofs) = suffixes-signed recovering (λ target proof delta. refl) core.recovers proofs.recovers deltas

suffixes-deactivates : (core : CoreIndex) (part : Part OpenedCore)
    → suffixes (deactivates_given core part) ≡ where_read part (map (λ target. target.suffix) core.deactivates)
suffixes-deactivates core Unneeded = refl
suffixes-deactivates core (Missing uri) = refl
suffixes-deactivates core (Rejected rule) = refl
suffixes-deactivates core (Is proofs) = suffixes-signed deactivating_only (λ target proof delta. refl) core.deactivates proofs.deactivates []

suffixes-updates : (provisional : ProvisionalIndex) (deltas : List Plain) (part : Part (List (Option Proof)))
    → suffixes (updates_given provisional deltas part) ≡ where_read part (suffixes_in provisional.updates)
suffixes-updates provisional deltas Unneeded = refl
suffixes-updates provisional deltas (Missing uri) = refl
suffixes-updates provisional deltas (Rejected rule) = refl
suffixes-updates provisional deltas (Is proofs) = suffixes-signed updating (λ target proof delta. refl) provisional.updates proofs deltas

-- ---- all of them

-- the suffixes of a list of targets
abbrev pub targeted : List Target → List HashValue
targeted targets = map (λ target. target.suffix) targets

abbrev pub suffixes_updated : Part ProvisionalBranch → List HashValue
suffixes_updated (Is branch) = where_read branch.proofs (suffixes_in branch.says.updates)
suffixes_updated other = []

-- those of the operations of a core index and of the files below it
abbrev pub suffixes_below : CoreBranch → List HashValue
suffixes_below branch =
    map suffix_of_data branch.says.creates ++ where_read branch.proofs (targeted branch.says.recovers)
    ++ where_read branch.proofs (targeted branch.says.deactivates) ++ suffixes_updated branch.provisional

abbrev pub suffixes_known : Part CoreBranch → List HashValue
suffixes_known (Is branch) = suffixes_below branch
suffixes_known other = []

suffixes-updated : (deltas : List Plain) (part : Part ProvisionalBranch) → suffixes (updates_below deltas part) ≡ suffixes_updated part
suffixes-updated deltas Unneeded = refl
suffixes-updated deltas (Missing uri) = refl
suffixes-updated deltas (Rejected rule) = refl
suffixes-updated deltas (Is branch) = suffixes-updates branch.says deltas branch.proofs

-- those of all operations, one kind after another
suffixes-append : (creates recovers deactivates updates : List PlainOperation)
    → suffixes (creates ++ recovers ++ deactivates ++ updates) ≡ suffixes creates ++ suffixes recovers ++ suffixes deactivates ++ suffixes updates
suffixes-append creates recovers deactivates updates =
    map-append suffix_of (creates ++ recovers ++ deactivates) updates
    ∙ ap (λ front. front ++ suffixes updates) (map-append suffix_of (creates ++ recovers) deactivates)
    ∙ ap (λ front. front ++ suffixes deactivates ++ suffixes updates) (map-append suffix_of creates recovers)

suffixes-below : (branch : CoreBranch) → suffixes (operations_below branch) ≡ suffixes_below branch
suffixes-below branch =
    let deltas : List Plain = deltas_below branch.provisional in
    let of_recovers : List Plain = drop (length branch.says.creates) deltas in
    let of_updates : List Plain = drop (length branch.says.recovers) of_recovers in
    suffixes-append (creates_given branch.says.creates deltas) (recovers_given branch.says of_recovers branch.proofs) (deactivates_given branch.says branch.proofs)
    (updates_below of_updates branch.provisional)
    ∙ (λ i. suffixes-creates branch.says.creates deltas i ++ suffixes-recovers branch.says of_recovers branch.proofs i ++ suffixes-deactivates branch.says branch.proofs i
    ++ suffixes-updated of_updates branch.provisional i)

suffixes-known : (part : Part CoreBranch) → suffixes (operations_of part) ≡ suffixes_known part
suffixes-known Unneeded = refl
suffixes-known (Missing uri) = refl
suffixes-known (Rejected rule) = refl
suffixes-known (Is branch) = suffixes-below branch

own-suffixes : (operations : List PlainOperation) → suffixes_given (map with_suffix operations) ≡ suffixes operations
own-suffixes [] = refl
own-suffixes (operation ∷ operations) = ap (λ rest. suffix_of operation ∷ rest) (own-suffixes operations)

pub suffixes_given-given : (bound : BoundValue) → suffixes_given (given bound) ≡ suffixes_known bound.core
unfolding given
suffixes_given-given bound = own-suffixes (operations_of bound.core) ∙ suffixes-known bound.core
