-- An entry with the anchor string of ready operations by kind gives these operations, over every content
-- that has their files.
use Rattle.std.proofs.Common.{◌≡◌, ◌∙◌, ℕ, ◌<◌, ◌≤◌, ◌^◌, ◌++◌, List, [], ◌∷◌, append-nil, append_assoc, drop, length, map, Option, ◌⊎◌, inl, inr, refl, sym, ap, arith, ◌+◌, Bool, true, nat_le, filter}
use Rattle.std.proofs.lemmas.Bool.{and_parts, leb-true}
use Rattle.std.proofs.lemmas.List.{drop_at, length-append}
use Rattle.std.proofs.lemmas.List.Elements.{filter_map-append}
use Rattle.std.specs.List.{filter_map, AllByRecursion}
use Rattle.st_base.proofs.ListLemmas.{each-both, each-filter, each-passes}
use Rattle.st_plain.specs.Plain.{canonical, Plain}
use Rattle.st_hash.specs.Hash.{uri_of, HashValue}
use Rattle.st_params.specs.ParamsValue.{ParamsValue}
use Rattle.st_indexfiles.proofs.MemberLemmas.{uri_of_again}
use Rattle.st_indexfiles.specs.ProvisionalIndex.{provisional_json}
use Rattle.st_indexfiles.specs.declared.core_index.CoreIndex.{CoreIndex}
use Rattle.st_indexfiles.specs.declared.provisional_index.ProvisionalIndex.{ProvisionalIndex}
use Rattle.st_datafiles.specs.ProofFiles.{core_proof_json, provisional_proof_json}
use Rattle.st_datafiles.specs.declared.role.Role.TheVariants.{Core, CoreProof, Provisional, ProvisionalProof, Chunk}
use Rattle.st_ops.specs.Operation.{PlainOperation, Proof, recovering, updating, creating, deactivating}
use Rattle.st_ops.specs.Request.{delta_there}
use Rattle.st_content.specs.Files.{Files}
use Rattle.st_anchor.specs.BoundValue.{as_it_is, chunk_in, core_branch, core_in, core_over, core_proof_in, known, known_from, looked_at, looked_below, provisional_branch, provisional_in, provisional_over, provisional_proof_in}
use Rattle.st_anchor.specs.Gives.{creates_given, deactivates_given, deactivating_only, deltas_below, deltas_read, given, gives, operations_below, operations_of, recovers_given, signed_given, updates_below, updates_given, with_suffix}
use Rattle.st_anchor.specs.SignedTexts.{opened_of}
use Rattle.st_anchor.specs.declared.branches.Context.{Context}
use Rattle.st_anchor.specs.declared.branches.CoreBranch.{CoreBranch}
use Rattle.st_anchor.specs.declared.branches.OpenedCore.{OpenedCore}
use Rattle.st_anchor.specs.declared.branches.ProvisionalBranch.{ProvisionalBranch}
use Rattle.st_anchor.specs.declared.part.Part.{Part}
use Rattle.st_anchor.specs.declared.part.Part.TheVariants.{Is}
use Rattle.st_batch.proofs.KnownBatchLemmas.{anchor_known, none_known, AreReadyGroups, FilesAreThere, IsThere, chunk_is, core_is, core_proof_is, core_proofs, looked_named, part_of, provisional_is, provisional_proof_is, there_for, files_there}
use Rattle.st_batch.proofs.GivenDifferentLemmas.{grouped_times, once}
use Rattle.st_batch.proofs.GivenOperationsLemmas.{IsOfKind, as_many, create_data, creates_back, deactivates_back, delta_kept, opened, recovers_back, target_there, updates_back, AreOfKind}
use Rattle.st_batch.proofs.ReadBackLemmas.{IsReady, ready, says_all}
use Rattle.st_batch.specs.Batch.{anchor_text, chunk_text, core_file, core_index, core_proof_file, if_any, provisional_file, provisional_index, provisional_proof_file, batch_with, are_files_small}
use Rattle.st_batch.specs.Laws.{AreBatched, FitAll, HasFiles, IsReadBack, SaysAll}
use Rattle.st_batch.specs.Queue.{Fits, AreDifferent, IsFormed, suffixes_of}
use Rattle.st_batch.specs.Groups.{Grouped, is_create, is_recover, listed, signed_text_in, suffix_data_in, target_in, with_core_proof, with_delta, grouped, in_order, is_deactivate, is_update}

-- ---- recovers and deactivates, by the core proof file

module _ (read : List ℕ → Part OpenedCore) (core : CoreIndex) (opening : OpenedCore) (said : List ℕ) where
  recovers_by : (recovers deactivates : List PlainOperation) (deltas : List Plain)
      → ((1 ≤ length recovers) ⊎ (1 ≤ length deactivates) → read said ≡ Is opening)
      → signed_given recovering core.recovers opening.recovers deltas ≡ recovers
      → recovers_given core deltas (part_of read as_it_is (if_any (recovers ++ deactivates) said)) ≡ recovers
  recovers_by [] [] deltas known back = refl
  recovers_by [] (operation ∷ operations) deltas known back =
      ap (λ part. recovers_given core deltas (looked_below as_it_is part)) (known (inr (omega arith))) ∙ back
  recovers_by (operation ∷ operations) deactivates deltas known back =
      ap (λ part. recovers_given core deltas (looked_below as_it_is part)) (known (inl (omega arith))) ∙ back

  deactivates_by : (recovers deactivates : List PlainOperation)
      → ((1 ≤ length recovers) ⊎ (1 ≤ length deactivates) → read said ≡ Is opening)
      → signed_given deactivating_only core.deactivates opening.deactivates [] ≡ deactivates
      → deactivates_given core (part_of read as_it_is (if_any (recovers ++ deactivates) said)) ≡ deactivates
  deactivates_by [] [] known back = refl
  deactivates_by [] (operation ∷ operations) known back =
      ap (λ part. deactivates_given core (looked_below as_it_is part)) (known (inr (omega arith))) ∙ back
  deactivates_by (operation ∷ operations) deactivates known back =
      ap (λ part. deactivates_given core (looked_below as_it_is part)) (known (inl (omega arith))) ∙ back

-- ---- updates and deltas, by the files below

updates_by : (read : List ℕ → Part (List (Option Proof))) (provisional : ProvisionalIndex) (proofs : List (Option Proof)) (said : List ℕ)
    → (updates : List PlainOperation) (deltas : List Plain) → (1 ≤ length updates → read said ≡ Is proofs)
    → signed_given updating provisional.updates proofs deltas ≡ updates
    → updates_given provisional deltas (part_of read as_it_is (if_any updates said)) ≡ updates
updates_by read provisional proofs said [] deltas known back = refl
updates_by read provisional proofs said (operation ∷ operations) deltas known back =
    ap (λ part. updates_given provisional deltas (looked_below as_it_is part)) (known (omega arith)) ∙ back

module _ (read : List ℕ → Part ProvisionalBranch) (over : ProvisionalBranch → ProvisionalBranch) (said : List ℕ) where
  deltas_by : (operations : List PlainOperation)
      → (1 ≤ length operations → deltas_below (looked_below over (read said)) ≡ filter_map delta_there operations)
      → deltas_below (part_of read over (if_any operations said)) ≡ filter_map delta_there operations
  deltas_by [] known = refl
  deltas_by (operation ∷ operations) known = known (omega arith)

  updates_below_by : (operations updates : List PlainOperation) (deltas : List Plain) → length updates ≤ length operations
      → (1 ≤ length operations → updates_below deltas (looked_below over (read said)) ≡ updates)
      → updates_below deltas (part_of read over (if_any operations said)) ≡ updates
  updates_below_by [] [] deltas within known = refl
  updates_below_by [] (update ∷ updates) deltas within known = absurd (omega arith)
  updates_below_by (operation ∷ operations) updates deltas within known = known (omega arith)

-- ---- all of them

module _ (limits : ParamsValue) (count : ℕ) (groups : Grouped) (are : AreReadyGroups limits count groups) where
  abbrev context : Context
  context = record { count = count; params = limits }

  abbrev create_deltas : List Plain
  create_deltas = filter_map delta_there groups.creates

  abbrev recover_deltas : List Plain
  recover_deltas = filter_map delta_there groups.recovers

  abbrev update_deltas : List Plain
  update_deltas = filter_map delta_there groups.updates

  -- the deltas of each kind are one after another
  deltas_split : filter_map delta_there (with_delta groups) ≡ create_deltas ++ (recover_deltas ++ update_deltas)
  deltas_split =
      filter_map-append delta_there (groups.creates ++ groups.recovers) groups.updates
      ∙ ap (λ before. before ++ update_deltas) (filter_map-append delta_there groups.creates groups.recovers)
      ∙ append_assoc create_deltas recover_deltas update_deltas

  module _ (content : Files) (there : FilesAreThere limits content groups) where
    abbrev branch : CoreBranch
    branch = core_over context content (core_branch (core_index groups))

    -- ---- below the core index

    abbrev proofs_part : Part OpenedCore
    proofs_part = part_of (core_proof_in context (core_index groups)) as_it_is (core_proof_file groups)

    proofs_are : branch.proofs ≡ proofs_part
    unfolding core_index
    proofs_are = looked_named (core_proof_in context (core_index groups)) as_it_is content limits.max_proofs (core_proof_file groups) (there CoreProof)

    abbrev over : ProvisionalBranch → ProvisionalBranch
    over = provisional_over context (core_index groups) content

    abbrev provisional_part : Part ProvisionalBranch
    provisional_part = part_of (provisional_in context (core_index groups)) over (provisional_file groups)

    provisional_are : branch.provisional ≡ provisional_part
    unfolding core_index
    provisional_are = looked_named (provisional_in context (core_index groups)) over content limits.max_index (provisional_file groups) (there Provisional)

    -- ---- recovers and deactivates

    proof_there : (1 ≤ length groups.recovers) ⊎ (1 ≤ length groups.deactivates)
        → IsThere content limits.max_proofs (canonical (core_proof_json (core_proofs groups)))
    unfolding core_proof_file
    proof_there some = there_for (with_core_proof groups) (canonical (core_proof_json (core_proofs groups))) (IsThere content limits.max_proofs)
        (one some) (there CoreProof)
      where
        one : (1 ≤ length groups.recovers) ⊎ (1 ≤ length groups.deactivates) → 1 ≤ length (with_core_proof groups)
        one (inl some) = omega (arith, some, length-append groups.recovers groups.deactivates)
        one (inr some) = omega (arith, some, length-append groups.recovers groups.deactivates)

    proof_known : (1 ≤ length groups.recovers) ⊎ (1 ≤ length groups.deactivates)
        → core_proof_in context (core_index groups) (canonical (core_proof_json (core_proofs groups))) ≡ Is (opened_of limits.max_signed (core_proofs groups))
    proof_known some = core_proof_is limits count groups are some (proof_there some).1

    recovers_are : recovers_given (core_index groups) (recover_deltas ++ update_deltas) proofs_part ≡ groups.recovers
    unfolding core_index core_proof_file
    recovers_are =
        recovers_by (core_proof_in context (core_index groups)) (core_index groups) (opened_of limits.max_signed (core_proofs groups))
        (canonical (core_proof_json (core_proofs groups))) groups.recovers groups.deactivates (recover_deltas ++ update_deltas) proof_known
        (recovers_back limits groups.recovers update_deltas are.recovers)

    deactivates_are : deactivates_given (core_index groups) proofs_part ≡ groups.deactivates
    unfolding core_index core_proof_file
    deactivates_are =
        deactivates_by (core_proof_in context (core_index groups)) (core_index groups) (opened_of limits.max_signed (core_proofs groups))
        (canonical (core_proof_json (core_proofs groups))) groups.recovers groups.deactivates proof_known
        (deactivates_back limits groups.deactivates are.deactivates)

    -- ---- below the provisional index

    abbrev provisional_text : List ℕ
    provisional_text = canonical (provisional_json (provisional_index groups))

    provisional_there : 1 ≤ length (with_delta groups) → IsThere content limits.max_index provisional_text
    unfolding provisional_file
    provisional_there some = there_for (with_delta groups) provisional_text (IsThere content limits.max_index) some (there Provisional)

    provisional_read : 1 ≤ length (with_delta groups)
        → looked_below over (provisional_in context (core_index groups) provisional_text) ≡ Is (over (provisional_branch (provisional_index groups)))
    provisional_read some = ap (looked_below over) (provisional_is limits count groups are some (provisional_there some).1)

    chunk_there : 1 ≤ length (with_delta groups) → IsThere content limits.max_chunk (chunk_text groups)
    chunk_there some = there_for (with_delta groups) (chunk_text groups) (IsThere content limits.max_chunk) some (there Chunk)

    chunk_read : 1 ≤ length (with_delta groups) → (over (provisional_branch (provisional_index groups))).chunk ≡ Is (filter_map delta_there (with_delta groups))
    unfolding provisional_index
    chunk_read some =
        let found = chunk_there some in
        let read = chunk_in context (core_index groups) (provisional_index groups) in
        ap (looked_at read as_it_is (uri_of (chunk_text groups))) found.0 ∙ ap (looked_below as_it_is) (chunk_is limits count groups are some found.1)

    deltas_are : deltas_below branch.provisional ≡ create_deltas ++ (recover_deltas ++ update_deltas)
    unfolding provisional_file
    deltas_are =
        ap deltas_below provisional_are
        ∙ deltas_by (provisional_in context (core_index groups)) over provisional_text (with_delta groups)
        (λ some. ap deltas_below (provisional_read some) ∙ ap deltas_read (chunk_read some))
        ∙ deltas_split

    -- ---- updates

    update_proof_text : List ℕ
    update_proof_text = canonical (provisional_proof_json (filter_map signed_text_in groups.updates))

    update_proof_there : 1 ≤ length groups.updates → IsThere content limits.max_proofs update_proof_text
    unfolding provisional_proof_file update_proof_text
    update_proof_there some = there_for groups.updates update_proof_text (IsThere content limits.max_proofs) some (there ProvisionalProof)

    update_proofs_are : (over (provisional_branch (provisional_index groups))).proofs
        ≡ part_of (provisional_proof_in context (provisional_index groups)) as_it_is (provisional_proof_file groups)
    unfolding provisional_index
    update_proofs_are =
        looked_named (provisional_proof_in context (provisional_index groups)) as_it_is content limits.max_proofs
        (provisional_proof_file groups) (there ProvisionalProof)

    updates_read : updates_given (provisional_index groups) update_deltas (over (provisional_branch (provisional_index groups))).proofs ≡ groups.updates
    unfolding provisional_index provisional_proof_file update_proof_text
    updates_read =
        ap (updates_given (provisional_index groups) update_deltas) update_proofs_are
        ∙ updates_by (provisional_proof_in context (provisional_index groups)) (provisional_index groups) (opened limits groups.updates) update_proof_text
        groups.updates update_deltas (λ some. provisional_proof_is limits count groups are some (update_proof_there some).1)
        (ap (signed_given updating (filter_map target_in groups.updates) (opened limits groups.updates)) (sym (append-nil update_deltas))
        ∙ updates_back limits groups.updates [] are.updates)

    updates_are : updates_below update_deltas branch.provisional ≡ groups.updates
    unfolding provisional_file
    updates_are =
        let within : length groups.updates ≤ length (with_delta groups) = omega (arith, length-append (groups.creates ++ groups.recovers) groups.updates) in
        ap (updates_below update_deltas) provisional_are
        ∙ updates_below_by (provisional_in context (core_index groups)) over provisional_text (with_delta groups) groups.updates update_deltas within
        (λ some. ap (updates_below update_deltas) (provisional_read some) ∙ updates_read)

    -- ---- in the order of a batch

    creates_pass : drop (length (core_index groups).creates) (deltas_below branch.provisional) ≡ recover_deltas ++ update_deltas
    unfolding core_index
    creates_pass =
        let data_long = as_many suffix_data_in (IsOfKind limits is_create) (create_data limits) groups.creates are.creates in
        let long = as_many delta_there (IsOfKind limits is_create) (delta_kept limits is_create (λ target proof. refl)) groups.creates are.creates in
        ap (drop (length (filter_map suffix_data_in groups.creates))) deltas_are
        ∙ drop_at create_deltas (recover_deltas ++ update_deltas) (length (filter_map suffix_data_in groups.creates)) (long ∙ sym data_long)

    recovers_pass : drop (length (core_index groups).recovers) (drop (length (core_index groups).creates) (deltas_below branch.provisional)) ≡ update_deltas
    unfolding core_index
    recovers_pass =
        let target_long = as_many target_in (IsOfKind limits is_recover) (target_there limits is_recover (λ suffix_data delta. refl)) groups.recovers are.recovers in
        let long = as_many delta_there (IsOfKind limits is_recover) (delta_kept limits is_recover (λ target proof. refl)) groups.recovers are.recovers in
        ap (drop (length (filter_map target_in groups.recovers))) creates_pass
        ∙ drop_at recover_deltas update_deltas (length (filter_map target_in groups.recovers)) (long ∙ sym target_long)

    creates_are : creates_given (core_index groups).creates (deltas_below branch.provisional) ≡ groups.creates
    unfolding core_index
    creates_are =
        ap (creates_given (filter_map suffix_data_in groups.creates)) deltas_are
        ∙ creates_back limits groups.creates (recover_deltas ++ update_deltas) are.creates

    pub below_are : operations_below branch ≡ listed groups
    below_are =
        let recovers : recovers_given (core_index groups)
        (drop (length (core_index groups).creates) (deltas_below branch.provisional)) branch.proofs ≡ groups.recovers =
        (λ i. recovers_given (core_index groups) (creates_pass i) (proofs_are i)) ∙ recovers_are in
        let deactivates : deactivates_given (core_index groups) branch.proofs ≡ groups.deactivates =
        ap (deactivates_given (core_index groups)) proofs_are ∙ deactivates_are in
        let updates : updates_below (drop (length (core_index groups).recovers)
        (drop (length (core_index groups).creates) (deltas_below branch.provisional))) branch.provisional ≡ groups.updates =
        ap (λ deltas. updates_below deltas branch.provisional) recovers_pass ∙ updates_are in
        λ i. creates_are i ++ recovers i ++ deactivates i ++ updates i

    -- the entry gives these operations
    pub gives_these : 1 ≤ count → count ≤ limits.max_operations → count < 2 ^ 64
        → gives content limits (anchor_text count (uri_of (core_file groups))) ≡ map with_suffix (listed groups)
    unfolding given known known_from
    gives_these some within fits =
        let text_known = anchor_known limits count (uri_of (core_file groups)) some within fits (uri_of_again (core_file groups)) in
        let read = core_in context in
        let found = ap (looked_at read (core_over context content) (uri_of (core_file groups))) (there Core).0 in
        let says = ap (looked_below (core_over context content)) (core_is limits count groups are (there Core).1) in
        ap (λ bound. given (known_from content bound)) text_known
        ∙ ap (λ part. map with_suffix (operations_of part)) (found ∙ says)
        ∙ ap (map with_suffix) below_are

-- ---- The batch of operations that fit is read back as these.

-- operations of this kind, of those that are ready
of_kind : (limits : ParamsValue) (is_kind : PlainOperation → Bool) (operations : List PlainOperation) → AllByRecursion (IsReady limits) operations
    → AreOfKind limits is_kind (filter is_kind operations)
of_kind limits is_kind operations all =
    each-both (IsReady limits) (λ operation. is_kind operation ≡ true) (IsOfKind limits is_kind) (λ operation right is. (right, is)) (filter is_kind operations)
    (each-filter (IsReady limits) is_kind operations all) (each-passes is_kind operations)

-- each operation is of one kind
pub all_counted : (operations : List PlainOperation)
    → length (filter is_create operations) + length (filter is_recover operations) + length (filter is_deactivate operations)
    + length (filter is_update operations) ≡ length operations
all_counted [] = refl
all_counted (creating suffix_data delta ∷ more) = omega (arith, all_counted more)
all_counted (updating target proof delta ∷ more) = omega (arith, all_counted more)
all_counted (recovering target proof delta ∷ more) = omega (arith, all_counted more)
all_counted (deactivating target proof ∷ more) = omega (arith, all_counted more)

ready_groups : (limits : ParamsValue) (operations : List PlainOperation) → AreDifferent operations → AllByRecursion (IsReady limits) operations
    → AreReadyGroups limits (length operations) (grouped operations)
unfolding grouped
ready_groups limits operations different all = record {
  creates = of_kind limits is_create operations all;
  recovers = of_kind limits is_recover operations all;
  deactivates = of_kind limits is_deactivate operations all;
  updates = of_kind limits is_update operations all;
  counted = all_counted operations;
  once = λ hash. omega (arith, once (suffixes_of operations) different hash, grouped_times hash operations);
}

module _ (limits : ParamsValue) (content : Files) where
  -- a text that declares no operations gives none
  none_given : (core : HashValue) → gives content limits (anchor_text 0 core) ≡ []
  unfolding given known known_from
  none_given core = ap (λ bound. given (known_from content bound)) (none_known limits core)

  given_back : (operations : List PlainOperation) → AreBatched limits operations → length operations < 2 ^ 64
      → HasFiles content (batch_with operations).files → AllByRecursion (IsReady limits) operations
      → gives content limits (batch_with operations).anchor ≡ map with_suffix (in_order operations)
  unfolding batch_with grouped are_files_small
  given_back [] are fits has all = none_given (uri_of (core_file (grouped [])))
  given_back (operation ∷ operations) are fits has all =
      let some : 1 ≤ length (operation ∷ operations) = omega arith in
      let parts = and_parts (nat_le (length (operation ∷ operations)) limits.max_operations) (are_files_small limits (operation ∷ operations))
      (are.goes some) in
      gives_these limits (length (operation ∷ operations)) (grouped (operation ∷ operations))
      (ready_groups limits (operation ∷ operations) are.different all) content
      (files_there limits content (grouped (operation ∷ operations)) has parts.1) some (leb-true _ _ parts.0) fits

-- The batch of operations is read back as these, if their number fits in a machine word.
pub batch_is_read_back : (limits : ParamsValue) (operations : List PlainOperation) → AreBatched limits operations → length operations < 2 ^ 64
    → IsReadBack limits (batch_with operations) operations
batch_is_read_back limits operations are fits =
    let all : FitAll limits operations → AllByRecursion (IsReady limits) operations =
    λ fit. each-both (Fits limits) IsFormed (IsReady limits) (ready limits) operations fit are.formed in
    record {
      given = λ content has fit. given_back limits content operations are fits has (all fit);
      said = λ fit. each-both (Fits limits) (IsReady limits) (SaysAll limits) (says_all limits) operations fit (all fit);
    }
