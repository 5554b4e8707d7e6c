-- The anchor string of a batch has its count and the URI of its core index file.
use Rattle.std.proofs.Common.{◌≡◌, ◌∙◌, ℕ, ◌<◌, ◌≤◌, ◌^◌, true, nat_le, List, [], ◌∷◌, Some, None, option_and_then, option_map, refl, ap, arith, suc, ◌+◌, ◌++◌, Bool, false, nat_lt, length, map, Option, ◌⊎◌, inl, inr}
use Rattle.std.proofs.lemmas.Bool.{ne_eqb}
use Rattle.std.proofs.lemmas.Bool.Decides.{nat_tests}
use Rattle.std.proofs.lemmas.Fmt.{decimal_is_IsNumeral}
use Rattle.std.proofs.lemmas.List.{length-append}
use Rattle.std.proofs.lemmas.Str.Parse.{digit_from_value}
use Rattle.std.specs.Fmt.{decimal}
use Rattle.std.specs.List.{AllByRecursion, filter_map, list_all}
use Rattle.std.specs.Prelude.{is_none, if◌then◌else◌, ◌||◌, is_some, IfSome}
use Rattle.std.specs.Str.{IsUtf8}
use Rattle.std.specs.Str.Parse.{AllDigits}
use Rattle.st_base.proofs.TextLemmas.{cut_at-append, number_of-decimal}
use Rattle.st_base.proofs.ListLemmas.{each-append, each-weaker}
use Rattle.st_base.specs.Rules.{first_failing}
use Rattle.st_base.specs.Lists.{has_twice}
use Rattle.st_base.specs.Texts.{HasNo, cut_at}
use Rattle.st_plain.proofs.ReadableLemmas.{IsReadable}
use Rattle.st_plain.specs.Plain.{canonical}
use Rattle.st_hash.specs.Hash.{HashValue, hash_of_text, hash_text, same_hash, uri_of}
use Rattle.st_params.specs.ParamsValue.{ParamsValue}
use Rattle.st_indexfiles.proofs.CoreLemmas.{IsCoreSound, core_again, none_failing}
use Rattle.st_indexfiles.proofs.MemberLemmas.{file_uri_again, uri_of_again}
use Rattle.st_indexfiles.proofs.ProvisionalLemmas.{IsProvisionalSound, provisional_again}
use Rattle.st_indexfiles.proofs.WrittenLemmas.{IsAgain}
use Rattle.st_indexfiles.specs.CoreIndex.{suffixes_of as suffixes_of_index, one_alone, create_json, create_of, target_json, target_of}
use Rattle.st_indexfiles.specs.ProvisionalIndex.{provisional_json, suffixes_in, repeats_suffix}
use Rattle.st_datafiles.proofs.FileLemmas.{chunk_again, core_proof_again, provisional_proof_again}
use Rattle.st_datafiles.specs.ProofFiles.{core_proof_json, provisional_proof_json}
use Rattle.st_datafiles.specs.declared.proof_files.CoreProofs.{CoreProofs}
use Rattle.st_datafiles.specs.declared.role.Role.{Role}
use Rattle.st_ops.specs.Operation.{PlainOperation}
use Rattle.st_ops.specs.Request.{delta_there}
use Rattle.st_ledger.specs.Ledger.{anchor_of, anchor_rules, core_of, count_in, count_of, dot}
use Rattle.st_ledger.specs.declared.anchor.AnchorRule.TheVariants.{A2}
use Rattle.st_content.specs.Files.{Files, file_at}
use Rattle.st_anchor.specs.BoundValue.{anchor_judged, known_of_text, chunk_in, core_branch, core_in, core_proof_in, delta_count, judged, looked_at, looked_below, looked_up, named as named_part, provisional_branch, provisional_in, provisional_judged, provisional_proof_in}
use Rattle.st_anchor.specs.SignedTexts.{opened_of, proof_of}
use Rattle.st_anchor.specs.declared.branches.Context.{Context}
use Rattle.st_anchor.specs.declared.part.Part.{Part}
use Rattle.st_anchor.specs.declared.part.Part.TheVariants.{Missing, Rejected, Is, Unneeded}
use Rattle.st_anchor.specs.declared.part.Rule.TheVariants as fails
use Rattle.st_batch.proofs.GivenDifferentLemmas.{apart, different, named_in_groups, times, times-append}
use Rattle.st_batch.proofs.GivenOperationsLemmas.{AreOfKind, HasDelta, IsOfKind, as_many, create_data, create_suffixes, data_again, delta_kept, each_taken, named_again, target_suffixes, target_there, text_there}
use Rattle.st_batch.proofs.ReadBackLemmas.{IsReady}
use Rattle.st_batch.proofs.SmallLemmas.{each_role, small_each, small_short}
use Rattle.st_batch.specs.Batch.{anchor_text, bytes_there, chunk_text, core_file, core_index, core_proof_file, file_in, filed, files_of, if_any, provisional_file, provisional_index, provisional_proof_file, is_small, most_bytes}
use Rattle.st_batch.specs.Groups.{Grouped, is_create, is_deactivate, is_recover, is_update, signed_text_in, suffix_data_in, target_in, with_delta}
use Rattle.st_batch.specs.Laws.{HasFiles}
use Rattle.st_batch.specs.Queue.{suffixes_of}

digits_no_dot : (digits : List ℕ) → AllDigits 10 digits → HasNo dot digits
digits_no_dot [] all = tt
digits_no_dot (digit ∷ digits) all =
    (ne_eqb digit dot (λ is. omega (arith, is, digit_from_value digit all.0)), digits_no_dot digits all.1)

module _ (limits : ParamsValue) (count : ℕ) (core : HashValue) where
  text_cut : count < 2 ^ 64 → cut_at dot (anchor_text count core) ≡ Some (decimal count, hash_text core)
  text_cut fits = cut_at-append dot (decimal count) (hash_text core) (digits_no_dot (decimal count) (decimal_is_IsNumeral count fits).0.1)

  from_one : 1 ≤ count → (if nat_le 1 count then Some count else None) ≡ Some count
  from_one some = let one : nat_le 1 count ≡ true = grind (arith, nat_tests) in rw one refl

  count_is : 1 ≤ count → count ≤ limits.max_operations → count < 2 ^ 64 → count_of limits (anchor_text count core) ≡ Some count
  count_is some within fits =
      ap (option_and_then (λ parts. count_in limits.max_operations parts.0)) (text_cut fits)
      ∙ ap (option_and_then (λ number. if nat_le 1 number then Some number else None))
      (number_of-decimal limits.max_operations count (decimal count) within fits refl)
      ∙ from_one some

  core_index_is : count < 2 ^ 64 → hash_of_text (hash_text core) ≡ Some core → core_of (anchor_text count core) ≡ Some core
  core_index_is fits again = ap (option_and_then (λ parts. hash_of_text parts.1)) (text_cut fits) ∙ again

  -- an entry with such a text misses its core index file, and declares the count
  pub anchor_known : 1 ≤ count → count ≤ limits.max_operations → count < 2 ^ 64 → hash_of_text (hash_text core) ≡ Some core
      → known_of_text limits (anchor_text count core) ≡ record { context = record { count = count; params = limits }; core = Missing core }
  unfolding known_of_text
  anchor_known some within fits again =
      let counted = count_is some within fits in
      let named = core_index_is fits again in
      let none = none_failing (anchor_rules limits (anchor_text count core)) (ap is_none (text_cut fits), (ap is_none counted, (ap is_none named, tt))) in
      let says : anchor_of limits (anchor_text count core) ≡ Some (record { count = count; core = core }) =
      λ i. option_and_then (λ found. option_map (λ uri. record { count = found; core = uri }) (named i)) (counted i) in
      λ i. anchor_judged limits (none i) (says i)

-- The text of a batch without operations is not that of an entry.
pub none_known : (limits : ParamsValue) (core : HashValue)
    → known_of_text limits (anchor_text 0 core) ≡ record { context = record { count = 0; params = limits }; core = Rejected (fails.Anchor A2) }
unfolding known_of_text
none_known limits core =
    let fits : 0 < 2 ^ 64 = omega arith in
    let cut = text_cut limits 0 core fits in
    let counted : count_of limits (anchor_text 0 core) ≡ None =
    ap (option_and_then (λ parts. count_in limits.max_operations parts.0)) cut
    ∙ ap (option_and_then (λ number. if nat_le 1 number then Some number else None))
    (number_of-decimal limits.max_operations 0 (decimal 0) (omega arith) fits refl) in
    let first : first_failing (anchor_rules limits (anchor_text 0 core)) ≡ Some A2 = rw (ap is_none cut, ap is_none counted) refl in
    ap (λ failing. anchor_judged limits failing (anchor_of limits (anchor_text 0 core))) first

-- ---- The files of ready operations by kind: what is known about an entry that names them, over any content that has
-- them.

-- `count` ready operations by kind, each suffix once
pub record AreReadyGroups (limits : ParamsValue) (count : ℕ) (groups : Grouped) : Type 0 where
  pub creates : AreOfKind limits is_create groups.creates
  pub recovers : AreOfKind limits is_recover groups.recovers
  pub deactivates : AreOfKind limits is_deactivate groups.deactivates
  pub updates : AreOfKind limits is_update groups.updates
  pub counted : length groups.creates + length groups.recovers + length groups.deactivates + length groups.updates ≡ count
  pub once : (hash : HashValue) → named_in_groups hash groups ≤ 1

-- ---- files that are there

-- the content has the file by its URI, and it has at most this many bytes
abbrev pub IsThere : Files → ℕ → List ℕ → Type 0
IsThere content most bytes = (file_at (uri_of bytes) content ≡ Some bytes) × (length bytes ≤ most)

-- the part of a role from the bytes of its file, which may be missing
abbrev pub part_of : {Says : Type 0} → (List ℕ → Part Says) → (Says → Says) → Option (List ℕ) → Part Says
part_of read below None = Unneeded
part_of read below (Some bytes) = looked_below below (read bytes)

-- a file that is named and there is read
pub looked_named : {Says : Type 0} (read : List ℕ → Part Says) (below : Says → Says) (content : Files) (most : ℕ) (file : Option (List ℕ))
    → IfSome file (IsThere content most) → looked_up read below content (named_part (option_map uri_of file)) ≡ part_of read below file
looked_named read below content most None there = refl
looked_named read below content most (Some bytes) there = ap (looked_at read below (uri_of bytes)) there.0

-- a property of a text, if there is an operation for it
pub there_for : (operations : List PlainOperation) (said : List ℕ) (P : List ℕ → Type 0) → 1 ≤ length operations → IfSome (if_any operations said) P → P said
there_for [] said P some there = absurd (omega arith)
there_for (operation ∷ operations) said P some there = there

-- the files of operations by kind are there
abbrev pub FilesAreThere : ParamsValue → Files → Grouped → Type 0
FilesAreThere limits content groups = (role : Role) → IfSome (file_in role groups) (IsThere content (most_bytes limits role))

module _ (limits : ParamsValue) (content : Files) where
  filed_there : (role : Role) (file : Option (List ℕ)) → HasFiles content (filed role file) → bytes_there file ≤ most_bytes limits role
      → IfSome file (IsThere content (most_bytes limits role))
  filed_there role None has short = tt
  filed_there role (Some bytes) has short = (has.0, short)

  pub files_there : (groups : Grouped) → HasFiles content (files_of groups) → list_all (is_small limits) (files_of groups) ≡ true
      → FilesAreThere limits content groups
  files_there groups has small = λ role.
      filed_there role (file_in role groups) (each_role (λ file. file_at file.uri content ≡ Some file.bytes) groups has role)
      (small_short limits groups role (small_each limits groups small role))

-- ---- a file is named if and only if there is an operation for it

above_none : (n k : ℕ) → n ≡ suc k → nat_lt 0 n ≡ true
above_none n k e = grind (arith, nat_tests)

named_for_one : (operations : List PlainOperation) (said : List ℕ) (n : ℕ) → n ≡ length operations
    → one_alone (is_some (option_map uri_of (if_any operations said))) (nat_lt 0 n) ≡ false
named_for_one [] said n e = rw e refl
named_for_one (operation ∷ operations) said n e = rw (above_none n (length operations) e) refl

named_for_two : (first second : List PlainOperation) (said : List ℕ) (n m : ℕ) → n ≡ length first → m ≡ length second
    → one_alone (is_some (option_map uri_of (if_any (first ++ second) said))) (nat_lt 0 n || nat_lt 0 m) ≡ false
named_for_two [] [] said n m e f = rw (e, f) refl
named_for_two [] (operation ∷ operations) said n m e f = rw (e, above_none m (length operations) f) refl
named_for_two (operation ∷ operations) second said n m e f = rw (above_none n (length operations) e) refl

neither : (first second : Bool) → first ≡ false → second ≡ false → (first || second) ≡ false
neither first second e f = rw (e, f) refl

-- ---- the indexes

-- the content of a core proof file of operations by kind
abbrev pub core_proofs : Grouped → CoreProofs
core_proofs groups = record {
  recovers = filter_map signed_text_in groups.recovers;
  deactivates = filter_map signed_text_in groups.deactivates;
}

module _ (limits : ParamsValue) (count : ℕ) (groups : Grouped) (are : AreReadyGroups limits count groups) where
  creates_long : length (filter_map suffix_data_in groups.creates) ≡ length groups.creates
  creates_long = as_many suffix_data_in (IsOfKind limits is_create) (create_data limits) groups.creates are.creates

  recovers_long : length (filter_map target_in groups.recovers) ≡ length groups.recovers
  recovers_long = as_many target_in (IsOfKind limits is_recover) (target_there limits is_recover (λ suffix_data delta. refl)) groups.recovers are.recovers

  deactivates_long : length (filter_map target_in groups.deactivates) ≡ length groups.deactivates
  deactivates_long = as_many target_in (IsOfKind limits is_deactivate) (target_there limits is_deactivate (λ suffix_data delta. refl)) groups.deactivates are.deactivates

  updates_long : length (filter_map target_in groups.updates) ≡ length groups.updates
  updates_long = as_many target_in (IsOfKind limits is_update) (target_there limits is_update (λ suffix_data delta. refl)) groups.updates are.updates

  targets_again : (is_kind : PlainOperation → Bool) (operations : List PlainOperation) → AreOfKind limits is_kind operations
      → AllByRecursion (IsAgain (target_of limits.version) target_json) (filter_map target_in operations)
  targets_again is_kind operations all =
      each_taken target_in (IsOfKind limits is_kind) (IsAgain (target_of limits.version) target_json)
      (λ operation right. named_again limits operation right.0) operations all

  -- the suffixes of the core index are those of its operations
  core_suffixes : suffixes_of_index (core_index groups) ≡ suffixes_of groups.creates ++ suffixes_of groups.recovers ++ suffixes_of groups.deactivates
  unfolding core_index
  core_suffixes =
      let creates = create_suffixes limits groups.creates are.creates in
      let recovers = target_suffixes limits is_recover (λ suffix_data delta. refl) groups.recovers are.recovers in
      let deactivates = target_suffixes limits is_deactivate (λ suffix_data delta. refl) groups.deactivates are.deactivates in
      λ i. creates i ++ recovers i ++ deactivates i

  core_times : (hash : HashValue) → times hash (suffixes_of_index (core_index groups))
      ≡ times hash (suffixes_of groups.creates) + times hash (suffixes_of groups.recovers) + times hash (suffixes_of groups.deactivates)
  core_times hash =
      let first = times-append hash (suffixes_of groups.creates ++ suffixes_of groups.recovers) (suffixes_of groups.deactivates) in
      let second = times-append hash (suffixes_of groups.creates) (suffixes_of groups.recovers) in
      ap (times hash) core_suffixes ∙ first ∙ ap (λ before. before + times hash (suffixes_of groups.deactivates)) second

  core_different : has_twice same_hash (suffixes_of_index (core_index groups)) ≡ false
  core_different = different (suffixes_of_index (core_index groups)) (λ hash. omega (arith, are.once hash, core_times hash))

  update_suffixes : suffixes_in (filter_map target_in groups.updates) ≡ suffixes_of groups.updates
  update_suffixes = target_suffixes limits is_update (λ suffix_data delta. refl) groups.updates are.updates

  updates_different : repeats_suffix (suffixes_in (filter_map target_in groups.updates)) (core_index groups) ≡ false
  updates_different =
      let twice = different (suffixes_of groups.updates) (λ hash. omega (arith, are.once hash)) in
      let shared = apart (suffixes_of groups.updates) (suffixes_of_index (core_index groups)) (λ hash. omega (arith, are.once hash, core_times hash)) in
      ap (λ suffixes. repeats_suffix suffixes (core_index groups)) update_suffixes ∙ neither _ _ twice shared

  pub core_sound : IsCoreSound limits count (core_index groups)
  unfolding core_index core_proof_file
  core_sound = record {
    parts = record {
      core_proof = file_uri_again (core_proof_file groups);
      provisional = file_uri_again (provisional_file groups);
      creates = each_taken suffix_data_in (IsOfKind limits is_create) (IsAgain (create_of limits.version) create_json)
          (λ operation right. data_again limits operation right.0) groups.creates are.creates;
      recovers = targets_again is_recover groups.recovers are.recovers;
      deactivates = targets_again is_deactivate groups.deactivates are.deactivates;
    };
    few = omega (arith, creates_long, recovers_long, deactivates_long, are.counted);
    different = core_different;
    proved = named_for_two groups.recovers groups.deactivates (canonical (core_proof_json (core_proofs groups))) _ _ recovers_long deactivates_long;
  }

  pub provisional_sound : 1 ≤ length (with_delta groups) → IsProvisionalSound limits count (core_index groups) (provisional_index groups)
  unfolding core_index provisional_index provisional_proof_file
  provisional_sound some = record {
    parts = record {
      proof = file_uri_again (provisional_proof_file groups);
      chunk = uri_of_again (chunk_text groups);
      updates = targets_again is_update groups.updates are.updates;
    };
    different = updates_different;
    few = omega (arith, creates_long, recovers_long, deactivates_long, updates_long, are.counted);
    proved = named_for_one groups.updates (canonical (provisional_proof_json (filter_map signed_text_in groups.updates))) _ updates_long;
    some = omega (
      arith,
      some,
      creates_long,
      recovers_long,
      updates_long,
      length-append (groups.creates ++ groups.recovers) groups.updates,
      length-append groups.creates groups.recovers,
    );
  }

  -- ---- proofs and deltas

  texts_utf8 : (is_kind : PlainOperation → Bool) (operations : List PlainOperation) → AreOfKind limits is_kind operations
      → AllByRecursion IsUtf8 (filter_map signed_text_in operations)
  texts_utf8 is_kind operations all = each_taken signed_text_in (IsOfKind limits is_kind) IsUtf8 (λ operation right. right.0.signed) operations all

  deltas_readable : (is_kind : PlainOperation → Bool) (operations : List PlainOperation) → AreOfKind limits is_kind operations
      → AllByRecursion (IsReady limits) operations
  deltas_readable is_kind operations all = each-weaker (IsOfKind limits is_kind) (IsReady limits) (λ operation right. right.0) operations all

  all_readable : AllByRecursion (IsReadable 64) (filter_map delta_there (with_delta groups))
  all_readable =
      let before = each-append (IsReady limits) groups.creates groups.recovers (deltas_readable is_create groups.creates are.creates)
      (deltas_readable is_recover groups.recovers are.recovers) in
      each_taken delta_there (IsReady limits) (IsReadable 64) (λ operation right. right.delta) (with_delta groups)
      (each-append (IsReady limits) (groups.creates ++ groups.recovers) groups.updates before (deltas_readable is_update groups.updates are.updates))

  have_deltas : (is_kind : PlainOperation → Bool) → HasDelta is_kind → (operations : List PlainOperation) → AreOfKind limits is_kind operations
      → AllByRecursion (λ operation. is_some (delta_there operation) ≡ true) operations
  have_deltas is_kind has =
      each-weaker (IsOfKind limits is_kind) (λ operation. is_some (delta_there operation) ≡ true) (delta_kept limits is_kind has)

  deltas_long : length (filter_map delta_there (with_delta groups)) ≡ length groups.creates + length groups.recovers + length groups.updates
  deltas_long =
      let Has : PlainOperation → Type 0 = λ operation. is_some (delta_there operation) ≡ true in
      let before = each-append Has groups.creates groups.recovers (have_deltas is_create (λ target proof. refl) groups.creates are.creates)
      (have_deltas is_recover (λ target proof. refl) groups.recovers are.recovers) in
      let all = each-append Has (groups.creates ++ groups.recovers) groups.updates before
      (have_deltas is_update (λ target proof. refl) groups.updates are.updates) in
      let long = as_many delta_there Has (λ operation has. has) (with_delta groups) all in
      omega (arith, long, length-append (groups.creates ++ groups.recovers) groups.updates, length-append groups.creates groups.recovers)

  recover_texts_long : length (filter_map signed_text_in groups.recovers) ≡ length groups.recovers
  recover_texts_long = as_many signed_text_in (IsOfKind limits is_recover) (text_there limits is_recover (λ suffix_data delta. refl)) groups.recovers are.recovers

  deactivate_texts_long : length (filter_map signed_text_in groups.deactivates) ≡ length groups.deactivates
  deactivate_texts_long = as_many signed_text_in (IsOfKind limits is_deactivate) (text_there limits is_deactivate (λ suffix_data delta. refl)) groups.deactivates are.deactivates

  update_texts_long : length (filter_map signed_text_in groups.updates) ≡ length groups.updates
  update_texts_long = as_many signed_text_in (IsOfKind limits is_update) (text_there limits is_update (λ suffix_data delta. refl)) groups.updates are.updates

  -- ---- what is known about each file

  abbrev context : Context
  context = record { count = count; params = limits }

  pub core_is : length (core_file groups) ≤ limits.max_index → core_in context (core_file groups) ≡ Is (core_branch (core_index groups))
  unfolding core_file core_in
  core_is small =
      let back = core_again limits count (core_index groups) core_sound small in
      λ i. judged fails.Core (back.0 i) (core_branch (back.1 i))

  some_proof : (1 ≤ length groups.recovers) ⊎ (1 ≤ length groups.deactivates)
      → (1 ≤ length (filter_map signed_text_in groups.recovers)) ⊎ (1 ≤ length (filter_map signed_text_in groups.deactivates))
  some_proof (inl some) = inl (omega (arith, some, recover_texts_long))
  some_proof (inr some) = inr (omega (arith, some, deactivate_texts_long))

  pub core_proof_is : (1 ≤ length groups.recovers) ⊎ (1 ≤ length groups.deactivates)
      → length (canonical (core_proof_json (core_proofs groups))) ≤ limits.max_proofs
      → core_proof_in context (core_index groups) (canonical (core_proof_json (core_proofs groups))) ≡ Is (opened_of limits.max_signed (core_proofs groups))
  unfolding core_index core_proof_in
  core_proof_is some small =
      let back = core_proof_again limits (length (core_index groups).recovers) (length (core_index groups).deactivates) (core_proofs groups) (record {
        some = some_proof some;
        recovers_utf8 = texts_utf8 is_recover groups.recovers are.recovers;
        deactivates_utf8 = texts_utf8 is_deactivate groups.deactivates are.deactivates;
        recovers_long = omega (arith, recover_texts_long, recovers_long);
        deactivates_long = omega (arith, deactivate_texts_long, deactivates_long);
      }) small in
      λ i. judged fails.Proofs (back.0 i) (opened_of limits.max_signed (back.1 i))

  pub provisional_is : 1 ≤ length (with_delta groups) → length (canonical (provisional_json (provisional_index groups))) ≤ limits.max_index
      → provisional_in context (core_index groups) (canonical (provisional_json (provisional_index groups)))
      ≡ Is (provisional_branch (provisional_index groups))
  unfolding provisional_in
  provisional_is some small =
      let back = provisional_again limits count (core_index groups) (provisional_index groups) (provisional_sound some) small in
      λ i. provisional_judged (back.0 i) (back.1 i)

  pub provisional_proof_is : 1 ≤ length groups.updates
      → length (canonical (provisional_proof_json (filter_map signed_text_in groups.updates))) ≤ limits.max_proofs
      → provisional_proof_in context (provisional_index groups) (canonical (provisional_proof_json (filter_map signed_text_in groups.updates)))
      ≡ Is (map (proof_of limits.max_signed) (filter_map signed_text_in groups.updates))
  unfolding provisional_index provisional_proof_in
  provisional_proof_is some small =
      let back = provisional_proof_again limits (length (provisional_index groups).updates) (filter_map signed_text_in groups.updates)
      (omega (arith, some, update_texts_long)) (texts_utf8 is_update groups.updates are.updates) (omega (arith, update_texts_long, updates_long)) small in
      λ i. judged fails.Proofs (back.0 i) (map (proof_of limits.max_signed) (back.1 i))

  pub chunk_is : 1 ≤ length (with_delta groups) → length (chunk_text groups) ≤ limits.max_chunk
      → chunk_in context (core_index groups) (provisional_index groups) (chunk_text groups) ≡ Is (filter_map delta_there (with_delta groups))
  unfolding chunk_text core_index provisional_index chunk_in
  chunk_is some small =
      let many : length (filter_map delta_there (with_delta groups)) ≡ delta_count (core_index groups) (provisional_index groups) =
      omega (arith, deltas_long, creates_long, recovers_long, updates_long) in
      let first : 1 ≤ length (filter_map delta_there (with_delta groups)) =
      omega (arith, some, deltas_long, length-append (groups.creates ++ groups.recovers) groups.updates, length-append groups.creates groups.recovers) in
      let back = chunk_again limits (delta_count (core_index groups) (provisional_index groups)) (filter_map delta_there (with_delta groups)) first all_readable
      many small in
      λ i. judged fails.Chunk (back.0 i) (back.1 i)
