-- Written files that fail no rule: lemmas shared by several tables.
use Rattle.std.proofs.Common.{◌≡◌, ◌∙◌, ℕ, true, false, nat_lt, List, [], ◌∷◌, length, Option, Some, None, refl, ap, ◌+◌, ◌≤◌, codes, map, sym, arith}
use Rattle.std.proofs.lemmas.Bool.{and_from, and_parts, le-ltb, not_from_true}
use Rattle.std.specs.List.{AllByRecursion, list_all, filter_map}
use Rattle.std.specs.Prelude.{is_none, ◌||◌, is_some, option_map}
use Rattle.st_base.specs.Lists.{each_is, has_twice}
use Rattle.st_base.specs.Rules.{Table, first_failing}
use Rattle.st_plain.proofs.ListedLemmas.{entries_in-some_list, has_only-some_listed, member_at-some_listed, member_in-some_object}
use Rattle.st_plain.proofs.ReadableLemmas.{IsReadable, json_again}
use Rattle.st_plain.specs.Plain.{canonical, Plain, Members, no_members, member}
use Rattle.st_plain.specs.Objects.{has_only, member_at, some_list, some_object}
use Rattle.st_plain.specs.Shapes.{is_list_if_there, json_in, entries_in, member_in}
use Rattle.st_scan.specs.Standing.{is_object_of_lists_if_there}
use Rattle.st_hash.specs.Hash.{same_hash}
use Rattle.st_params.specs.ParamsValue.{ParamsValue}
use Rattle.st_indexfiles.proofs.WrittenLemmas.{counted_core, stray_core, core_readable, IsAgain, IsUriAgain, all_again, each_again, now_again, uri_again, uri_passes, uri_read}
use Rattle.st_indexfiles.specs.CoreIndex.{core_index_of, core_json, core_lists, core_members, core_operations, operations_of, suffixes_of, core_json_rules, core_kinds, core_names, first_failing_core_rule, has_core_entries, has_core_form, has_core_members, has_signed, one_alone, operation_count, hash_json, is_uri_if_there, uri_in, create_json, create_of, target_json, target_of}
use Rattle.st_indexfiles.specs.ProvisionalIndex.{core_count}
use Rattle.st_indexfiles.specs.declared.core_index.CoreIndex.{CoreIndex}
use Rattle.st_indexfiles.specs.declared.core_index.CoreRule.TheVariants.{C1, C2}
use Rattle.st_indexfiles.specs.inside.CoreParts.{says_stray_proof, IsCoreReadAgain}

-- if each test passes, no rule fails
pub none_failing : {Rule : Type 0} (rules : Table Rule) → AllByRecursion (λ row. row.1 ≡ false) rules → first_failing rules ≡ None
none_failing [] all = refl
none_failing (row ∷ rows) all = rw all.0 (none_failing rows all.1)

-- the text of a readable value fails no rule if it is short enough and the value fails none
pub written_passes : {Rule : Type 0} (long not_json : Rule) (rules : Option Plain → Table Rule) (most : ℕ) (value : Plain)
    → IsReadable 127 value
    → AllByRecursion (λ row. row.1 ≡ false) ((long, nat_lt most (length (canonical value))) ∷ rules (Some value))
    → first_failing ((long, nat_lt most (length (canonical value))) ∷ (not_json, is_none (json_in (canonical value))) ∷ rules (json_in (canonical value))) ≡ None
written_passes long not_json rules most value readable pass =
    ap (λ read. first_failing ((long, nat_lt most (length (canonical value))) ∷ (not_json, is_none read) ∷ rules read)) (json_again value readable)
    ∙ none_failing ((long, nat_lt most (length (canonical value))) ∷ (not_json, false) ∷ rules (Some value))
    (pass.0, (refl, pass.1))

-- ---- objects of lists

pub list_passes : (entries : List Plain) → is_list_if_there (some_list entries) ≡ true
unfolding some_list
list_passes [] = refl
list_passes (entry ∷ entries) = refl

-- an object of optional lists
pub lists_pass : (names : List (List ℕ)) (ms : Members) → has_only names ms ≡ true
    → list_all (λ name. is_list_if_there (member_at name ms)) names ≡ true → is_object_of_lists_if_there names (some_object ms) ≡ true
unfolding some_object
lists_pass names no_members only lists = refl
lists_pass names (member n p ms) only lists = and_from (has_only names (member n p ms)) _ only lists

-- ---- The JSON of a core index that was written: its content is the index, and it fails no rule.

-- each part of a core index is read from its written form
pub record IsCoreRead (version : ℕ) (index : CoreIndex) : Type 0 where
  pub core_proof : IsUriAgain index.core_proof
  pub provisional : IsUriAgain index.provisional
  pub creates : AllByRecursion (IsAgain (create_of version) create_json) index.creates
  pub recovers : AllByRecursion (IsAgain (target_of version) target_json) index.recovers
  pub deactivates : AllByRecursion (IsAgain (target_of version) target_json) index.deactivates

-- properties of a core index that is written at these limits under this count
pub record IsCoreSound (limits : ParamsValue) (count : ℕ) (index : CoreIndex) : Type 0 where
  pub parts : IsCoreRead limits.version index
  pub few : length index.creates + length index.recovers + length index.deactivates ≤ count
  pub different : has_twice same_hash (suffixes_of index) ≡ false
  pub proved : one_alone (is_some index.core_proof) (nat_lt 0 (length index.recovers) || nat_lt 0 (length index.deactivates)) ≡ false

module _ (index : CoreIndex) where
  -- ---- its members

  abbrev json : Option Plain
  json = Some (core_json index)

  operations_there : member_in (codes "operations") json ≡ some_object (core_operations index)
  operations_there = member_at-some_listed (codes "operations") (core_members index) refl

  kind_there : (kind : List ℕ) (entries : List Plain) → member_at kind (core_operations index) ≡ some_list entries → operations_of kind json ≡ entries
  kind_there kind entries there =
      ap entries_in (ap (member_in kind) operations_there ∙ member_in-some_object kind (core_operations index) ∙ there) ∙ entries_in-some_list entries

  creates_at : operations_of (codes "create") json ≡ map create_json index.creates
  creates_at = kind_there (codes "create") _ (member_at-some_listed (codes "create") (core_lists index) refl)

  recovers_at : operations_of (codes "recover") json ≡ map target_json index.recovers
  recovers_at = kind_there (codes "recover") _ (member_at-some_listed (codes "recover") (core_lists index) refl)

  deactivates_at : operations_of (codes "deactivate") json ≡ map target_json index.deactivates
  deactivates_at = kind_there (codes "deactivate") _ (member_at-some_listed (codes "deactivate") (core_lists index) refl)

  core_proof_at : member_in (codes "coreProofFileUri") json ≡ option_map hash_json index.core_proof
  core_proof_at = member_at-some_listed (codes "coreProofFileUri") (core_members index) refl

  provisional_at : member_in (codes "provisionalIndexFileUri") json ≡ option_map hash_json index.provisional
  provisional_at = member_at-some_listed (codes "provisionalIndexFileUri") (core_members index) refl

  no_lock : member_in (codes "writerLockId") json ≡ None
  no_lock = member_at-some_listed (codes "writerLockId") (core_members index) refl

  -- ---- its content

  -- the content of its JSON is this index
  pub core_says : (version : ℕ) → IsCoreRead version index → core_index_of version json ≡ index
  unfolding core_index_of
  core_says version parts =
      let core_proof = ap uri_in core_proof_at ∙ uri_read index.core_proof parts.core_proof in
      let provisional = ap uri_in provisional_at ∙ uri_read index.provisional parts.provisional in
      let creates = ap (filter_map (create_of version)) creates_at ∙ all_again (create_of version) create_json index.creates parts.creates in
      let recovers = ap (filter_map (target_of version)) recovers_at ∙ all_again (target_of version) target_json index.recovers parts.recovers in
      let deactivates = ap (filter_map (target_of version)) deactivates_at
      ∙ all_again (target_of version) target_json index.deactivates parts.deactivates in
      λ i. record { core_proof = core_proof i; provisional = provisional i; creates = creates i; recovers = recovers i; deactivates = deactivates i }

  -- each part of a written index is read, if the parts have their form
  pub core_parts : (version max_lock_id : ℕ) → IsCoreReadAgain index → has_core_members max_lock_id json ≡ true → has_core_entries version json ≡ true
      → IsCoreRead version index
  unfolding has_core_members has_core_entries
  core_parts version max_lock_id again are_members are_entries =
      let uris = and_parts _ _ are_members in
      let lists = and_parts _ _ are_entries in
      let later = and_parts _ _ lists.1 in
      record {
        core_proof = uri_again index.core_proof (sym (ap is_uri_if_there core_proof_at) ∙ uris.0) again.core_proof;
        provisional = uri_again index.provisional (sym (ap is_uri_if_there provisional_at) ∙ (and_parts _ _ uris.1).0) again.provisional;
        creates = now_again create_of create_json version index.creates (sym (ap (each_is (create_of version)) creates_at) ∙ lists.0) again.creates;
        recovers = now_again target_of target_json version index.recovers (sym (ap (each_is (target_of version)) recovers_at) ∙ later.0) again.recovers;
        deactivates = now_again target_of target_json version index.deactivates (sym (ap (each_is (target_of version)) deactivates_at) ∙ later.1)
            again.deactivates;
      }

  -- ---- the rules

  form_passes : has_core_form json ≡ true
  unfolding has_core_form
  form_passes =
      let names = has_only-some_listed core_names (core_members index) refl in
      let create = ap is_list_if_there (member_at-some_listed (codes "create") (core_lists index) refl) ∙ list_passes (map create_json index.creates) in
      let recover = ap is_list_if_there (member_at-some_listed (codes "recover") (core_lists index) refl) ∙ list_passes (map target_json index.recovers) in
      let deactivate = ap is_list_if_there (member_at-some_listed (codes "deactivate") (core_lists index) refl) ∙ list_passes (map target_json index.deactivates) in
      let lists = lists_pass core_kinds (core_operations index) (has_only-some_listed core_kinds (core_lists index) refl)
      (and_from _ _ create (and_from _ _ recover (and_from _ _ deactivate refl))) in
      and_from _ _ names (rw operations_there lists)

module _ (limits : ParamsValue) (count : ℕ) (index : CoreIndex) (sound : IsCoreSound limits count index) where
  says : core_index_of limits.version (json index) ≡ index
  says = core_says index limits.version sound.parts

  members_pass : has_core_members limits.max_lock_id (json index) ≡ true
  unfolding has_core_members
  members_pass =
      and_from _ _ (ap is_uri_if_there (core_proof_at index) ∙ uri_passes index.core_proof sound.parts.core_proof)
      (and_from _ _ (ap is_uri_if_there (provisional_at index) ∙ uri_passes index.provisional sound.parts.provisional) (rw (no_lock index) refl))

  entries_pass : has_core_entries limits.version (json index) ≡ true
  unfolding has_core_entries
  entries_pass =
      and_from _ _ (ap (each_is (create_of limits.version)) (creates_at index) ∙ each_again (create_of limits.version) create_json index.creates sound.parts.creates)
      (and_from _ _ (ap (each_is (target_of limits.version)) (recovers_at index) ∙ each_again (target_of limits.version) target_json index.recovers sound.parts.recovers)
      (ap (each_is (target_of limits.version)) (deactivates_at index)
      ∙ each_again (target_of limits.version) target_json index.deactivates sound.parts.deactivates))

  count_passes : nat_lt count (operation_count (json index)) ≡ false
  count_passes =
      let counted : operation_count (json index) ≡ length index.creates + length index.recovers + length index.deactivates =
      sym (counted_core limits.version (json index) entries_pass) ∙ ap core_count says in
      le-ltb count (operation_count (json index)) (omega (arith, sound.few, counted))

  proved_passes : one_alone (is_some (member_in (codes "coreProofFileUri") (json index))) (has_signed (json index)) ≡ false
  unfolding says_stray_proof
  proved_passes =
      sym (stray_core limits.version (json index) entries_pass limits.max_lock_id members_pass) ∙ (ap says_stray_proof says ∙ sound.proved)

  -- its file fails no rule, and its content is the index
  pub core_again : length (canonical (core_json index)) ≤ limits.max_index
      → (first_failing_core_rule limits count (canonical (core_json index)) ≡ None)
      × (core_index_of limits.version (json_in (canonical (core_json index))) ≡ index)
  core_again small =
      let different : has_twice same_hash (suffixes_of (core_index_of limits.version (json index))) ≡ false =
      ap (λ said. has_twice same_hash (suffixes_of said)) says ∙ sound.different in (
        written_passes C1 C2 (core_json_rules limits count) limits.max_index (core_json index) (core_readable index) (
          le-ltb _ _ small,
          (not_from_true _ (form_passes index), (not_from_true _ members_pass, (not_from_true _ entries_pass, (count_passes, (different, (proved_passes, tt)))))),
        ),
        ap (core_index_of limits.version) (json_again (core_json index) (core_readable index)) ∙ says,
      )
