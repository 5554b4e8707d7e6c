-- The JSON of a provisional index that was written: its content is the index, and it fails no rule.
use Rattle.std.proofs.Common.{◌≡◌, ◌∙◌, ℕ, ◌+◌, ◌≤◌, ◌==◌, true, false, nat_lt, [], ◌∷◌, codes, length, map, Option, Some, None, refl, sym, ap, arith}
use Rattle.std.specs.Prelude.{is_none, is_some, option_map}
use Rattle.std.specs.List.{AllByRecursion, filter_map}
use Rattle.std.proofs.lemmas.Bool.{and_from, and_parts, le-ltb, ne_eqb, not_from_true}
use Rattle.st_base.specs.Lists.{each_is}
use Rattle.st_plain.specs.Plain.{canonical, Plain}
use Rattle.st_plain.specs.Objects.{some_object}
use Rattle.st_plain.specs.Shapes.{entries_in, is_list_if_there, json_in, member_in, only_member, only_of}
use Rattle.st_plain.proofs.ListedLemmas.{entries_in-some_list, has_only-some_listed, member_at-some_listed, member_in-some_object}
use Rattle.st_plain.proofs.ReadableLemmas.{json_again}
use Rattle.st_hash.specs.Hash.{hash_of_text, hash_text}
use Rattle.st_indexfiles.specs.CoreIndex.{operations_of, one_alone, hash_json, is_uri_if_there, uri_in, target_json, target_of}
use Rattle.st_indexfiles.specs.ProvisionalIndex.{chunk_in, chunk_json, provisional_index_of, provisional_json, provisional_lists, provisional_members, provisional_operations, provisional_with, suffixes_in, updates_in, core_count, first_failing_provisional_rule, has_provisional_entries, has_provisional_form, provisional_json_rules, provisional_names, repeats_suffix, update_count}
use Rattle.st_indexfiles.specs.inside.CoreParts.{IsProvisionalReadAgain}
use Rattle.st_indexfiles.specs.declared.core_index.CoreIndex.{CoreIndex}
use Rattle.st_indexfiles.specs.declared.provisional_index.ProvisionalIndex.{ProvisionalIndex}
use Rattle.st_indexfiles.specs.declared.provisional_index.ProvisionalRule.TheVariants.{P1, P2}
use Rattle.st_params.specs.ParamsValue.{ParamsValue}
use Rattle.st_indexfiles.proofs.CoreLemmas.{list_passes, lists_pass, written_passes}
use Rattle.st_indexfiles.proofs.WrittenLemmas.{counted_updates, stray_provisional, provisional_readable, IsAgain, IsUriAgain, all_again, each_again, now_again, read_as, uri_again, uri_passes, uri_read}

-- each part of a provisional index is read from its written form
pub record IsProvisionalRead (version : ℕ) (index : ProvisionalIndex) : Type 0 where
  pub proof : IsUriAgain index.proof
  pub chunk : hash_of_text (hash_text index.chunk) ≡ Some index.chunk
  pub updates : AllByRecursion (IsAgain (target_of version) target_json) index.updates

-- properties of a provisional index that is written at these limits under this count, given a core index
pub record IsProvisionalSound (limits : ParamsValue) (count : ℕ) (core : CoreIndex) (index : ProvisionalIndex) : Type 0 where
  pub parts : IsProvisionalRead limits.version index
  pub different : repeats_suffix (suffixes_in index.updates) core ≡ false
  pub few : core_count core + length index.updates ≤ count
  pub proved : one_alone (is_some index.proof) (nat_lt 0 (length index.updates)) ≡ false
  pub some : 1 ≤ length core.creates + length core.recovers + length index.updates

module _ (index : ProvisionalIndex) where
  -- ---- its members

  abbrev json : Option Plain
  json = Some (provisional_json index)

  operations_there : member_in (codes "operations") json ≡ some_object (provisional_operations index)
  operations_there = member_at-some_listed (codes "operations") (provisional_members index) refl

  updates_at : operations_of (codes "update") json ≡ map target_json index.updates
  updates_at =
      ap entries_in (ap (member_in (codes "update")) operations_there ∙ member_in-some_object (codes "update") (provisional_operations index)
      ∙ member_at-some_listed (codes "update") (provisional_lists index) refl) ∙ entries_in-some_list (map target_json index.updates)

  proof_at : member_in (codes "provisionalProofFileUri") json ≡ option_map hash_json index.proof
  proof_at = member_at-some_listed (codes "provisionalProofFileUri") (provisional_members index) refl

  chunk_at : chunk_in json ≡ uri_in (Some (hash_json index.chunk))
  unfolding chunk_in
  chunk_at =
      ap (λ there. uri_in (only_member (codes "chunkFileUri") (only_of (entries_in there)))) (member_at-some_listed (codes "chunks") (provisional_members index) refl)
      ∙ ap (λ entries. uri_in (only_member (codes "chunkFileUri") (only_of entries))) (entries_in-some_list (chunk_json index.chunk ∷ []))

  -- ---- its content

  proof_says : IsUriAgain index.proof → uri_in (member_in (codes "provisionalProofFileUri") json) ≡ index.proof
  proof_says again = ap uri_in proof_at ∙ uri_read index.proof again

  updates_say : (version : ℕ) → AllByRecursion (IsAgain (target_of version) target_json) index.updates → updates_in version json ≡ index.updates
  unfolding updates_in
  updates_say version again = ap (filter_map (target_of version)) updates_at ∙ all_again (target_of version) target_json index.updates again

  -- the content of its JSON is this index
  pub provisional_says : (version : ℕ) → IsProvisionalRead version index → provisional_index_of version json ≡ Some index
  unfolding provisional_with
  provisional_says version parts =
      let proof = proof_says parts.proof in
      let updates = updates_say version parts.updates in
      ap (option_map (provisional_with version json)) (chunk_at ∙ parts.chunk)
      ∙ ap Some (λ i. record { proof = proof i; chunk = index.chunk; updates = updates i })

  -- each part of a written index is read, if the parts have their form
  pub provisional_parts : (version : ℕ) → IsProvisionalReadAgain index → is_some (chunk_in json) ≡ true → has_provisional_entries version json ≡ true
      → IsProvisionalRead version index
  unfolding has_provisional_entries
  provisional_parts version again some are_entries =
      let both = and_parts _ _ are_entries in
      record {
        proof = uri_again index.proof (sym (ap is_uri_if_there proof_at) ∙ both.0) again.proof;
        chunk = read_as (uri_in (Some (hash_json index.chunk))) index.chunk (sym (ap is_some chunk_at) ∙ some) (again.chunk 1);
        updates = now_again target_of target_json version index.updates (sym (ap (each_is (target_of version)) updates_at) ∙ both.1) again.updates;
      }

  -- ---- the rules

  form_passes : has_provisional_form json ≡ true
  unfolding has_provisional_form
  form_passes =
      let names = has_only-some_listed provisional_names (provisional_members index) refl in
      let update = ap is_list_if_there (member_at-some_listed (codes "update") (provisional_lists index) refl) ∙ list_passes (map target_json index.updates) in
      let lists = lists_pass (codes "update" ∷ []) (provisional_operations index) (has_only-some_listed (codes "update" ∷ []) (provisional_lists index) refl)
      (and_from _ _ update refl) in
      and_from _ _ names (rw operations_there lists)

module _ (limits : ParamsValue) (count : ℕ) (core : CoreIndex) (index : ProvisionalIndex) (sound : IsProvisionalSound limits count core index) where
  entries_pass : has_provisional_entries limits.version (json index) ≡ true
  unfolding has_provisional_entries
  entries_pass =
      and_from _ _ (ap is_uri_if_there (proof_at index) ∙ uri_passes index.proof sound.parts.proof)
      (ap (each_is (target_of limits.version)) (updates_at index) ∙ each_again (target_of limits.version) target_json index.updates sound.parts.updates)

  updates_are : updates_in limits.version (json index) ≡ index.updates
  updates_are = updates_say index limits.version sound.parts.updates

  counted : update_count (json index) ≡ length index.updates
  counted = sym (counted_updates limits.version (json index) entries_pass) ∙ ap length updates_are

  count_passes : nat_lt count (core_count core + update_count (json index)) ≡ false
  count_passes = le-ltb count (core_count core + update_count (json index)) (omega (arith, sound.few, counted))

  proved_passes : one_alone (is_some (member_in (codes "provisionalProofFileUri") (json index))) (nat_lt 0 (update_count (json index))) ≡ false
  proved_passes =
      let there = sym (stray_provisional limits.version (json index) entries_pass) ∙ ap is_some (proof_says index sound.parts.proof) in
      (λ i. one_alone (there i) (nat_lt 0 (counted i))) ∙ sound.proved

  some_passes : (length core.creates + length core.recovers + update_count (json index) == 0) ≡ false
  some_passes = ne_eqb (length core.creates + length core.recovers + update_count (json index)) 0 (λ is. omega (arith, is, sound.some, counted))

  -- its file fails no rule, and its content is the index
  pub provisional_again : length (canonical (provisional_json index)) ≤ limits.max_index
      → (first_failing_provisional_rule limits count core (canonical (provisional_json index)) ≡ None)
      × (provisional_index_of limits.version (json_in (canonical (provisional_json index))) ≡ Some index)
  provisional_again small =
      let different : repeats_suffix (suffixes_in (updates_in limits.version (json index))) core ≡ false =
      ap (λ said. repeats_suffix (suffixes_in said) core) updates_are ∙ sound.different in
      let named : is_none (chunk_in (json index)) ≡ false = ap is_none (chunk_at index ∙ sound.parts.chunk) in (
        written_passes P1 P2 (provisional_json_rules limits count core) limits.max_index (provisional_json index) (provisional_readable index) (
          le-ltb _ _ small,
          (not_from_true _ (form_passes index), (named, (not_from_true _ entries_pass, (different, (count_passes, (proved_passes, (some_passes, tt))))))),
        ),
        ap (provisional_index_of limits.version) (json_again (provisional_json index) (provisional_readable index)) ∙ provisional_says index limits.version sound.parts,
      )
