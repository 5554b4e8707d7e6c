-- A chunk file as it was written: its text, its content, and that it fails no rule.
use Rattle.std.proofs.Common.{◌≡◌, ◌∙◌, ℕ, ◌≤◌, ◌++◌, true, false, List, [], ◌∷◌, codes, length, Some, None, refl, sym, ap, arith, map, Option, ◌⊎◌, inl, inr}
use Rattle.std.proofs.lemmas.Bool.{eq-eqb, le-ltb, not_from_true, and_from}
use Rattle.std.proofs.lemmas.List.{length-map}
use Rattle.std.specs.List.{AllByRecursion, filter_map}
use Rattle.std.specs.Str.{IsUtf8}
use lib.Utf8.{encode}
use Rattle.st_base.proofs.ListLemmas.{none_fails, passes}
use Rattle.st_base.specs.Lists.{each_is}
use Rattle.st_plain.proofs.ReadableLemmas.{reads_as, IsReadable, deeper, json_again, list_there, listed_readable, object_readable, MembersAreReadable, object_there}
use Rattle.st_plain.proofs.ListedLemmas.{entries_in-some_list, json_in-written, member_at-some_listed, member_in-some_object}
use Rattle.st_plain.proofs.NameLemmas.{names_on_literals}
use Rattle.st_plain.specs.Plain.{canonical, canonical_items, escape, Plain, Members, IsProper, ItemsAreProper}
use Rattle.st_plain.specs.Objects.{member_at, put_some, some_list, some_listed, some_object, items_of}
use Rattle.st_plain.specs.Shapes.{json_of, entries_in, json_in, member_in, only_member}
use Rattle.st_scan.specs.Standing.{is_object_of_lists}
use Rattle.st_params.specs.ParamsValue.{ParamsValue}
use Rattle.st_indexfiles.proofs.CoreLemmas.{written_passes}
use Rattle.st_indexfiles.proofs.WrittenLemmas.{utf8}
use Rattle.st_datafiles.specs.Chunk.{chunk_json, chunk_json_rules, chunk_rules, deltas_of, first_failing_chunk_rule, has_chunk_form}
use Rattle.st_datafiles.specs.ProofFiles.{core_proof_json, core_proofs_of, proof_json, proofs_of, provisional_proof_json, signed_in, signed_json, signed_of, core_proof_json_rules, core_proof_kinds, first_failing_core_proof_rule, first_failing_provisional_proof_rule, has_proof_form, has_proofs, provisional_proof_json_rules, provisional_proof_kinds}
use Rattle.st_datafiles.specs.declared.chunk.ChunkRule.TheVariants.{K1, K2}
use Rattle.st_datafiles.specs.declared.proof_files.CoreProofs.{CoreProofs}
use Rattle.st_datafiles.specs.declared.proof_files.ProofRule.TheVariants.{Q1, Q2}

-- ---- the text

-- without deltas
pub no_chunk : (deltas : List Plain) → length deltas ≡ 0 → codes "{}" ≡ canonical (chunk_json deltas)
unfolding put_some some_list
no_chunk [] none = refl
no_chunk (delta ∷ deltas) none = absurd (omega (arith, none))

closed : (bytes : List ℕ) → bytes ++ 93 ∷ 125 ∷ [] ≡ ((bytes ++ 93 ∷ []) ++ []) ++ 125 ∷ []
closed [] = refl
closed (byte ∷ bytes) = ap (λ others. byte ∷ others) (closed bytes)

-- and with some, with commas between them
pub some_chunk : (deltas : List Plain) → 1 ≤ length deltas
    → (codes "{\"deltas\":[" ++ canonical_items false (items_of deltas)) ++ codes "]}" ≡ canonical (chunk_json deltas)
unfolding put_some some_list escape
some_chunk [] some = absurd (omega (arith, some))
some_chunk (delta ∷ deltas) some = ap (λ rest. codes "{\"deltas\":[" ++ rest) (closed (canonical_items false (items_of (delta ∷ deltas))))

-- ---- the content

deltas_again : (deltas : List Plain) → deltas_of (Some (chunk_json deltas)) ≡ deltas
unfolding deltas_of
deltas_again deltas =
    ap entries_in (member_at-some_listed (codes "deltas") ((codes "deltas", some_list deltas) ∷ []) refl) ∙ entries_in-some_list deltas

chunk_proper : (deltas : List Plain) → ItemsAreProper (items_of deltas) → IsProper (chunk_json deltas)
unfolding put_some some_list encode
chunk_proper [] proper = tt
chunk_proper (delta ∷ deltas) proper = (utf8 (codes "deltas") (refl, refl), tt, proper, tt)

-- a text that fails no rule is read as the deltas that were written
pub chunk_read : (deltas : List Plain) (text : List ℕ) → ItemsAreProper (items_of deltas) → text ≡ canonical (chunk_json deltas)
    → (limits : ParamsValue) (wanted : ℕ) → first_failing_chunk_rule limits wanted text ≡ None → deltas_of (json_in text) ≡ deltas
chunk_read deltas text proper is limits wanted none =
    let rules = none_fails (chunk_rules limits wanted text) none in
    let again : json_in text ≡ Some (chunk_json deltas) = json_in-written text (chunk_json deltas) (passes _ rules.1.0)
    (λ other read. reads_as (chunk_json deltas) other (chunk_proper deltas proper) (sym (ap json_of is) ∙ read)) in
    ap deltas_of again ∙ deltas_again deltas

-- ---- the rules

chunk_readable : (deltas : List Plain) → AllByRecursion (IsReadable 64) deltas → IsReadable 127 (chunk_json deltas)
unfolding encode
chunk_readable deltas all =
    let listed = listed_readable 65 ((codes "deltas", some_list deltas) ∷ []) ((utf8 (codes "deltas") (refl, refl), list_there 64 deltas all), tt) in
    deeper 66 127 (chunk_json deltas) (omega arith) (object_readable 65 _ listed)

form_passes : (deltas : List Plain) → 1 ≤ length deltas → has_chunk_form (Some (chunk_json deltas)) ≡ true
unfolding has_chunk_form names_on_literals put_some some_list
form_passes [] some = absurd (omega (arith, some))
form_passes (delta ∷ deltas) some = refl

-- the file fails no rule, and its content is the deltas
pub chunk_again : (limits : ParamsValue) (wanted : ℕ) (deltas : List Plain) → 1 ≤ length deltas → AllByRecursion (IsReadable 64) deltas → length deltas ≡ wanted
    → length (canonical (chunk_json deltas)) ≤ limits.max_chunk
    → (first_failing_chunk_rule limits wanted (canonical (chunk_json deltas)) ≡ None) × (deltas_of (json_in (canonical (chunk_json deltas))) ≡ deltas)
chunk_again limits wanted deltas some all long small =
    let counts = not_from_true _ (eq-eqb _ wanted (ap length (deltas_again deltas) ∙ long)) in (
      written_passes K1 K2 (chunk_json_rules wanted) limits.max_chunk (chunk_json deltas) (chunk_readable deltas all)
          (le-ltb _ _ small, (not_from_true _ (form_passes deltas some), (counts, tt))),
      ap deltas_of (json_again (chunk_json deltas) (chunk_readable deltas all)) ∙ deltas_again deltas,
    )

-- ---- Proof files as they were written: their content is the signed texts, and they fail no rule.

-- ---- entries

signed_again : (texts : List (List ℕ)) → filter_map signed_in (map signed_json texts) ≡ texts
signed_again [] = refl
signed_again (signed ∷ texts) = ap (λ others. signed ∷ others) (signed_again texts)

each_signed : (texts : List (List ℕ)) → each_is signed_in (map signed_json texts) ≡ true
each_signed [] = refl
each_signed (signed ∷ texts) = each_signed texts

texts_readable : (texts : List (List ℕ)) → AllByRecursion IsUtf8 texts → AllByRecursion (IsReadable 2) (map signed_json texts)
unfolding names_on_literals encode
texts_readable [] all = tt
texts_readable (signed ∷ texts) all = (((utf8 (codes "signedData") (refl, refl), tt, all.0, tt), omega arith), texts_readable texts all.1)

-- ---- the entries of a kind are those written for it

proofs_at : (kind : List ℕ) (operations : Members) (entries : List Plain) → member_at kind operations ≡ some_list entries
    → proofs_of kind (Some (proof_json operations)) ≡ entries
proofs_at kind operations entries there =
    ap entries_in (ap (member_in kind) (member_at-some_listed (codes "operations") ((codes "operations", some_object operations) ∷ []) refl)
    ∙ member_in-some_object kind operations ∙ there) ∙ entries_in-some_list entries

module _ (kind : List ℕ) (operations : Members) (texts : List (List ℕ)) (there : member_at kind operations ≡ some_list (map signed_json texts)) where
  kind_again : signed_of kind (Some (proof_json operations)) ≡ texts
  unfolding signed_of
  kind_again = ap (filter_map signed_in) (proofs_at kind operations (map signed_json texts) there) ∙ signed_again texts

  kind_passes : each_is signed_in (proofs_of kind (Some (proof_json operations))) ≡ true
  kind_passes = ap (each_is signed_in) (proofs_at kind operations (map signed_json texts) there) ∙ each_signed texts

  kind_counts : (wanted : ℕ) → length texts ≡ wanted → has_proofs kind wanted (Some (proof_json operations)) ≡ true
  unfolding has_proofs
  kind_counts wanted long =
      eq-eqb _ wanted (ap length (proofs_at kind operations (map signed_json texts) there) ∙ length-map texts signed_json ∙ long)

proof_readable : (operations : Members) → MembersAreReadable 3 operations → IsReadable 127 (proof_json operations)
unfolding encode
proof_readable operations readable =
    let all = listed_readable 4 ((codes "operations", some_object operations) ∷ [])
    ((utf8 (codes "operations") (refl, refl), object_there 3 operations readable), tt) in
    deeper 5 127 (proof_json operations) (omega arith) (object_readable 4 _ all)

-- there is a text
abbrev pub HasSome : List (List ℕ) → Type 0
HasSome texts = 1 ≤ length texts

-- ---- the core proof file

core_lists : (recovers deactivates : List (List ℕ)) → HasSome recovers ⊎ HasSome deactivates
    → is_object_of_lists core_proof_kinds (only_member (codes "operations") (Some (core_proof_json (record { recovers = recovers; deactivates = deactivates })))) ≡ true
unfolding names_on_literals put_some some_list some_object
core_lists [] [] (inl some) = absurd (omega arith)
core_lists [] [] (inr some) = absurd (omega arith)
core_lists [] (signed ∷ texts) some = refl
core_lists (signed ∷ texts) [] some = refl
core_lists (signed ∷ texts) (other ∷ others) some = refl

module _ (proofs : CoreProofs) where
  abbrev kinds : List (List ℕ × Option Plain)
  kinds = (codes "recover", some_list (map signed_json proofs.recovers)) ∷ (codes "deactivate", some_list (map signed_json proofs.deactivates)) ∷ []

  recovers_at : member_at (codes "recover") (some_listed kinds) ≡ some_list (map signed_json proofs.recovers)
  recovers_at = member_at-some_listed (codes "recover") kinds refl

  deactivates_at : member_at (codes "deactivate") (some_listed kinds) ≡ some_list (map signed_json proofs.deactivates)
  deactivates_at = member_at-some_listed (codes "deactivate") kinds refl

  pub core_proofs_of-core_proof_json : core_proofs_of (Some (core_proof_json proofs)) ≡ proofs
  core_proofs_of-core_proof_json =
      let recovers = kind_again (codes "recover") (some_listed kinds) proofs.recovers recovers_at in
      let deactivates = kind_again (codes "deactivate") (some_listed kinds) proofs.deactivates deactivates_at in
      λ i. record { recovers = recovers i; deactivates = deactivates i }

  core_proof_readable : AllByRecursion IsUtf8 proofs.recovers → AllByRecursion IsUtf8 proofs.deactivates → IsReadable 127 (core_proof_json proofs)
  unfolding encode
  core_proof_readable recovers deactivates = proof_readable (some_listed kinds) (listed_readable 3 kinds (
    (utf8 (codes "recover") (refl, refl), list_there 2 (map signed_json proofs.recovers) (texts_readable proofs.recovers recovers)),
    ((utf8 (codes "deactivate") (refl, refl), list_there 2 (map signed_json proofs.deactivates) (texts_readable proofs.deactivates deactivates)), tt),
  ))

  core_form_passes : HasSome proofs.recovers ⊎ HasSome proofs.deactivates → has_proof_form core_proof_kinds (Some (core_proof_json proofs)) ≡ true
  unfolding has_proof_form
  core_form_passes some =
      and_from _ _ (core_lists proofs.recovers proofs.deactivates some)
      (and_from _ _ (kind_passes (codes "recover") (some_listed kinds) proofs.recovers recovers_at)
      (and_from _ _ (kind_passes (codes "deactivate") (some_listed kinds) proofs.deactivates deactivates_at) refl))

-- properties of a core proof file that is written
pub record IsCoreProofSound (recovers deactivates : ℕ) (proofs : CoreProofs) : Type 0 where
  pub some : HasSome proofs.recovers ⊎ HasSome proofs.deactivates
  pub recovers_utf8 : AllByRecursion IsUtf8 proofs.recovers
  pub deactivates_utf8 : AllByRecursion IsUtf8 proofs.deactivates
  pub recovers_long : length proofs.recovers ≡ recovers
  pub deactivates_long : length proofs.deactivates ≡ deactivates

-- it fails no rule, and its content is the signed texts
pub core_proof_again : (limits : ParamsValue) (recovers deactivates : ℕ) (proofs : CoreProofs) → IsCoreProofSound recovers deactivates proofs
    → length (canonical (core_proof_json proofs)) ≤ limits.max_proofs
    → (first_failing_core_proof_rule limits recovers deactivates (canonical (core_proof_json proofs)) ≡ None)
    × (core_proofs_of (json_in (canonical (core_proof_json proofs))) ≡ proofs)
core_proof_again limits recovers deactivates proofs sound small =
    let readable = core_proof_readable proofs sound.recovers_utf8 sound.deactivates_utf8 in
    let counts = and_from _ _ (kind_counts (codes "recover") (some_listed (kinds proofs)) proofs.recovers (recovers_at proofs) recovers sound.recovers_long)
    (kind_counts (codes "deactivate") (some_listed (kinds proofs)) proofs.deactivates (deactivates_at proofs) deactivates sound.deactivates_long) in (
      written_passes Q1 Q2 (core_proof_json_rules recovers deactivates) limits.max_proofs (core_proof_json proofs) readable
          (le-ltb _ _ small, (not_from_true _ (core_form_passes proofs sound.some), (not_from_true _ counts, tt))),
      ap core_proofs_of (json_again (core_proof_json proofs) readable) ∙ core_proofs_of-core_proof_json proofs,
    )

-- ---- the provisional proof file

update_lists : (texts : List (List ℕ)) → HasSome texts
    → is_object_of_lists provisional_proof_kinds (only_member (codes "operations") (Some (provisional_proof_json texts))) ≡ true
unfolding names_on_literals put_some some_list some_object
update_lists [] some = absurd (omega arith)
update_lists (signed ∷ texts) some = refl

module _ (texts : List (List ℕ)) where
  abbrev update_kinds : List (List ℕ × Option Plain)
  update_kinds = (codes "update", some_list (map signed_json texts)) ∷ []

  updates_at : member_at (codes "update") (some_listed update_kinds) ≡ some_list (map signed_json texts)
  updates_at = member_at-some_listed (codes "update") update_kinds refl

  pub signed_of-provisional_proof_json : signed_of (codes "update") (Some (provisional_proof_json texts)) ≡ texts
  signed_of-provisional_proof_json = kind_again (codes "update") (some_listed update_kinds) texts updates_at

  provisional_proof_readable : AllByRecursion IsUtf8 texts → IsReadable 127 (provisional_proof_json texts)
  unfolding encode
  provisional_proof_readable all = proof_readable (some_listed update_kinds)
      (listed_readable 3 update_kinds ((utf8 (codes "update") (refl, refl), list_there 2 (map signed_json texts) (texts_readable texts all)), tt))

  provisional_form_passes : HasSome texts → has_proof_form provisional_proof_kinds (Some (provisional_proof_json texts)) ≡ true
  unfolding has_proof_form
  provisional_form_passes some =
      and_from _ _ (update_lists texts some) (and_from _ _ (kind_passes (codes "update") (some_listed update_kinds) texts updates_at) refl)

-- it fails no rule, and its content is the signed texts
pub provisional_proof_again : (limits : ParamsValue) (wanted : ℕ) (texts : List (List ℕ)) → HasSome texts → AllByRecursion IsUtf8 texts → length texts ≡ wanted
    → length (canonical (provisional_proof_json texts)) ≤ limits.max_proofs
    → (first_failing_provisional_proof_rule limits wanted (canonical (provisional_proof_json texts)) ≡ None)
    × (signed_of (codes "update") (json_in (canonical (provisional_proof_json texts))) ≡ texts)
provisional_proof_again limits wanted texts some all long small =
    let readable = provisional_proof_readable texts all in
    let counts = kind_counts (codes "update") (some_listed (update_kinds texts)) texts (updates_at texts) wanted long in (
      written_passes Q1 Q2 (provisional_proof_json_rules wanted) limits.max_proofs (provisional_proof_json texts) readable
          (le-ltb _ _ small, (not_from_true _ (provisional_form_passes texts some), (not_from_true _ counts, tt))),
      ap (signed_of (codes "update")) (json_again (provisional_proof_json texts) readable) ∙ signed_of-provisional_proof_json texts,
    )
