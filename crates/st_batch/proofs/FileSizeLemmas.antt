-- The length of the files of operations, by the sums of their entries.
use Rattle.std.proofs.Common.{◌≡◌, ◌≢◌, ◌∙◌, ℕ, ◌+◌, ◌≤◌, List, [], ◌∷◌, codes, length, map, Option, option_map, refl, ap, sym, arith, Bool}
use Rattle.std.proofs.lemmas.Bool.{ne_eqb}
use Rattle.std.proofs.lemmas.Bool.Decides.{nat_tests}
use Rattle.std.specs.List.{filter_map, sum_by}
use Rattle.st_plain.specs.Plain.{canonical, escape, Plain, Members, no_members, member}
use Rattle.st_plain.specs.Measures.{size_of}
use Rattle.st_plain.specs.Objects.{some_list, some_listed, some_object}
use Rattle.st_hash.specs.Hash.{uri_of}
use Rattle.st_indexfiles.proofs.MemberLemmas.{uri_is_hash}
use Rattle.st_indexfiles.specs.CoreIndex.{core_operations, hash_json, create_json, target_json}
use Rattle.st_indexfiles.specs.ProvisionalIndex.{chunk_json as chunk_entry_json, provisional_json, provisional_operations}
use Rattle.st_indexfiles.specs.declared.core_index.CoreIndex.{CoreIndex}
use Rattle.st_datafiles.specs.ProofFiles.{core_proof_json, proof_json, provisional_proof_json, signed_json}
use Rattle.st_datafiles.specs.declared.role.Role.{Role}
use Rattle.st_datafiles.specs.declared.role.Role.TheVariants.{Core, CoreProof, Provisional, ProvisionalProof, Chunk}
use Rattle.st_ops.specs.Operation.{PlainOperation}
use Rattle.st_ops.specs.Request.{delta_there}
use Rattle.st_batch.proofs.SizeLemmas.{IsBare, entries_weight, list_there, object_size, object_there, member_weight, weight, weight_there, hash_size, core_kinds, core_members, one_member, proof_kinds, provisional_members, deltas_sum, for_chunk, for_core_proof, for_update_proof, weighed}
use Rattle.st_batch.proofs.Sizes.{Sizes, chunk_size, core_proof_size, core_size, file_size, in_brackets, member_size, provisional_proof_size, provisional_size, size_by, sizes_of, uri_size, where_any, create_size, delta_size, one, proof_size, sizes_by, target_size}
use Rattle.st_batch.specs.Batch.{bytes_there, chunk_text, core_file, core_index, core_proof_file, file_in, if_any, provisional_file, provisional_index, provisional_proof_file}
use Rattle.st_batch.specs.Groups.{Grouped, grouped, signed_text_in, suffix_data_in, target_in, with_core_proof, with_delta, is_create, is_deactivate, is_recover, is_update}

-- ---- parts of files

-- a URI with a name without escapes
uri_weight : (name bytes : List ℕ) → IsBare name → member_weight name (hash_json (uri_of bytes)) ≡ length name + 52
uri_weight name bytes bare = omega (arith, bare, hash_size (uri_of bytes) (uri_is_hash bytes))

any_some : (entries size : ℕ) → 1 ≤ entries → where_any entries size ≡ size
any_some entries size some = let other : entries ≢ 0 = omega (arith, some) in rw (ne_eqb entries 0 other) refl

-- the URI of a file that is there if there are operations
uri_there : (operations : List PlainOperation) (entries : ℕ) (name said : List ℕ) → entries ≡ length operations → IsBare name
    → weight_there name (option_map hash_json (option_map uri_of (if_any operations said))) ≡ uri_size name entries
uri_there [] entries name said is bare = rw is refl
uri_there (operation ∷ operations) entries name said is bare =
    omega (arith, uri_weight name said bare, any_some entries (length name + 52) (omega (arith, is)))

-- a member with the entries written from a part of operations
list_of : {Part : Type 0} (name : List ℕ) (write : Part → Plain) (part : PlainOperation → Option Part) (operations : List PlainOperation) → IsBare name
    → weight_there name (some_list (map write (filter_map part operations))) ≡ member_size name (sum_by (size_by write part) operations)
list_of name write part operations bare =
    list_there name (map write (filter_map part operations)) bare ∙ ap (member_size name) (weighed write part operations)

-- the length of a file that is there if there are operations
there_long : (operations : List PlainOperation) (entries size : ℕ) (said : List ℕ) → entries ≡ length operations → length said ≡ size
    → bytes_there (if_any operations said) ≡ where_any entries size
there_long [] entries size said is long = rw is refl
there_long (operation ∷ operations) entries size said is long = long ∙ sym (any_some entries size (omega (arith, is)))

-- ---- files

-- the content of a core proof file
abbrev core_proof_text : Grouped → List ℕ
core_proof_text groups = canonical (core_proof_json (record {
  recovers = filter_map signed_text_in groups.recovers;
  deactivates = filter_map signed_text_in groups.deactivates;
}))

-- the members of a core index file
abbrev index_members : CoreIndex → Members
index_members index = some_listed
    ((codes "coreProofFileUri", option_map hash_json index.core_proof)
    ∷ (codes "provisionalIndexFileUri", option_map hash_json index.provisional)
    ∷ (codes "operations", some_object (core_operations index)) ∷ [])

-- a proof file, by the members of `operations`
proofs_long : (kinds : Members) → size_of (proof_json kinds) ≡ in_brackets (member_size (codes "operations") (weight kinds))
unfolding escape
proofs_long kinds =
    let pairs : List (List ℕ × Option Plain) = (codes "operations", some_object kinds) ∷ [] in
    object_size (some_listed pairs) ∙ ap in_brackets (one_member (codes "operations") (some_object kinds) ∙ object_there (codes "operations") kinds refl)

module _ (operations : List PlainOperation) where
  abbrev groups : Grouped
  groups = grouped operations

  abbrev sizes : Sizes
  sizes = sizes_of operations

  core_long : length (core_file groups) ≡ core_size sizes
  unfolding core_file core_index core_proof_file provisional_file grouped core_size escape
  core_long =
      let index = core_index groups in
      let create : weight_there (codes "create") (some_list (map create_json index.creates)) ≡ member_size (codes "create") sizes.creates =
      list_of (codes "create") create_json suffix_data_in groups.creates refl in
      let recover : weight_there (codes "recover") (some_list (map target_json index.recovers)) ≡ member_size (codes "recover") sizes.recovers =
      list_of (codes "recover") target_json target_in groups.recovers refl in
      let deactivate : weight_there (codes "deactivate") (some_list (map target_json index.deactivates)) ≡ member_size (codes "deactivate") sizes.deactivates =
      list_of (codes "deactivate") target_json target_in groups.deactivates refl in
      let kinds = core_kinds (some_list (map create_json index.creates)) (some_list (map target_json index.recovers))
      (some_list (map target_json index.deactivates)) in
      let inside : weight (core_operations index) ≡ member_size (codes "create") sizes.creates
      + member_size (codes "recover") sizes.recovers + member_size (codes "deactivate") sizes.deactivates =
      omega (arith, create, recover, deactivate, kinds) in
      let third = object_there (codes "operations") (core_operations index) refl ∙ ap (member_size (codes "operations")) inside in
      let first = uri_there (with_core_proof groups) sizes.for_core_proof (codes "coreProofFileUri")
      (core_proof_text groups) (for_core_proof operations) refl in
      let second = uri_there (with_delta groups) sizes.for_chunk (codes "provisionalIndexFileUri")
      (canonical (provisional_json (provisional_index groups))) (for_chunk operations) refl in
      let members = core_members (option_map hash_json index.core_proof) (option_map hash_json index.provisional) (some_object (core_operations index)) in
      object_size (index_members index) ∙ ap in_brackets (omega (arith, members, first, second, third))

  core_proof_long : length (core_proof_text groups) ≡ in_brackets (member_size (codes "operations")
      (member_size (codes "recover") sizes.recover_proofs + member_size (codes "deactivate") sizes.deactivate_proofs))
  unfolding grouped escape
  core_proof_long =
      let recovers = map signed_json (filter_map signed_text_in groups.recovers) in
      let deactivates = map signed_json (filter_map signed_text_in groups.deactivates) in
      let recover : weight_there (codes "recover") (some_list recovers) ≡ member_size (codes "recover") sizes.recover_proofs =
      list_of (codes "recover") signed_json signed_text_in groups.recovers refl in
      let deactivate : weight_there (codes "deactivate") (some_list deactivates) ≡ member_size (codes "deactivate") sizes.deactivate_proofs =
      list_of (codes "deactivate") signed_json signed_text_in groups.deactivates refl in
      let kinds = proof_kinds (some_list recovers) (some_list deactivates) in
      let pairs : List (List ℕ × Option Plain) = (codes "recover", some_list recovers) ∷ (codes "deactivate", some_list deactivates) ∷ [] in
      let inside : weight (some_listed pairs) ≡ member_size (codes "recover") sizes.recover_proofs
      + member_size (codes "deactivate") sizes.deactivate_proofs = omega (arith, recover, deactivate, kinds) in
      proofs_long (some_listed pairs) ∙ ap (λ n. in_brackets (member_size (codes "operations") n)) inside

  provisional_proof_long : length (canonical (provisional_proof_json (filter_map signed_text_in groups.updates)))
      ≡ in_brackets (member_size (codes "operations") (member_size (codes "update") sizes.update_proofs))
  unfolding grouped escape
  provisional_proof_long =
      let updates = some_list (map signed_json (filter_map signed_text_in groups.updates)) in
      let pairs : List (List ℕ × Option Plain) = (codes "update", updates) ∷ [] in
      let inside : weight (some_listed pairs) ≡ member_size (codes "update") sizes.update_proofs =
      one_member (codes "update") updates ∙ list_of (codes "update") signed_json signed_text_in groups.updates refl in
      proofs_long (some_listed pairs) ∙ ap (λ n. in_brackets (member_size (codes "operations") n)) inside

  chunk_long : length (chunk_text groups) ≡ in_brackets (member_size (codes "deltas") sizes.deltas)
  unfolding chunk_text escape
  chunk_long =
      let deltas = filter_map delta_there (with_delta groups) in
      let pairs : List (List ℕ × Option Plain) = (codes "deltas", some_list deltas) ∷ [] in
      object_size (some_listed pairs)
      ∙ ap in_brackets (one_member (codes "deltas") (some_list deltas)
      ∙ (list_there (codes "deltas") deltas refl ∙ ap (member_size (codes "deltas")) (deltas_sum operations)))

  chunk_entry_long : size_of (chunk_entry_json (uri_of (chunk_text groups))) ≡ in_brackets (uri_size (codes "chunkFileUri") 1)
  unfolding escape
  chunk_entry_long =
      let uri = uri_weight (codes "chunkFileUri") (chunk_text groups) refl in
      let only : Members = member (codes "chunkFileUri") (hash_json (uri_of (chunk_text groups))) no_members in
      let inside : weight only ≡ uri_size (codes "chunkFileUri") 1 = omega (arith, uri) in
      object_size only ∙ ap in_brackets inside

  provisional_long : length (canonical (provisional_json (provisional_index groups))) ≡ in_brackets (
      uri_size (codes "provisionalProofFileUri") sizes.for_update_proof
      + member_size (codes "chunks") (in_brackets (uri_size (codes "chunkFileUri") 1) + 1)
      + member_size (codes "operations") (member_size (codes "update") sizes.updates))
  unfolding provisional_index provisional_proof_file grouped escape
  provisional_long =
      let index = provisional_index groups in
      let updates = some_list (map target_json index.updates) in
      let chunks = chunk_entry_json index.chunk ∷ [] in
      let inside : weight (provisional_operations index) ≡ member_size (codes "update") sizes.updates =
      one_member (codes "update") updates ∙ list_of (codes "update") target_json target_in groups.updates refl in
      let third = object_there (codes "operations") (provisional_operations index) refl ∙ ap (member_size (codes "operations")) inside in
      let long : entries_weight chunks ≡ in_brackets (uri_size (codes "chunkFileUri") 1) + 1 = omega (arith, chunk_entry_long) in
      let second = list_there (codes "chunks") chunks refl ∙ ap (member_size (codes "chunks")) long in
      let first = uri_there groups.updates sizes.for_update_proof (codes "provisionalProofFileUri")
      (canonical (provisional_proof_json (filter_map signed_text_in groups.updates))) (for_update_proof operations) refl in
      let members = provisional_members (option_map hash_json index.proof) (some_list chunks) (some_object (provisional_operations index)) in
      let pairs : List (List ℕ × Option Plain) =
      (codes "provisionalProofFileUri", option_map hash_json index.proof) ∷ (codes "chunks", some_list chunks)
      ∷ (codes "operations", some_object (provisional_operations index)) ∷ [] in
      object_size (some_listed pairs) ∙ ap in_brackets (omega (arith, members, first, second, third))

  -- the length of the file of a role, or 0 if there is none
  pub file_long : (role : Role) → bytes_there (file_in role groups) ≡ file_size role sizes
  unfolding core_proof_file provisional_file provisional_proof_file core_proof_size provisional_size provisional_proof_size chunk_size grouped
  file_long Core = core_long
  file_long CoreProof = there_long (with_core_proof groups) sizes.for_core_proof _ (core_proof_text groups) (for_core_proof operations) core_proof_long
  file_long Provisional =
      there_long (with_delta groups) sizes.for_chunk _ (canonical (provisional_json (provisional_index groups))) (for_chunk operations) provisional_long
  file_long ProvisionalProof =
      there_long groups.updates sizes.for_update_proof _ (canonical (provisional_proof_json (filter_map signed_text_in groups.updates)))
      (for_update_proof operations) provisional_proof_long
  file_long Chunk = there_long (with_delta groups) sizes.for_chunk _ (chunk_text groups) (for_chunk operations) chunk_long

-- ---- More entries make no file shorter.

-- ---- parts of files

any_more : (a b x y : ℕ) → a ≤ b → x ≤ y → where_any a x ≤ where_any b y
any_more a b x y more larger = grind (arith, nat_tests)

member_more : (name : List ℕ) (a b : ℕ) → a ≤ b → member_size name a ≤ member_size name b
member_more name a b more = any_more a b (length name + a + 5) (length name + b + 5) more (omega (arith, more))

uri_more : (name : List ℕ) (a b : ℕ) → a ≤ b → uri_size name a ≤ uri_size name b
uri_more name a b more = any_more a b (length name + 52) (length name + 52) more (omega arith)

-- ---- each file is no longer with fewer entries

-- two sums, each of the first at most the second
module _ (fewer more : (PlainOperation → Bool) → (PlainOperation → ℕ) → ℕ)
    (within : (is_kind : PlainOperation → Bool) (size : PlainOperation → ℕ) → fewer is_kind size ≤ more is_kind size) where
  abbrev few : Sizes
  few = sizes_by fewer

  abbrev many : Sizes
  many = sizes_by more

  kind_more : (name : List ℕ) (is_kind : PlainOperation → Bool) (size : PlainOperation → ℕ)
      → member_size name (fewer is_kind size) ≤ member_size name (more is_kind size)
  kind_more name is_kind size = member_more name (fewer is_kind size) (more is_kind size) (within is_kind size)

  any_core_proof : few.for_core_proof ≤ many.for_core_proof
  any_core_proof = omega (arith, within is_recover one, within is_deactivate one)

  any_chunk : few.for_chunk ≤ many.for_chunk
  any_chunk = omega (arith, within is_create one, within is_recover one, within is_update one)

  core_more : core_size few ≤ core_size many
  unfolding core_size
  core_more =
      let create = kind_more (codes "create") is_create create_size in
      let recover = kind_more (codes "recover") is_recover target_size in
      let deactivate = kind_more (codes "deactivate") is_deactivate target_size in
      let operations = member_more (codes "operations")
      (member_size (codes "create") few.creates + member_size (codes "recover") few.recovers + member_size (codes "deactivate") few.deactivates)
      (member_size (codes "create") many.creates + member_size (codes "recover") many.recovers + member_size (codes "deactivate") many.deactivates)
      (omega (arith, create, recover, deactivate)) in
      let core_proof = uri_more (codes "coreProofFileUri") few.for_core_proof many.for_core_proof any_core_proof in
      let provisional = uri_more (codes "provisionalIndexFileUri") few.for_chunk many.for_chunk any_chunk in
      omega (arith, operations, core_proof, provisional)

  core_proof_more : core_proof_size few ≤ core_proof_size many
  unfolding core_proof_size
  core_proof_more =
      let recover = kind_more (codes "recover") is_recover proof_size in
      let deactivate = kind_more (codes "deactivate") is_deactivate proof_size in
      let operations = member_more (codes "operations")
      (member_size (codes "recover") few.recover_proofs + member_size (codes "deactivate") few.deactivate_proofs)
      (member_size (codes "recover") many.recover_proofs + member_size (codes "deactivate") many.deactivate_proofs)
      (omega (arith, recover, deactivate)) in
      any_more few.for_core_proof many.for_core_proof _ _ any_core_proof (omega (arith, operations))

  provisional_more : provisional_size few ≤ provisional_size many
  unfolding provisional_size
  provisional_more =
      let update = kind_more (codes "update") is_update target_size in
      let operations = member_more (codes "operations") (member_size (codes "update") few.updates) (member_size (codes "update") many.updates) update in
      let proof = uri_more (codes "provisionalProofFileUri") few.for_update_proof many.for_update_proof (within is_update one) in
      any_more few.for_chunk many.for_chunk _ _ any_chunk (omega (arith, operations, proof))

  provisional_proof_more : provisional_proof_size few ≤ provisional_proof_size many
  unfolding provisional_proof_size
  provisional_proof_more =
      let update = kind_more (codes "update") is_update proof_size in
      let operations = member_more (codes "operations") (member_size (codes "update") few.update_proofs)
      (member_size (codes "update") many.update_proofs) update in
      any_more few.for_update_proof many.for_update_proof _ _ (within is_update one) (omega (arith, operations))

  chunk_more : chunk_size few ≤ chunk_size many
  unfolding chunk_size
  chunk_more =
      let deltas = member_more (codes "deltas") few.deltas many.deltas
      (omega (arith, within is_create delta_size, within is_recover delta_size, within is_update delta_size)) in
      any_more few.for_chunk many.for_chunk _ _ any_chunk (omega (arith, deltas))

  -- the file of any role
  pub file_more : (role : Role) → file_size role few ≤ file_size role many
  file_more Core = core_more
  file_more CoreProof = core_proof_more
  file_more Provisional = provisional_more
  file_more ProvisionalProof = provisional_proof_more
  file_more Chunk = chunk_more
