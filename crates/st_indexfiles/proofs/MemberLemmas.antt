-- The canonical text of index files, one member after another.
use Rattle.std.proofs.Common.{◌≡◌, ◌∙◌, ℕ, Bool, true, false, List, [], ◌∷◌, ◌++◌, codes, map, Option, Some, None, option_map, refl, sym, ap, append_assoc, ◌≤◌, ◌<◌, length, nat_lt, arith, zero, suc, slice_index, inl, ◌+◌, ◌==◌, not, cond, drop, get_or}
use Rattle.std.proofs.lemmas.Bool.Decides.{nat_tests}
use Rattle.std.proofs.lemmas.List.{append-nil}
use Rattle.std.proofs.lemmas.Map.Made.{distinct_count-le}
use Rattle.std.specs.BTreeSet.{BTreeSet, IsFromIterResult, contains}
use Rattle.std.specs.Int.{to_be_bytes, w32}
use Rattle.std.specs.List.{AllByRecursion, list_any}
use Rattle.std.specs.Ordering.{eq_by_cmp}
use Rattle.std.specs.Prelude.{◌||◌, is_some}
use Rattle.std.specs.Set.{distinct_count, unique_keys}
use Rattle.std.specs.Str.{chars}
use Rattle.base64.specs.GeneralPurpose.{IsBytes}
use Rattle.sha2.proofs.Facts256.{length-sha256}
use Rattle.sha2.specs.Sha256.{digest_bytes, sha256}
use Rattle.st_base.proofs.ListLemmas.{next_item, each-append}
use Rattle.st_base.specs.Lists.{has_twice, shares_one}
use Rattle.st_plain.proofs.ListedLemmas.{canonical-sorted}
use Rattle.st_plain.proofs.NameLemmas.{names_on_literals}
use Rattle.st_plain.specs.Plain.{canonical, comma, escape, Plain, list, object, Members, no_members, member}
use Rattle.st_plain.specs.Objects.{put_some, some_list, some_listed, some_object, items_of}
use Rattle.st_plain.specs.inside.Objects.{member_text, name_text}
use Rattle.st_hash.proofs.HashLemmas.{hash_of_text-hash_text}
use Rattle.st_hash.specs.Hash.{IsHash, hash_of_text, hash_text, uri_of, HashValue, hash_cmp, same_hash, same_hash-ties}
use Rattle.st_indexfiles.proofs.WrittenLemmas.{IsUriAgain}
use Rattle.st_indexfiles.specs.CoreIndex.{core_json, core_lists, core_members, core_operations, hash_json, create_json, create_of, target_json, target_of}
use Rattle.st_indexfiles.specs.ProvisionalIndex.{chunk_json, provisional_json, provisional_lists, provisional_members, provisional_operations}
use Rattle.st_indexfiles.specs.declared.core_index.CoreIndex.{CoreIndex}
use Rattle.st_indexfiles.specs.declared.provisional_index.ProvisionalIndex.{ProvisionalIndex}
use Rattle.st_indexfiles.specs.declared.suffix_data.SuffixData.{SuffixData}
use Rattle.st_indexfiles.specs.declared.entries.Target.{Target}
use Rattle.st_indexfiles.specs.inside.CoreParts.{AreReadAgain}

-- ---- pieces written one after another

pub joined : {mid new : List ℕ} (old first second : List ℕ) → mid ≡ old ++ first → new ≡ mid ++ second → new ≡ old ++ (first ++ second)
joined old first second begun all = all ∙ ap (λ text. text ++ second) begun ∙ append_assoc old first second

-- ---- entries

pub create_text : (create : SuffixData) → canonical (create_json create)
    ≡ codes "{\"suffixData\":{\"deltaHash\":" ++ canonical (hash_json create.delta_hash)
    ++ codes ",\"recoveryCommitment\":" ++ canonical (hash_json create.recovery_commitment) ++ codes "}}"
unfolding names_on_literals escape
create_text create = simp append_assoc

pub target_text : (target : Target) → canonical (target_json target)
    ≡ codes "{\"didSuffix\":" ++ canonical (hash_json target.suffix) ++ codes ",\"revealValue\":" ++ canonical (hash_json target.reveal) ++ codes "}"
unfolding names_on_literals escape
target_text target = simp append_assoc

-- ---- optional members

-- a member that is missing makes no comma due
pub still_due : (due : Bool) (there : Option Plain) → there ≡ None → due ≡ (due || is_some there)
still_due true there none = refl
still_due false there none = sym (ap is_some none)

pub now_due : (due : Bool) (there : Option Plain) (value : Plain) → there ≡ Some value → true ≡ (due || is_some there)
now_due true there value some = refl
now_due false there value some = sym (ap is_some some)

pub nothing_there : (out name : List ℕ) (due : Bool) (there : Option Plain) → there ≡ None → out ≡ out ++ member_text due name there
nothing_there out name due there none = sym (append-nil out) ∙ ap (λ value. out ++ member_text due name value) (sym none)

pub something_there : (old new name : List ℕ) (due : Bool) (there : Option Plain) (value : Plain) → there ≡ Some value
    → new ≡ old ++ (comma due ++ name_text name ++ canonical value) → new ≡ old ++ member_text due name there
something_there old new name due there value some all = all ∙ ap (λ text. old ++ text) (append_assoc (comma due) (name_text name) (canonical value))
    ∙ ap (λ other. old ++ member_text due name other) (sym some)

-- ---- lists and objects that are left out if they are empty

module _ {Said : Type 0} (json : Said → Plain) where
  pub none_said : (said : List Said) → length said ≡ 0 → some_list (map json said) ≡ None
  unfolding some_list
  none_said [] none = refl
  none_said (one ∷ more) none = absurd (omega (arith, none))

  pub some_said : (said : List Said) → 1 ≤ length said → some_list (map json said) ≡ Some (list (items_of (map json said)))
  unfolding some_list
  some_said [] some = absurd (omega (arith, some))
  some_said (one ∷ more) some = refl

  pub said_there : (said : List Said) → is_some (some_list (map json said)) ≡ nat_lt 0 (length said)
  unfolding some_list
  said_there [] = refl
  said_there (one ∷ more) = grind (arith, nat_tests)

none_read : {Said : Type 0} (read : ℕ → Plain → Option Said) (json : Said → Plain) (said : List Said) → nat_lt 0 (length said) ≡ false
    → AreReadAgain read json said
none_read read json [] none = tt
none_read read json (one ∷ more) none = absurd (let some : 0 < length (one ∷ more) = omega arith in grind (arith, nat_tests))

pub no_object : (ms : Members) → is_some (some_object ms) ≡ false → some_object ms ≡ None
unfolding some_object
no_object no_members none = refl
no_object (member name value ms) none = cc

pub an_object : (ms : Members) → is_some (some_object ms) ≡ true → some_object ms ≡ Some (object ms)
unfolding some_object
an_object no_members some = cc
an_object (member name value ms) some = refl

-- ---- the objects

-- the kinds of operations that are there
of_kinds : (creates recovers deactivates : Option Plain)
    → is_some (some_object (some_listed ((codes "create", creates) ∷ (codes "recover", recovers) ∷ (codes "deactivate", deactivates) ∷ [])))
    ≡ ((is_some creates || is_some recovers) || is_some deactivates)
unfolding some_object put_some names_on_literals
of_kinds None None None = refl
of_kinds None None (Some d) = refl
of_kinds None (Some r) None = refl
of_kinds None (Some r) (Some d) = refl
of_kinds (Some c) None None = refl
of_kinds (Some c) None (Some d) = refl
of_kinds (Some c) (Some r) None = refl
of_kinds (Some c) (Some r) (Some d) = refl

pub operations_there : (index : CoreIndex) → is_some (some_object (core_operations index))
    ≡ ((nat_lt 0 (length index.creates) || nat_lt 0 (length index.recovers)) || nat_lt 0 (length index.deactivates))
operations_there index =
    of_kinds (some_list (map create_json index.creates)) (some_list (map target_json index.recovers)) (some_list (map target_json index.deactivates))
    ∙ (λ i. (said_there create_json index.creates i || said_there target_json index.recovers i) || said_there target_json index.deactivates i)

neither : (x y z : Bool) → ((x || y) || z) ≡ false → (x ≡ false) × (y ≡ false) × (z ≡ false)
neither true y z none = cc
neither false true z none = cc
neither false false true none = cc
neither false false false none = (refl, refl, refl)

-- if there are no operations, there are none of any kind
pub no_operations : (index : CoreIndex) → is_some (some_object (core_operations index)) ≡ false
    → AreReadAgain create_of create_json index.creates × AreReadAgain target_of target_json index.recovers × AreReadAgain target_of target_json index.deactivates
no_operations index none =
    let parts = neither _ _ _ (sym (operations_there index) ∙ none) in (
      none_read create_of create_json index.creates parts.0,
      none_read target_of target_json index.recovers parts.1,
      none_read target_of target_json index.deactivates parts.2,
    )

pub updates_there : (updates : Option Plain) → is_some (some_object (some_listed ((codes "update", updates) ∷ []))) ≡ is_some updates
unfolding some_object put_some
updates_there None = refl
updates_there (Some there) = refl

module _ (index : CoreIndex) where
  pub core_text : canonical (core_json index)
      ≡ codes "{" ++ member_text false (codes "coreProofFileUri") (option_map hash_json index.core_proof)
      ++ member_text (false || is_some (option_map hash_json index.core_proof)) (codes "operations") (some_object (core_operations index))
      ++ member_text ((false || is_some (option_map hash_json index.core_proof)) || is_some (some_object (core_operations index)))
      (codes "provisionalIndexFileUri") (option_map hash_json index.provisional) ++ codes "}"
  unfolding chars
  core_text =
      canonical-sorted (core_members index) ((codes "coreProofFileUri", option_map hash_json index.core_proof)
      ∷ (codes "operations", some_object (core_operations index)) ∷ (codes "provisionalIndexFileUri", option_map hash_json index.provisional) ∷ []) refl refl
      ∙ simp append_assoc

  pub core_operations_text : canonical (object (core_operations index))
      ≡ codes "{" ++ member_text false (codes "create") (some_list (map create_json index.creates))
      ++ member_text (false || is_some (some_list (map create_json index.creates))) (codes "deactivate") (some_list (map target_json index.deactivates))
      ++ member_text ((false || is_some (some_list (map create_json index.creates))) || is_some (some_list (map target_json index.deactivates)))
      (codes "recover") (some_list (map target_json index.recovers)) ++ codes "}"
  unfolding chars
  core_operations_text =
      canonical-sorted (core_lists index) ((codes "create", some_list (map create_json index.creates))
      ∷ (codes "deactivate", some_list (map target_json index.deactivates)) ∷ (codes "recover", some_list (map target_json index.recovers)) ∷ []) refl refl
      ∙ simp append_assoc

module _ (index : ProvisionalIndex) where
  pub provisional_text : canonical (provisional_json index)
      ≡ codes "{\"chunks\":[{\"chunkFileUri\":" ++ canonical (hash_json index.chunk)
      ++ codes "}]" ++ member_text true (codes "operations") (some_object (provisional_operations index))
      ++ member_text true (codes "provisionalProofFileUri") (option_map hash_json index.proof) ++ codes "}"
  unfolding chars escape some_list
  provisional_text =
      canonical-sorted (provisional_members index) ((codes "chunks", some_list (chunk_json index.chunk ∷ []))
      ∷ (codes "operations", some_object (provisional_operations index)) ∷ (codes "provisionalProofFileUri", option_map hash_json index.proof) ∷ []) refl refl
      ∙ simp append_assoc

  pub provisional_operations_text : canonical (object (provisional_operations index))
      ≡ codes "{" ++ member_text false (codes "update") (some_list (map target_json index.updates)) ++ codes "}"
  unfolding chars
  provisional_operations_text =
      canonical-sorted (provisional_lists index) ((codes "update", some_list (map target_json index.updates)) ∷ []) refl refl ∙ simp append_assoc

-- ---- A file's URI is a hash that is read from its text again.

abbrev IsByte : ℕ → Type 0
IsByte byte = byte < 256

word_below : (n : ℕ) → AllByRecursion IsByte (to_be_bytes w32 n)
word_below n = (omega arith, (omega arith, (omega arith, (omega arith, tt))))

digest_below : (h : List ℕ) (n : ℕ) → AllByRecursion IsByte (digest_bytes h n)
unfolding digest_bytes
digest_below h zero = tt
digest_below h (suc n) = each-append IsByte (digest_bytes h n) (to_be_bytes w32 (slice_index h n)) (digest_below h n) (word_below (slice_index h n))

at_place : (bytes : List ℕ) → AllByRecursion IsByte bytes → IsBytes bytes
at_place [] all i = omega arith
at_place (byte ∷ bytes) all zero = all.0
at_place (byte ∷ bytes) all (suc i) = at_place bytes all.1 i

-- the URI of a file is a hash
pub uri_is_hash : (file : List ℕ) → IsHash (uri_of file)
unfolding sha256
uri_is_hash file = record { code = inl refl; long = length-sha256 file; bytes = at_place _ (digest_below _ 8) }

-- and is read from its text
pub uri_of_again : (file : List ℕ) → hash_of_text (hash_text (uri_of file)) ≡ Some (uri_of file)
uri_of_again file = hash_of_text-hash_text (uri_of file) (uri_is_hash file) refl

-- the same of an optional file
pub file_uri_again : (file : Option (List ℕ)) → IsUriAgain (option_map uri_of file)
file_uri_again None = tt
file_uri_again (Some bytes) = uri_of_again bytes

-- ---- An item appears twice if there are fewer different ones than items; hashes by the order of a set.

same_count : (m n : ℕ) → not (suc m == suc n) ≡ not (m == n)
same_count m n = grind (arith, nat_tests)

fewer : (m n : ℕ) → m ≤ n → not (m == suc n) ≡ true
fewer m n h = grind (arith, nat_tests)

has_twice-counted : {Item : Type 0} (same : Item → Item → Bool) (items : List Item)
    → not (distinct_count same items == length items) ≡ has_twice same items
has_twice-counted same [] = refl
has_twice-counted same (item ∷ later) =
    elim (list_any (same item) later) as (λ found. not (length (cond found (unique_keys same later) (item ∷ unique_keys same later)) == suc (length later)) ≡ (found || has_twice same later)) [
      | true ↦ fewer (distinct_count same later) (length later) (distinct_count-le same later)
      | false ↦ same_count (distinct_count same later) (length later) ∙ has_twice-counted same later
    ]

-- a hash appears twice if there are fewer different ones than hashes
pub has_twice-count : (hashes : List HashValue) (different : ℕ) → different ≡ distinct_count (eq_by_cmp hash_cmp) hashes
    → not (different == length hashes) ≡ has_twice same_hash hashes
has_twice-count hashes different is =
    ap (λ count. not (count == length hashes)) is ∙ has_twice-counted (eq_by_cmp hash_cmp) hashes
    ∙ (λ i. has_twice (λ x y. sym (same_hash-ties x y) i) hashes)

-- a set of hashes has those of the list it was made from
pub found_in : (set : BTreeSet HashValue) (hashes : List HashValue) → IsFromIterResult hash_cmp hashes set → (hash : HashValue)
    → contains hash_cmp set hash ≡ list_any (same_hash hash) hashes
found_in set hashes made hash = made.0 hash ∙ (λ i. list_any (λ other. sym (same_hash-ties hash other) i) hashes)

pub shares_one-found : (hashes others : List HashValue) (at : ℕ) (hash : HashValue) → at < length hashes → hash ≡ get_or hashes at hash
    → list_any (same_hash hash) others ≡ true → shares_one same_hash (drop at hashes) others ≡ true
shares_one-found hashes others at hash inside is found =
    ap (λ left. shares_one same_hash left others) (next_item hashes at hash inside is) ∙ rw found refl

pub shares_one-later : (hashes others : List HashValue) (at : ℕ) (hash : HashValue) → at < length hashes → hash ≡ get_or hashes at hash
    → list_any (same_hash hash) others ≡ false
    → shares_one same_hash (drop at hashes) others ≡ shares_one same_hash (drop (at + 1) hashes) others
shares_one-later hashes others at hash inside is none =
    ap (λ left. shares_one same_hash left others) (next_item hashes at hash inside is) ∙ rw none refl
