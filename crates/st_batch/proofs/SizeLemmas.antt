-- The length of the members of an object.
use Rattle.std.proofs.Common.{ℕ, ◌+◌, List, length, Option, Some, None, ◌≡◌, ◌≢◌, ◌≤◌, ◌++◌, true, [], ◌∷◌, length-append, refl, arith, ap, codes, ◌==◌, Bool, false, if◌then◌else◌, ◌∙◌, filter, map, take, drop, option_map, sym}
use Rattle.std.proofs.lemmas.Bool.{ne_eqb}
use Rattle.std.proofs.lemmas.List.{map-id, take-append-drop, take-take}
use Rattle.std.proofs.lemmas.List.Elements.{filter-append}
use Rattle.std.proofs.lemmas.List.Sums.{sum_by-append, sum_by-cons}
use Rattle.std.specs.List.{flat_map, cons_option, filter_map, sum_by}
use Rattle.st_plain.proofs.NameLemmas.{names_on_literals}
use Rattle.st_plain.specs.Plain.{quoted, canonical, canonical_items, canonical_members, escape, Plain, Members, no_members, member, list, object, text}
use Rattle.st_plain.specs.Measures.{size_of}
use Rattle.st_plain.specs.Objects.{some_list, some_object, put_some, some_listed, items_of}
use Rattle.st_hash.proofs.HashLemmas.{length-hash_text}
use Rattle.st_hash.specs.Hash.{HashValue, IsHash, hash_text, text_length}
use Rattle.st_indexfiles.proofs.BareLemmas.{hash_text_bare}
use Rattle.st_indexfiles.specs.CoreIndex.{hash_json, create_json, suffix_data_json, target_json}
use Rattle.st_indexfiles.specs.declared.suffix_data.SuffixData.{SuffixData}
use Rattle.st_indexfiles.specs.declared.entries.Target.{Target}
use Rattle.st_datafiles.specs.ProofFiles.{signed_json}
use Rattle.st_ops.specs.Operation.{PlainOperation}
use Rattle.st_ops.specs.Request.{delta_there}
use Rattle.st_batch.proofs.Sizes.{in_brackets, member_size, delta_size, entry_size, one, size_by, sizes_of}
use Rattle.st_batch.specs.Groups.{grouped, is_create, is_deactivate, is_recover, is_update, with_core_proof, with_delta}

-- a member with its name, a colon and a comma
abbrev pub member_weight : List ℕ → Plain → ℕ
member_weight name p = length (quoted name) + size_of p + 2

abbrev pub weight : Members → ℕ
weight no_members = 0
weight (member name p ms) = member_weight name p + weight ms

-- and an optional one
abbrev pub weight_there : List ℕ → Option Plain → ℕ
weight_there name None = 0
weight_there name (Some p) = member_weight name p

-- ---- The length of canonical texts, by their parts.

-- ---- objects

members_after : (ms : Members) → length (canonical_members true ms) ≡ weight ms
members_after no_members = refl
members_after (member name p ms) =
    let later = canonical p ++ canonical_members true ms in
    omega (arith, members_after ms, length-append (quoted name) (58 ∷ later), length-append (canonical p) (canonical_members true ms))

-- an object, by its members with a comma after each
pub object_size : (ms : Members) → size_of (object ms) ≡ in_brackets (weight ms)
object_size no_members = refl
object_size (member name p ms) =
    let later = canonical p ++ canonical_members true ms in
    let whole = quoted name ++ (58 ∷ later) in
    omega (
      arith,
      members_after ms,
      length-append whole (125 ∷ []),
      length-append (quoted name) (58 ∷ later),
      length-append (canonical p) (canonical_members true ms),
    )

-- ---- lists

-- entries with a comma after each
abbrev pub entries_weight : List Plain → ℕ
entries_weight [] = 0
entries_weight (p ∷ ps) = size_of p + 1 + entries_weight ps

items_after : (ps : List Plain) → length (canonical_items true (items_of ps)) ≡ entries_weight ps
items_after [] = refl
items_after (p ∷ ps) = omega (arith, items_after ps, length-append (canonical p) (canonical_items true (items_of ps)))

-- a list, by its entries
pub list_size : (ps : List Plain) → size_of (list (items_of ps)) ≡ in_brackets (entries_weight ps)
list_size [] = refl
list_size (p ∷ ps) =
    let all = canonical p ++ canonical_items true (items_of ps) in
    omega (arith, items_after ps, length-append all (93 ∷ []), length-append (canonical p) (canonical_items true (items_of ps)))

-- ---- optional members

-- a member that is there
pub some_size : (name : List ℕ) (inside : ℕ) → 1 ≤ inside → member_size name inside ≡ length name + inside + 5
some_size name inside some = let other : inside ≢ 0 = omega arith in rw (ne_eqb inside 0 other) refl

-- no byte of the name is escaped
abbrev pub IsBare : List ℕ → Type 0
IsBare name = length (quoted name) ≡ length name + 2

-- a member with a list, if that is not empty
pub list_there : (name : List ℕ) (ps : List Plain) → IsBare name → weight_there name (some_list ps) ≡ member_size name (entries_weight ps)
unfolding some_list
list_there name [] bare = refl
list_there name (p ∷ ps) bare =
    omega (arith, bare, list_size (p ∷ ps), some_size name (entries_weight (p ∷ ps)) (omega arith))

-- a member with an object, if that is not empty
pub object_there : (name : List ℕ) (ms : Members) → IsBare name → weight_there name (some_object ms) ≡ member_size name (weight ms)
unfolding some_object
object_there name no_members bare = refl
object_there name (member n p ms) bare =
    omega (arith, bare, object_size (member n p ms), some_size name (weight (member n p ms)) (omega arith))

-- ---- The length of hashes as JSON: nothing in a hash text is escaped.

-- a hash in its quotes
pub hash_size : (hash : HashValue) → IsHash hash → size_of (text (hash_text hash)) ≡ text_length hash.code + 2
hash_size hash is = omega (
  arith,
  ap length (hash_text_bare hash is),
  length-append (flat_map escape (hash_text hash)) (34 ∷ []),
  length-hash_text hash is,
)

-- ---- The total length of the members of each object in a file.

-- of a core index
pub core_members : (core_proof provisional operations : Option Plain)
    → weight (some_listed ((codes "coreProofFileUri", core_proof) ∷ (codes "provisionalIndexFileUri", provisional) ∷ (codes "operations", operations) ∷ []))
    ≡ weight_there (codes "coreProofFileUri") core_proof + weight_there (codes "provisionalIndexFileUri") provisional
    + weight_there (codes "operations") operations
unfolding names_on_literals put_some
core_members None None None = omega arith
core_members None None (Some c) = omega arith
core_members None (Some b) None = omega arith
core_members None (Some b) (Some c) = omega arith
core_members (Some a) None None = omega arith
core_members (Some a) None (Some c) = omega arith
core_members (Some a) (Some b) None = omega arith
core_members (Some a) (Some b) (Some c) = omega arith

-- and of its operations
pub core_kinds : (create recover deactivate : Option Plain)
    → weight (some_listed ((codes "create", create) ∷ (codes "recover", recover) ∷ (codes "deactivate", deactivate) ∷ []))
    ≡ weight_there (codes "create") create + weight_there (codes "recover") recover + weight_there (codes "deactivate") deactivate
unfolding names_on_literals put_some
core_kinds None None None = omega arith
core_kinds None None (Some c) = omega arith
core_kinds None (Some b) None = omega arith
core_kinds None (Some b) (Some c) = omega arith
core_kinds (Some a) None None = omega arith
core_kinds (Some a) None (Some c) = omega arith
core_kinds (Some a) (Some b) None = omega arith
core_kinds (Some a) (Some b) (Some c) = omega arith

-- of a provisional index
pub provisional_members : (proof chunks operations : Option Plain)
    → weight (some_listed ((codes "provisionalProofFileUri", proof) ∷ (codes "chunks", chunks) ∷ (codes "operations", operations) ∷ []))
    ≡ weight_there (codes "provisionalProofFileUri") proof + weight_there (codes "chunks") chunks + weight_there (codes "operations") operations
unfolding names_on_literals put_some
provisional_members None None None = omega arith
provisional_members None None (Some c) = omega arith
provisional_members None (Some b) None = omega arith
provisional_members None (Some b) (Some c) = omega arith
provisional_members (Some a) None None = omega arith
provisional_members (Some a) None (Some c) = omega arith
provisional_members (Some a) (Some b) None = omega arith
provisional_members (Some a) (Some b) (Some c) = omega arith

-- of the operations of a core proof file
pub proof_kinds : (recover deactivate : Option Plain)
    → weight (some_listed ((codes "recover", recover) ∷ (codes "deactivate", deactivate) ∷ []))
    ≡ weight_there (codes "recover") recover + weight_there (codes "deactivate") deactivate
unfolding names_on_literals put_some
proof_kinds None None = omega arith
proof_kinds None (Some b) = omega arith
proof_kinds (Some a) None = omega arith
proof_kinds (Some a) (Some b) = omega arith

-- of an object with one member
pub one_member : (name : List ℕ) (there : Option Plain) → weight (some_listed ((name, there) ∷ [])) ≡ weight_there name there
unfolding put_some
one_member name None = omega arith
one_member name (Some a) = omega arith

-- ---- The length of the entries that one operation adds to lists.

-- the target of an update, a recover or a deactivate
pub target_long : (target : Target) → IsHash target.suffix → IsHash target.reveal
    → size_of (target_json target) ≡ 33 + text_length target.suffix.code + text_length target.reveal.code
unfolding names_on_literals escape
target_long target suffix reveal =
    let members : Members = member (codes "didSuffix") (hash_json target.suffix) (member (codes "revealValue") (hash_json target.reveal) no_members) in
    omega (arith, object_size members, hash_size target.suffix suffix, hash_size target.reveal reveal)

-- a create
pub create_long : (create : SuffixData) → IsHash create.delta_hash → IsHash create.recovery_commitment
    → size_of (create_json create) ≡ 55 + text_length create.delta_hash.code + text_length create.recovery_commitment.code
unfolding names_on_literals escape
create_long create delta_hash recovery_commitment =
    let inside : Members = member (codes "deltaHash") (hash_json create.delta_hash)
    (member (codes "recoveryCommitment") (hash_json create.recovery_commitment) no_members) in
    let members : Members = member (codes "suffixData") (suffix_data_json create) no_members in
    omega (arith, object_size inside, object_size members, hash_size create.delta_hash delta_hash, hash_size create.recovery_commitment recovery_commitment)

-- a signed text
pub signed_long : (signed : List ℕ) → size_of (signed_json signed) ≡ 15 + length (quoted signed)
unfolding escape
signed_long signed = omega (arith, object_size (member (codes "signedData") (text signed) no_members))

-- the text of a hash has at most this many characters
pub text_short : (hash : HashValue) → IsHash hash → text_length hash.code ≤ 88
text_short hash is = by (hash.code == 0x13)
  where
    by : (second : Bool) → (if second then 88 else 46) ≤ 88
    by true = omega arith
    by false = omega arith

-- ---- Sums over operations of a kind: the bytes of their entries, their number, and that a longer prefix has no smaller sum.

-- ---- entries

module _ {Part : Type 0} (write : Part → Plain) (part : PlainOperation → Option Part) where
  one_entry : (there : Option Part) (others : List Part)
      → entries_weight (map write (cons_option there others)) ≡ entry_size (option_map write there) + entries_weight (map write others)
  one_entry None others = omega arith
  one_entry (Some entry) others = omega arith

  -- the entries written from the parts of operations have the size that each adds
  pub weighed : (operations : List PlainOperation) → entries_weight (map write (filter_map part operations)) ≡ sum_by (size_by write part) operations
  weighed [] = refl
  weighed (operation ∷ operations) =
      omega (arith, one_entry (part operation) (filter_map part operations), weighed operations, sum_by-cons (size_by write part) operation operations)

-- all deltas of a chunk file
pub deltas_sum : (operations : List PlainOperation) → entries_weight (filter_map delta_there (with_delta (grouped operations))) ≡ (sizes_of operations).deltas
unfolding grouped
deltas_sum operations =
    let creates = filter is_create operations in
    let recovers = filter is_recover operations in
    let updates = filter is_update operations in
    ap entries_weight (sym (map-id (filter_map delta_there (creates ++ recovers ++ updates))))
    ∙ (weighed (λ (delta : Plain). delta) delta_there (creates ++ recovers ++ updates)
    ∙ (sum_by-append delta_size (creates ++ recovers) updates ∙ ap (λ n. n + sum_by delta_size updates) (sum_by-append delta_size creates recovers)))

-- ---- numbers

counted : (operations : List PlainOperation) → sum_by one operations ≡ length operations
counted [] = refl
counted (operation ∷ operations) = omega (arith, counted operations, sum_by-cons one operation operations)

module _ (operations : List PlainOperation) where
  pub for_core_proof : (sizes_of operations).for_core_proof ≡ length (with_core_proof (grouped operations))
  unfolding grouped
  for_core_proof =
      let recovers = filter is_recover operations in
      let deactivates = filter is_deactivate operations in
      omega (arith, counted recovers, counted deactivates, length-append recovers deactivates)

  pub for_chunk : (sizes_of operations).for_chunk ≡ length (with_delta (grouped operations))
  unfolding grouped
  for_chunk =
      let creates = filter is_create operations in
      let recovers = filter is_recover operations in
      let updates = filter is_update operations in
      omega (arith, counted creates, counted recovers, counted updates, length-append (creates ++ recovers) updates, length-append creates recovers)

  pub for_update_proof : (sizes_of operations).for_update_proof ≡ length (grouped operations).updates
  unfolding grouped
  for_update_proof = counted (filter is_update operations)

-- ---- prefixes

pub grows : (is_kind : PlainOperation → Bool) (size : PlainOperation → ℕ) (fewer more : ℕ) (operations : List PlainOperation) → fewer ≤ more
    → sum_by size (filter is_kind (take fewer operations)) ≤ sum_by size (filter is_kind (take more operations))
grows is_kind size fewer more operations less =
    let first = take fewer operations in
    let rest = drop fewer (take more operations) in
    let split : take more operations ≡ first ++ rest =
    sym (take-append-drop fewer (take more operations)) ∙ ap (λ front. front ++ rest) (take-take fewer more operations less) in
    let sum : sum_by size (filter is_kind (take more operations)) ≡ sum_by size (filter is_kind first) + sum_by size (filter is_kind rest) =
    ap (λ all. sum_by size (filter is_kind all)) split
    ∙ (ap (sum_by size) (filter-append is_kind first rest) ∙ sum_by-append size (filter is_kind first) (filter is_kind rest)) in
    omega (arith, sum)
