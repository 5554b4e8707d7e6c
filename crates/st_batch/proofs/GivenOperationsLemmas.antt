-- Operations that were put into lists by kind, each part in its own, are given again by these lists.
use Rattle.std.proofs.Common.{◌≡◌, ℕ, suc, ◌++◌, Bool, true, false, List, [], ◌∷◌, length, map, Option, Some, None, refl, ap, ◌∙◌, zero, ◌<◌, ◌≤◌, ◌^◌, if◌then◌else◌, take, sym, ◌==◌, ◌⊎◌, inl, inr, arith}
use Rattle.std.proofs.lemmas.Bool.{eqb-false, eqb-true, or_parts}
use Rattle.std.proofs.lemmas.List.{length-take-le, take-map}
use Rattle.std.specs.List.{AllByRecursion, cons_option, filter_map, list_any}
use Rattle.std.specs.Prelude.{is_some, IfSome}
use Rattle.st_base.proofs.ListLemmas.{each-take}
use Rattle.st_base.specs.Lists.{has_twice}
use Rattle.st_plain.specs.Plain.{Plain}
use Rattle.st_hash.specs.Hash.{same_hash, uri_of}
use Rattle.st_params.specs.ParamsValue.{ParamsValue}
use Rattle.st_indexfiles.proofs.WrittenLemmas.{IsAgain, create_again, target_again}
use Rattle.st_indexfiles.specs.CoreIndex.{create_json, create_of, suffix_of as suffix_of_data, target_json, target_of}
use Rattle.st_indexfiles.specs.declared.suffix_data.SuffixData.{SuffixData}
use Rattle.st_indexfiles.specs.declared.entries.Target.{Target}
use Rattle.st_datafiles.specs.declared.role.Role.{Role}
use Rattle.st_datafiles.specs.declared.role.Role.TheVariants.{Core, CoreProof, Provisional, ProvisionalProof, Chunk}
use Rattle.st_ops.specs.Operation.{PlainOperation, Proof, creating, updating, recovering, deactivating, suffix_of}
use Rattle.st_ops.specs.Request.{delta_there}
use Rattle.st_anchor.specs.Gives.{creates_given, deactivating_only, signed_given}
use Rattle.st_anchor.specs.SignedTexts.{proof_of}
use Rattle.st_batch.proofs.ReadBackLemmas.{IsReady}
use Rattle.st_batch.proofs.SmallLemmas.{all_roles}
use Rattle.st_batch.specs.Batch.{batch_with, chunk_file, core_file, core_proof_file, file_in, filed, files_of, provisional_file, provisional_proof_file, IsLongest, batch_count, batched, greatest, is_batch}
use Rattle.st_batch.specs.Laws.{AreBatched, AreNamed, AscendFrom}
use Rattle.st_batch.specs.Groups.{is_create, is_deactivate, is_recover, is_update, signed_text_in, suffix_data_in, target_in, Grouped, grouped}
use Rattle.st_batch.specs.Queue.{AreDifferent, IsFormed, suffixes_of}

abbrev pub IsOfKind : ParamsValue → (PlainOperation → Bool) → PlainOperation → Type 0
IsOfKind limits is_kind operation = IsReady limits operation × (is_kind operation ≡ true)

abbrev pub AreOfKind : ParamsValue → (PlainOperation → Bool) → List PlainOperation → Type 0
AreOfKind limits is_kind operations = AllByRecursion (IsOfKind limits is_kind) operations

-- no create is of the kind
abbrev pub IsSigned : (PlainOperation → Bool) → Type 0
IsSigned is_kind = (suffix_data : SuffixData) (delta : Option Plain) → is_kind (creating suffix_data delta) ≡ false

-- no deactivate is of the kind
abbrev pub HasDelta : (PlainOperation → Bool) → Type 0
HasDelta is_kind = (target : Target) (proof : Option Proof) → is_kind (deactivating target proof) ≡ false

-- ---- parts that are taken out

-- a property of each part that is there is one of each that is taken out
module _ {Item Part : Type 0} (part : Item → Option Part) (P : Item → Type 0) (Q : Part → Type 0) where
  one_taken : (there : Option Part) (others : List Part) → IfSome there Q → AllByRecursion Q others → AllByRecursion Q (cons_option there others)
  one_taken None others here all = all
  one_taken (Some found) others here all = (here, all)

  pub each_taken : ((item : Item) → P item → IfSome (part item) Q) → (items : List Item) → AllByRecursion P items → AllByRecursion Q (filter_map part items)
  each_taken holds [] all = tt
  each_taken holds (item ∷ items) all = one_taken (part item) (filter_map part items) (holds item all.0) (each_taken holds items all.1)

-- if each has the part, there are as many parts as items
module _ {Item Part : Type 0} (part : Item → Option Part) (P : Item → Type 0) where
  one_more : (there : Option Part) (others : List Part) (n : ℕ) → is_some there ≡ true → length others ≡ n → length (cons_option there others) ≡ suc n
  one_more None others n some long = absurd cc
  one_more (Some found) others n some long = ap suc long

  pub as_many : ((item : Item) → P item → is_some (part item) ≡ true) → (items : List Item) → AllByRecursion P items
      → length (filter_map part items) ≡ length items
  as_many has [] all = refl
  as_many has (item ∷ items) all = one_more (part item) (filter_map part items) (length items) (has item all.0) (as_many has items all.1)

module _ (limits : ParamsValue) where
  -- ---- the parts of each kind

  pub create_data : (operation : PlainOperation) → IsOfKind limits is_create operation → is_some (suffix_data_in operation) ≡ true
  create_data (creating suffix_data delta) right = refl
  create_data (updating target proof delta) right = absurd (let no = right.1 in cc)
  create_data (recovering target proof delta) right = absurd (let no = right.1 in cc)
  create_data (deactivating target proof) right = absurd (let no = right.1 in cc)

  module _ (is_kind : PlainOperation → Bool) (signed : IsSigned is_kind) where
    pub target_there : (operation : PlainOperation) → IsOfKind limits is_kind operation → is_some (target_in operation) ≡ true
    target_there (creating suffix_data delta) right = absurd (let no = signed suffix_data delta in let is = right.1 in cc)
    target_there (updating target proof delta) right = refl
    target_there (recovering target proof delta) right = refl
    target_there (deactivating target proof) right = refl

    pub text_there : (operation : PlainOperation) → IsOfKind limits is_kind operation → is_some (signed_text_in operation) ≡ true
    text_there (creating suffix_data delta) right = absurd (let no = signed suffix_data delta in let is = right.1 in cc)
    text_there (updating target None delta) right = absurd right.0.accepted.0.opens
    text_there (updating target (Some proof) delta) right = refl
    text_there (recovering target None delta) right = absurd right.0.accepted.0.opens
    text_there (recovering target (Some proof) delta) right = refl
    text_there (deactivating target None) right = absurd right.0.accepted.opens
    text_there (deactivating target (Some proof)) right = refl

  pub delta_kept : (is_kind : PlainOperation → Bool) → HasDelta is_kind → (operation : PlainOperation) → IsOfKind limits is_kind operation
      → is_some (delta_there operation) ≡ true
  delta_kept is_kind has (creating suffix_data None) right = absurd (let no = right.0.accepted.2 in cc)
  delta_kept is_kind has (creating suffix_data (Some delta)) right = refl
  delta_kept is_kind has (updating target proof None) right = absurd (let no = right.0.accepted.1 in cc)
  delta_kept is_kind has (updating target proof (Some delta)) right = refl
  delta_kept is_kind has (recovering target proof None) right = absurd (let no = right.0.accepted.1 in cc)
  delta_kept is_kind has (recovering target proof (Some delta)) right = refl
  delta_kept is_kind has (deactivating target proof) right = absurd (let no = has target proof in let is = right.1 in cc)

  -- ---- each part

  pub data_again : (operation : PlainOperation) → IsReady limits operation → IfSome (suffix_data_in operation) (IsAgain (create_of limits.version) create_json)
  data_again (creating suffix_data delta) right = create_again limits.version suffix_data right.accepted.0 right.accepted.1
  data_again (updating target proof delta) right = tt
  data_again (recovering target proof delta) right = tt
  data_again (deactivating target proof) right = tt

  pub named_again : (operation : PlainOperation) → IsReady limits operation → IfSome (target_in operation) (IsAgain (target_of limits.version) target_json)
  named_again (creating suffix_data delta) right = tt
  named_again (updating target proof delta) right = target_again limits.version target right.accepted.0.suffix right.accepted.0.reveal
  named_again (recovering target proof delta) right = target_again limits.version target right.accepted.0.suffix right.accepted.0.reveal
  named_again (deactivating target proof) right = target_again limits.version target right.accepted.suffix right.accepted.reveal

  -- ---- suffixes

  pub create_suffixes : (operations : List PlainOperation) → AreOfKind limits is_create operations
      → map suffix_of_data (filter_map suffix_data_in operations) ≡ map suffix_of operations
  create_suffixes [] all = refl
  create_suffixes (creating suffix_data delta ∷ more) all = ap (λ others. suffix_of_data suffix_data ∷ others) (create_suffixes more all.1)
  create_suffixes (updating target proof delta ∷ more) all = absurd (let no = all.0.1 in cc)
  create_suffixes (recovering target proof delta ∷ more) all = absurd (let no = all.0.1 in cc)
  create_suffixes (deactivating target proof ∷ more) all = absurd (let no = all.0.1 in cc)

  pub target_suffixes : (is_kind : PlainOperation → Bool) → IsSigned is_kind → (operations : List PlainOperation) → AreOfKind limits is_kind operations
      → map (λ target. target.suffix) (filter_map target_in operations) ≡ map suffix_of operations
  target_suffixes is_kind signed [] all = refl
  target_suffixes is_kind signed (creating suffix_data delta ∷ more) all = absurd (let no = signed suffix_data delta in let is = all.0.1 in cc)
  target_suffixes is_kind signed (updating target proof delta ∷ more) all = ap (λ others. target.suffix ∷ others) (target_suffixes is_kind signed more all.1)
  target_suffixes is_kind signed (recovering target proof delta ∷ more) all = ap (λ others. target.suffix ∷ others) (target_suffixes is_kind signed more all.1)
  target_suffixes is_kind signed (deactivating target proof ∷ more) all = ap (λ others. target.suffix ∷ others) (target_suffixes is_kind signed more all.1)

  -- ---- given again

  pub creates_back : (operations : List PlainOperation) (rest : List Plain) → AreOfKind limits is_create operations
      → creates_given (filter_map suffix_data_in operations) (filter_map delta_there operations ++ rest) ≡ operations
  creates_back [] rest all = refl
  creates_back (creating suffix_data None ∷ more) rest all = absurd (let no = all.0.0.accepted.2 in cc)
  creates_back (creating suffix_data (Some delta) ∷ more) rest all = ap (λ others. creating suffix_data (Some delta) ∷ others) (creates_back more rest all.1)
  creates_back (updating target proof delta ∷ more) rest all = absurd (let no = all.0.1 in cc)
  creates_back (recovering target proof delta ∷ more) rest all = absurd (let no = all.0.1 in cc)
  creates_back (deactivating target proof ∷ more) rest all = absurd (let no = all.0.1 in cc)

  abbrev pub opened : List PlainOperation → List (Option Proof)
  opened operations = map (proof_of limits.max_signed) (filter_map signed_text_in operations)

  pub recovers_back : (operations : List PlainOperation) (rest : List Plain) → AreOfKind limits is_recover operations
      → signed_given recovering (filter_map target_in operations) (opened operations) (filter_map delta_there operations ++ rest) ≡ operations
  recovers_back [] rest all = refl
  recovers_back (recovering target None delta ∷ more) rest all = absurd all.0.0.accepted.0.opens
  recovers_back (recovering target (Some proof) None ∷ more) rest all = absurd (let no = all.0.0.accepted.1 in cc)
  recovers_back (recovering target (Some proof) (Some delta) ∷ more) rest all =
      rw all.0.0.accepted.0.opens (ap (λ others. recovering target (Some proof) (Some delta) ∷ others) (recovers_back more rest all.1))
  recovers_back (creating suffix_data delta ∷ more) rest all = absurd (let no = all.0.1 in cc)
  recovers_back (updating target proof delta ∷ more) rest all = absurd (let no = all.0.1 in cc)
  recovers_back (deactivating target proof ∷ more) rest all = absurd (let no = all.0.1 in cc)

  pub updates_back : (operations : List PlainOperation) (rest : List Plain) → AreOfKind limits is_update operations
      → signed_given updating (filter_map target_in operations) (opened operations) (filter_map delta_there operations ++ rest) ≡ operations
  updates_back [] rest all = refl
  updates_back (updating target None delta ∷ more) rest all = absurd all.0.0.accepted.0.opens
  updates_back (updating target (Some proof) None ∷ more) rest all = absurd (let no = all.0.0.accepted.1 in cc)
  updates_back (updating target (Some proof) (Some delta) ∷ more) rest all =
      rw all.0.0.accepted.0.opens (ap (λ others. updating target (Some proof) (Some delta) ∷ others) (updates_back more rest all.1))
  updates_back (creating suffix_data delta ∷ more) rest all = absurd (let no = all.0.1 in cc)
  updates_back (recovering target proof delta ∷ more) rest all = absurd (let no = all.0.1 in cc)
  updates_back (deactivating target proof ∷ more) rest all = absurd (let no = all.0.1 in cc)

  pub deactivates_back : (operations : List PlainOperation) → AreOfKind limits is_deactivate operations
      → signed_given deactivating_only (filter_map target_in operations) (opened operations) [] ≡ operations
  deactivates_back [] all = refl
  deactivates_back (deactivating target None ∷ more) all = absurd all.0.0.accepted.opens
  deactivates_back (deactivating target (Some proof) ∷ more) all =
      rw all.0.0.accepted.opens (ap (λ others. deactivating target (Some proof) ∷ others) (deactivates_back more all.1))
  deactivates_back (creating suffix_data delta ∷ more) all = absurd (let no = all.0.1 in cc)
  deactivates_back (updating target proof delta ∷ more) all = absurd (let no = all.0.1 in cc)
  deactivates_back (recovering target proof delta ∷ more) all = absurd (let no = all.0.1 in cc)

-- ---- The batch of a queue: its files have their own URIs, each role once; it takes the longest prefix that goes into one
-- batch; and the batch of that prefix is read back.

-- ---- files

filed_named : (role : Role) (file : Option (List ℕ)) → AreNamed (filed role file)
filed_named role None = tt
filed_named role (Some bytes) = (refl, tt)

files_ascend : (groups : Grouped) → AscendFrom 0 (files_of groups)
unfolding files_of
files_ascend groups = by (core_file groups) (core_proof_file groups) (provisional_file groups) (provisional_proof_file groups) (chunk_file groups)
  where
    by : (core : List ℕ) (core_proof provisional provisional_proof chunk : Option (List ℕ))
        → AscendFrom 0 (filed Core (Some core) ++ filed CoreProof core_proof ++ filed Provisional provisional
        ++ filed ProvisionalProof provisional_proof ++ filed Chunk chunk)
    by core None None None None = (omega arith, tt)
    by core None None None (Some e) = (omega arith, (omega arith, tt))
    by core None None (Some d) None = (omega arith, (omega arith, tt))
    by core None None (Some d) (Some e) = (omega arith, (omega arith, (omega arith, tt)))
    by core None (Some c) None None = (omega arith, (omega arith, tt))
    by core None (Some c) None (Some e) = (omega arith, (omega arith, (omega arith, tt)))
    by core None (Some c) (Some d) None = (omega arith, (omega arith, (omega arith, tt)))
    by core None (Some c) (Some d) (Some e) = (omega arith, (omega arith, (omega arith, (omega arith, tt))))
    by core (Some b) None None None = (omega arith, (omega arith, tt))
    by core (Some b) None None (Some e) = (omega arith, (omega arith, (omega arith, tt)))
    by core (Some b) None (Some d) None = (omega arith, (omega arith, (omega arith, tt)))
    by core (Some b) None (Some d) (Some e) = (omega arith, (omega arith, (omega arith, (omega arith, tt))))
    by core (Some b) (Some c) None None = (omega arith, (omega arith, (omega arith, tt)))
    by core (Some b) (Some c) None (Some e) = (omega arith, (omega arith, (omega arith, (omega arith, tt))))
    by core (Some b) (Some c) (Some d) None = (omega arith, (omega arith, (omega arith, (omega arith, tt))))
    by core (Some b) (Some c) (Some d) (Some e) = (omega arith, (omega arith, (omega arith, (omega arith, (omega arith, tt)))))

-- the files of a batch
pub batch_named : (operations : List PlainOperation) → AreNamed (batch_with operations).files
unfolding batch_with
batch_named operations =
    let groups = grouped operations in
    all_roles (λ file. file.uri ≡ uri_of file.bytes) groups (λ role. filed_named role (file_in role groups))

pub batch_ascends : (operations : List PlainOperation) → AscendFrom 0 (batch_with operations).files
unfolding batch_with
batch_ascends operations = files_ascend (grouped operations)

-- ---- the longest prefix

-- the greatest number that passes, up to this one
record IsGreatest (passes : ℕ → Bool) (most found : ℕ) : Type 0 where
  within : found ≤ most
  does : 1 ≤ found → passes found ≡ true
  others : (more : ℕ) → found < more → more ≤ most → passes more ≡ false

-- a number up to the next is the next or is up to this one
next_or_below : (n more : ℕ) → more ≤ suc n → (more ≡ suc n) ⊎ (more ≤ n)
next_or_below n more within = by (more == suc n) refl
  where
    by : (same : Bool) → (more == suc n) ≡ same → (more ≡ suc n) ⊎ (more ≤ n)
    by true e = inl (eqb-true more (suc n) e)
    by false e = let other = eqb-false more (suc n) e in inr (grind arith)

greatest_step : (passes : ℕ → Bool) (n : ℕ) (is : Bool) → passes (suc n) ≡ is → IsGreatest passes n (greatest passes n)
    → IsGreatest passes (suc n) (if is then suc n else greatest passes n)
greatest_step passes n true e before = record {
  within = omega arith;
  does = λ some. e;
  others = λ more above below. absurd (omega (arith, above, below));
}
greatest_step passes n false e before = record {
  within = omega (arith, before.within);
  does = before.does;
  others = λ more above below. elim (next_or_below n more below) as (λ _. passes more ≡ false) [
    | inl is ↦ ap passes is ∙ e
    | inr within ↦ before.others more above within
  ];
}

greatest_is : (passes : ℕ → Bool) (most : ℕ) → IsGreatest passes most (greatest passes most)
greatest_is passes zero = record {
  within = omega arith;
  does = λ some. absurd (omega (arith, some));
  others = λ more above below. absurd (omega (arith, above, below));
}
greatest_is passes (suc n) = greatest_step passes n (passes (suc n)) refl (greatest_is passes n)

pub batch_longest : (limits : ParamsValue) (queue : List PlainOperation) → IsLongest limits queue (batch_count limits queue)
unfolding batch_count
batch_longest limits queue =
    let found = greatest_is (λ n. is_batch limits (take n queue)) (length queue) in
    record { within = found.within; goes = found.does; longest = found.others }

-- ---- the operations taken

any_take : {Item : Type 0} (test : Item → Bool) (n : ℕ) (items : List Item) → list_any test items ≡ false → list_any test (take n items) ≡ false
any_take test zero items none = refl
any_take test (suc n) [] none = refl
any_take test (suc n) (item ∷ items) none =
    let parts = or_parts (test item) (list_any test items) none in
    rw parts.0 (any_take test n items parts.1)

twice_take : {Item : Type 0} (same : Item → Item → Bool) (n : ℕ) (items : List Item) → has_twice same items ≡ false → has_twice same (take n items) ≡ false
twice_take same zero items none = refl
twice_take same (suc n) [] none = refl
twice_take same (suc n) (item ∷ items) none =
    let parts = or_parts (list_any (same item) items) (has_twice same items) none in
    rw (any_take (same item) n items parts.0) (twice_take same n items parts.1)

-- the operations that a batch takes from a queue are read back
pub prefix_batched : (limits : ParamsValue) (queue : List PlainOperation) → AreDifferent queue → AllByRecursion IsFormed queue → length queue < 2 ^ 64
    → AreBatched limits (batched limits queue)
prefix_batched limits queue different formed few =
    let longest = batch_longest limits queue in
    let count = batch_count limits queue in
    let long : length (take count queue) ≡ count = length-take-le count queue longest.within in
    record {
      goes = λ some. longest.goes (omega (arith, some, long));
      few = omega (arith, long, longest.within);
      different = ap (has_twice same_hash) (sym (take-map suffix_of count queue)) ∙ twice_take same_hash count (suffixes_of queue) different;
      formed = each-take IsFormed count queue formed;
    }
