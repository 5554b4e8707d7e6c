-- Flushing a stored queue, and that the remaining queue is stored correctly.
use Rattle.std.proofs.Common.{◌≡◌, ◌∙◌, ℕ, zero, suc, ◌<◌, ◌≤◌, ◌^◌, List, [], ◌∷◌, length, map, drop, sym, ap, subst, arith, ◌++◌, Option, ◌+◌, take, Some, option_map, Bool, true, false, nat_lt, None, refl}
use Rattle.std.proofs.lemmas.Bool.Decides.{nat_tests}
use Rattle.std.proofs.lemmas.List.{drop-map, append-nil, take_more}
use Rattle.std.proofs.lemmas.List.Elements.{filter_map-append, filter-append}
use Rattle.std.proofs.lemmas.Option.{get_or_from_slice_get, slice_get-map, slice_get_within}
use Rattle.std.specs.List.{IsDistinct, filter_map, slice_get}
use Rattle.std.specs.Prelude.{min}
use Rattle.st_base.proofs.ListLemmas.{each-weaker}
use Rattle.st_plain.specs.Plain.{canonical}
use Rattle.st_hash.specs.Hash.{same_hash, HashValue, uri_of}
use Rattle.st_params.specs.ParamsValue.{ParamsValue, params_of}
use Rattle.st_indexfiles.specs.CoreIndex.{core_json}
use Rattle.st_indexfiles.specs.ProvisionalIndex.{provisional_json}
use Rattle.st_datafiles.specs.ProofFiles.{core_proof_json, provisional_proof_json}
use Rattle.st_datafiles.specs.declared.role.Role.{Role}
use Rattle.st_ops.specs.Operation.{plain_operation, PlainOperation, creating, updating, recovering, deactivating}
use Rattle.st_ops.specs.declared.operation.Operation.{Operation}
use Rattle.st_batch.proofs.GivenOperationsLemmas.{batch_ascends, batch_longest, batch_named, prefix_batched}
use Rattle.st_batch.proofs.QueueLemmas.{Entry, different, length_operations}
use Rattle.st_batch.proofs.GivenBatchLemmas.{batch_is_read_back}
use Rattle.st_batch.proofs.ThousandLemmas.{takes_a_thousand, takes_the_first}
use Rattle.st_batch.specs.Batch.{anchor_text, batch_of_groups, chunk_file, chunk_text, core_file, core_index, core_proof_file, filed, files_of, if_any, provisional_file, provisional_index, provisional_proof_file, batch_count, batch_of, batched}
use Rattle.st_batch.specs.Laws.{AreBatched, AreNamed, AscendFrom, IsReadBack}
use Rattle.st_batch.specs.Queue.{Fits, IsFormed, IsStoredQueue, IsQueued, operations_of}
use Rattle.st_batch.specs.Flushed.{IsFlushed}
use Rattle.st_batch.specs.Groups.{Grouped, grouped, signed_text_in, suffix_data_in, target_in, with_core_proof, with_delta}
use Rattle.st_batch.specs.declared.batch.Batch.{Batch}
use Rattle.st_batch.specs.declared.batch.BatchFile.{BatchFile}
use Rattle.st_batch.specs.inside.Groups.{with_operation}

-- ---- parts of entries

left_operations : (count : ℕ) (entries : List Entry) → operations_of (drop count entries) ≡ drop count (operations_of entries)
left_operations count entries = sym (drop-map (λ entry. plain_operation entry.1) count entries)

-- the rest of valid entries is valid
pub kept_left : (count : ℕ) (entries : List Entry) → IsStoredQueue entries → IsStoredQueue (drop count entries)
kept_left zero entries kept = kept
kept_left (suc count) [] kept = kept
kept_left (suc count) (entry ∷ entries) kept = kept_left count entries (record {
  named = ap (drop 1) kept.named;
  few = omega (arith, kept.few);
  queued = kept.queued.1;
})

-- ---- flushing

-- properties of entries at limits, at least one of which is there
pub record MayFlush (limits : ParamsValue) (entries : List Entry) : Type 0 where
  pub kept : IsStoredQueue entries
  pub some : 1 ≤ length entries
  pub apart : IsDistinct same_hash (map (λ entry. entry.0) entries)
  pub versioned : limits ≡ params_of limits.version

few_operations : (entries : List Entry) → IsStoredQueue entries → length (operations_of entries) < 2 ^ 64
few_operations entries kept = omega (arith, kept.few, length_operations entries)

-- at most all are taken
pub count_within : (limits : ParamsValue) (entries : List Entry) → batch_count limits (operations_of entries) ≤ length entries
count_within limits entries =
    let within = (batch_longest limits (operations_of entries)).within in
    omega (arith, within, length_operations entries)

pub some_taken : (limits : ParamsValue) (entries : List Entry) → MayFlush limits entries → 1 ≤ batch_count limits (operations_of entries)
some_taken limits [] may = absurd (omega (arith, may.some))
some_taken limits (entry ∷ entries) may =
    let first = may.kept.queued.0 in
    subst (λ these. 1 ≤ batch_count these (operations_of (entry ∷ entries))) (sym may.versioned)
    (takes_the_first first.limits.version limits.version (plain_operation entry.1) (operations_of entries) first.formed.hashes
    (subst (λ these. Fits these (plain_operation entry.1)) first.versioned first.fitted))

-- in version 1 the first 1,000 are taken, or all
thousand_taken : (limits : ParamsValue) (entries : List Entry) → MayFlush limits entries → limits.version ≡ 1
    → batch_count limits (operations_of entries) ≡ min 1000 (length (operations_of entries))
thousand_taken limits entries may first =
    let is : limits ≡ params_of 1 = may.versioned ∙ ap params_of first in
    ap (λ these. batch_count these (operations_of entries)) is ∙ takes_a_thousand (operations_of entries) may.kept.queued

these_batched : (limits : ParamsValue) (entries : List Entry) → MayFlush limits entries → AreBatched limits (batched limits (operations_of entries))
these_batched limits entries may =
    prefix_batched limits (operations_of entries) (different entries may.kept may.apart)
    (each-weaker IsQueued IsFormed (λ operation is. is.formed) (operations_of entries) may.kept.queued) (few_operations entries may.kept)

-- the batch of the queue is made, and the entries after those that it takes remain
pub flushed : (limits : ParamsValue) (entries : List Entry) → MayFlush limits entries
    → {left : List Entry} {made : Batch} → left ≡ drop (batch_count limits (operations_of entries)) entries
    → made ≡ batch_of limits (operations_of entries) → IsFlushed limits (operations_of entries) (operations_of left) made
flushed limits entries may {left} {made} others is =
    let are = these_batched limits entries may in
    record {
      batch = is;
      rest = ap operations_of others ∙ left_operations (batch_count limits (operations_of entries)) entries;
      some = some_taken limits entries may;
      longest = batch_longest limits (operations_of entries);
      thousand = λ first. thousand_taken limits entries may first;
      named = subst (λ (batch : Batch). AreNamed batch.files) (sym is) (batch_named (batched limits (operations_of entries)));
      ascend = subst (λ (batch : Batch). AscendFrom 0 batch.files) (sym is) (batch_ascends (batched limits (operations_of entries)));
      read_back = subst (λ batch. IsReadBack limits batch (batched limits (operations_of entries))) (sym is)
          (batch_is_read_back limits (batched limits (operations_of entries)) are are.few);
    }

-- ---- Parts of operations, one kind after another.

-- the parts of three lists, one after another
pub parts_of_three : {Item Part : Type 0} (part : Item → Option Part) (first second third : List Item)
    → filter_map part first ++ filter_map part second ++ filter_map part third ≡ filter_map part (first ++ second ++ third)
parts_of_three part first second third =
    sym (filter_map-append part (first ++ second) third ∙ ap (λ front. front ++ filter_map part third) (filter_map-append part first second))

-- ---- Operations that are put into groups one after another are grouped by their kinds.

-- one more operation is the last of its kind
put_last : (operations : List PlainOperation) (operation : PlainOperation)
    → with_operation (grouped operations) operation ≡ grouped (operations ++ operation ∷ [])
unfolding grouped
put_last operations (creating suffix_data delta) = simp (filter-append, append-nil)
put_last operations (updating target proof delta) = simp (filter-append, append-nil)
put_last operations (recovering target proof delta) = simp (filter-append, append-nil)
put_last operations (deactivating target proof) = simp (filter-append, append-nil)

module _ (entries : List Entry) (n : ℕ) where
  -- the operation of the next entry
  pub next_put : {suffix : HashValue} {operation : Operation} {groups : Grouped} → Some (suffix, operation) ≡ slice_get entries n
      → groups ≡ with_operation (grouped (take n (operations_of entries))) (plain_operation operation)
      → groups ≡ grouped (take (n + 1) (operations_of entries))
  next_put {suffix} {operation} {groups} found put =
      let all = operations_of entries in
      let one = plain_operation operation in
      let there : slice_get all n ≡ Some one =
      slice_get-map (λ entry. plain_operation entry.1) entries n ∙ ap (option_map (λ entry. plain_operation entry.1)) (sym found) in
      let more = take_more all n one (slice_get_within all n one there) in
      put ∙ (put_last (take n all) one
      ∙ ap grouped (sym (more ∙ ap (λ last. take n all ++ last ∷ []) (get_or_from_slice_get all n one one there))))

-- ---- The written form of operations by kind: which files there are, and the content of each.

-- if there are operations, the value for them is there
any_some : {Said : Type 0} (operations : List PlainOperation) (said : Said) → 1 ≤ length operations → if_any operations said ≡ Some said
any_some [] said some = absurd (omega (arith, some))
any_some (operation ∷ operations) said some = refl

-- and if there are none, it is not
any_none : {Said : Type 0} (operations : List PlainOperation) (said : Said) → length operations ≡ 0 → if_any operations said ≡ None
any_none [] said none = refl
any_none (operation ∷ operations) said none = absurd (omega (arith, none))

-- a test of a number
pub no_more : (n : ℕ) (are : Bool) → are ≡ nat_lt 0 n → are ≡ false → n ≡ 0
no_more n are e is = grind (arith, nat_tests)

pub are_some : (n : ℕ) (are : Bool) → are ≡ nat_lt 0 n → are ≡ true → 1 ≤ n
are_some n are e is = grind (arith, nat_tests)

-- ---- URIs

-- the URI of a file, if there is one
pub first_filed : (role : Role) (file : Option (List ℕ)) → option_map (λ found. found.uri) (slice_get (filed role file) 0) ≡ option_map uri_of file
first_filed role None = refl
first_filed role (Some bytes) = refl

module _ (groups : Grouped) where
  pub core_proof_none : length (with_core_proof groups) ≡ 0 → core_proof_file groups ≡ None
  unfolding core_proof_file
  core_proof_none none = any_none (with_core_proof groups) _ none

  pub core_proof_some : 1 ≤ length (with_core_proof groups) → core_proof_file groups ≡ Some (canonical (core_proof_json (record {
    recovers = filter_map signed_text_in groups.recovers;
    deactivates = filter_map signed_text_in groups.deactivates;
  })))
  unfolding core_proof_file
  core_proof_some some = any_some (with_core_proof groups) _ some

  pub provisional_proof_none : length groups.updates ≡ 0 → provisional_proof_file groups ≡ None
  unfolding provisional_proof_file
  provisional_proof_none none = any_none groups.updates _ none

  pub provisional_proof_some : 1 ≤ length groups.updates
      → provisional_proof_file groups ≡ Some (canonical (provisional_proof_json (filter_map signed_text_in groups.updates)))
  unfolding provisional_proof_file
  provisional_proof_some some = any_some groups.updates _ some

  pub chunk_some : 1 ≤ length (with_delta groups) → chunk_file groups ≡ Some (chunk_text groups)
  chunk_some some = any_some (with_delta groups) (chunk_text groups) some

-- the value for operations is there whenever another is
both_none : {Said Other : Type 0} (operations : List PlainOperation) (said : Said) (other : Other)
    → if_any operations said ≡ None → if_any operations other ≡ None
both_none [] said other none = refl
both_none (operation ∷ operations) said other none = absurd cc

both_some : {Said Other : Type 0} (operations : List PlainOperation) (said : Said) (other : Other) (found : Said) → if_any operations said ≡ Some found
    → (if_any operations other ≡ Some other) × (found ≡ said)
both_some [] said other found some = absurd cc
both_some (operation ∷ operations) said other found some = (refl, cc)

mapped_none : {Item Other : Type 0} (f : Item → Other) (there : Option Item) → option_map f there ≡ None → there ≡ None
mapped_none f None none = refl
mapped_none f (Some item) none = absurd cc

mapped_some : {Item Other : Type 0} (f : Item → Other) (there : Option Item) (found : Other) → option_map f there ≡ Some found
    → (item : Item) × (there ≡ Some item) × (found ≡ f item)
mapped_some f None found some = absurd cc
mapped_some f (Some item) found some = (item, refl, cc)

module _ (groups : Grouped) where
  -- without a chunk file there is no provisional index file
  pub provisional_none : option_map uri_of (chunk_file groups) ≡ None → provisional_file groups ≡ None
  unfolding provisional_file
  provisional_none none = both_none (with_delta groups) (chunk_text groups) _ (mapped_none uri_of (chunk_file groups) none)

  -- with one there is, with this content
  pub provisional_some : (chunk : HashValue) → option_map uri_of (chunk_file groups) ≡ Some chunk
      → (provisional_file groups ≡ Some (canonical (provisional_json (provisional_index groups)))) × (chunk ≡ uri_of (chunk_text groups))
  unfolding provisional_file
  provisional_some chunk some =
      let found = mapped_some uri_of (chunk_file groups) chunk some in
      let both = both_some (with_delta groups) (chunk_text groups) (canonical (provisional_json (provisional_index groups))) found.0 found.1 in
      (both.0, found.2 ∙ ap uri_of both.1)

-- the URI that is found first in a list of one file or none
pub uri_said : (role : Role) (file : Option (List ℕ)) {files : List BatchFile} {uri : Option HashValue} → files ≡ filed role file
    → uri ≡ option_map (λ found. found.uri) (slice_get files 0) → uri ≡ option_map uri_of file
uri_said role file e is = is ∙ (ap (λ files. option_map (λ found. found.uri) (slice_get files 0)) e ∙ first_filed role file)

module _ (groups : Grouped) where
  -- the provisional index with these URIs
  pub provisional_said : {proof : Option HashValue} {chunk : HashValue}
      → proof ≡ option_map uri_of (provisional_proof_file groups) → chunk ≡ uri_of (chunk_text groups)
      → record { proof = proof; chunk = chunk; updates = filter_map target_in groups.updates } ≡ provisional_index groups
  unfolding provisional_index
  provisional_said proof chunk = rw (proof, chunk) refl

  -- the core index with these URIs
  pub core_said : {core_proof provisional : Option HashValue}
      → core_proof ≡ option_map uri_of (core_proof_file groups) → provisional ≡ option_map uri_of (provisional_file groups)
      → canonical (core_json (record {
        core_proof = core_proof;
        provisional = provisional;
        creates = filter_map suffix_data_in groups.creates;
        recovers = filter_map target_in groups.recovers;
        deactivates = filter_map target_in groups.deactivates;
      })) ≡ core_file groups
  unfolding core_file core_index
  core_said core_proof provisional = rw (core_proof, provisional) refl

  -- a batch of these parts
  pub batch_said : (count : ℕ) {anchor : List ℕ} {files : List BatchFile} → anchor ≡ anchor_text count (uri_of (core_file groups)) → files ≡ files_of groups
      → record { anchor = anchor; files = files } ≡ batch_of_groups count groups
  batch_said count anchor files = rw (anchor, files) refl

-- files that are appended to others
pub put_behind : {before after more first second : List BatchFile} → after ≡ before ++ more → before ≡ first → more ≡ second → after ≡ first ++ second
put_behind {before} {after} {more} {first} {second} e front back = e ∙ (ap (λ files. files ++ more) front ∙ ap (λ files. first ++ files) back)
