-- Entries by the suffixes of their operations, and what may be queued besides.
use Rattle.std.proofs.Common.{◌≡◌, ◌∙◌, ◌<◌, ◌≤◌, Bool, true, false, cond, ◌||◌, List, [], ◌∷◌, length, map, suc, nat_lt, Option, Some, Ok, Err, refl, sym, ap, arith, ◌⊎◌, inl, inr, Result, subst}
use Rattle.std.proofs.lemmas.Bool.Decides.{nat_tests}
use Rattle.std.specs.List.{IsDistinct, list_any}
use Rattle.std.specs.Map.{lookup}
use Rattle.std.specs.Prelude.{is_some}
use Rattle.st_base.proofs.ListLemmas.{any_none}
use Rattle.st_base.specs.Answers.{GivesAs}
use Rattle.st_base.specs.Lists.{has_twice}
use Rattle.st_base.specs.Work.{WorkValue, one_proof}
use Rattle.st_hash.specs.Hash.{HashValue, same_hash}
use Rattle.st_ops.specs.Operation.{CountsOpening, PlainOperation, suffix_of, creating, updating, recovering, deactivating, plain_operation}
use Rattle.st_ops.specs.Request.{refusal_of}
use Rattle.st_ops.specs.declared.operation.Operation.{Operation}
use Rattle.st_ops.specs.declared.operation.Operation.TheVariants.{Create, Update, Recover, Deactivate}
use Rattle.st_ops.specs.declared.request.RequestRefused.{RequestRefused}
use Rattle.st_ops.specs.declared.request.RequestRefused.TheVariants as request
use Rattle.st_batch.specs.Queue.{AreDifferent, IsStoredQueue, most_queued, operations_of, is_queued, queueable_suffix, unasked}
use Rattle.st_batch.specs.Laws.{CountsAsking, CountsOpened}
use Rattle.st_batch.specs.declared.queue.SubmitRefused.{SubmitRefused}
use Rattle.st_batch.specs.declared.queue.SubmitRefused.TheVariants.{AlreadyQueued, QueueFull, NotJson, NotWhole, BadForm, BadHash, BadProof, BadDelta, WantOfMemory}

-- ---- lists

-- no distinct item appears twice
once_distinct : {Item : Type 0} (same : Item → Item → Bool) (items : List Item) → IsDistinct same items → has_twice same items ≡ false
unfolding IsDistinct
once_distinct same [] apart = refl
once_distinct same (item ∷ items) apart = rw (any_none (same item) items apart.0, once_distinct same items apart.1) refl

-- ---- entries

-- an entry of a queue
abbrev pub Entry : Type 0
Entry = HashValue × Operation

first_found : (same : Bool) (found : Option Operation) (later : Bool) (operation : Operation) → is_some found ≡ later
    → is_some (cond same (Some operation) found) ≡ (same || later)
first_found true found later operation e = refl
first_found false found later operation e = e

-- a key is found if and only if one of the keys is the same
found_any : (suffix : HashValue) (entries : List Entry) → is_some (lookup (same_hash suffix) entries)
    ≡ list_any (same_hash suffix) (map (λ entry. entry.0) entries)
found_any suffix [] = refl
found_any suffix (entry ∷ entries) =
    first_found (same_hash suffix entry.0) (lookup (same_hash suffix) entries)
    (list_any (same_hash suffix) (map (λ one. one.0) entries)) entry.1 (found_any suffix entries)

pub found_queued : (suffix : HashValue) (entries : List Entry) → IsStoredQueue entries
    → is_some (lookup (same_hash suffix) entries) ≡ is_queued suffix (operations_of entries)
found_queued suffix entries kept = found_any suffix entries ∙ ap (list_any (same_hash suffix)) kept.named

-- the operations of entries with distinct suffixes are different
pub different : (entries : List Entry) → IsStoredQueue entries → IsDistinct same_hash (map (λ entry. entry.0) entries) → AreDifferent (operations_of entries)
different entries kept apart = ap (has_twice same_hash) (sym kept.named) ∙ once_distinct same_hash _ apart

-- the number of operations of entries
pub length_operations : (entries : List Entry) → length (operations_of entries) ≡ length entries
length_operations [] = refl
length_operations (entry ∷ entries) = ap suc (length_operations entries)

-- ---- operations that may be queued

-- properties of an operation and of the lookup of its suffix
pub record LookedFor (entries : List Entry) (operation : PlainOperation) (found : Bool) : Type 0 where
  pub kept : IsStoredQueue entries
  pub suffix : HashValue
  pub own : suffix ≡ suffix_of operation
  pub looked : found ≡ is_some (lookup (same_hash suffix) entries)

queued_is : (entries : List Entry) (operation : PlainOperation) (found : Bool) → LookedFor entries operation found
    → is_queued (suffix_of operation) (operations_of entries) ≡ found
queued_is entries operation found known =
    ap (λ suffix. is_queued suffix (operations_of entries)) (sym known.own) ∙ (sym (found_queued known.suffix entries known.kept) ∙ sym known.looked)

pub refused_queued : (entries : List Entry) (operation : PlainOperation) (found : Bool) → LookedFor entries operation found → found ≡ true
    → queueable_suffix (operations_of entries) operation ≡ Err AlreadyQueued
refused_queued entries operation found known e = rw (queued_is entries operation found known, e) refl

pub refused_full : (entries : List Entry) (operation : PlainOperation) (found : Bool) → LookedFor entries operation found → found ≡ false
    → most_queued ≤ length entries → queueable_suffix (operations_of entries) operation ≡ Err QueueFull
refused_full entries operation found known e full =
    let no_room : nat_lt (length entries) most_queued ≡ false = grind (arith, nat_tests) in
    rw (queued_is entries operation found known, e, length_operations entries, no_room) refl

pub may_queue : (entries : List Entry) (operation : PlainOperation) (found : Bool) → LookedFor entries operation found → found ≡ false
    → length entries < most_queued → queueable_suffix (operations_of entries) operation ≡ Ok (suffix_of operation)
may_queue entries operation found known e short =
    let room : nat_lt (length entries) most_queued ≡ true = grind (arith, nat_tests) in
    rw (queued_is entries operation found known, e, length_operations entries, room) refl

-- ---- The counts of reading a request are those of submitting it.

module _ (old new : WorkValue) where
  one_or_none : (asked : Result PlainOperation RequestRefused) → CountsOpened asked old new → (new ≡ old) ⊎ (new ≡ one_proof old)
  one_or_none (Ok (creating suffix_data delta)) h = inl h
  one_or_none (Ok (updating target proof delta)) h = inr h
  one_or_none (Ok (recovering target proof delta)) h = inr h
  one_or_none (Ok (deactivating target proof)) h = inr h
  one_or_none (Err request.NotJson) h = inl h
  one_or_none (Err request.NotWhole) h = inl h
  one_or_none (Err request.BadForm) h = inl h
  one_or_none (Err request.BadHash) h = inl h
  one_or_none (Err request.BadProof) h = inr h
  one_or_none (Err request.WantOfMemory) h = inl h

  -- for any outcome of an operation that was read
  pub counts_asking : {Found : Type 0} (asked : Result PlainOperation RequestRefused) (result : Result Found SubmitRefused) → CountsOpened asked old new
      → CountsAsking asked result old new
  counts_asking asked (Ok found) h = h
  counts_asking asked (Err NotJson) h = h
  counts_asking asked (Err NotWhole) h = h
  counts_asking asked (Err BadForm) h = h
  counts_asking asked (Err BadHash) h = h
  counts_asking asked (Err BadProof) h = h
  counts_asking asked (Err BadDelta) h = h
  counts_asking asked (Err AlreadyQueued) h = h
  counts_asking asked (Err QueueFull) h = h
  counts_asking asked (Err WantOfMemory) h = one_or_none asked h

  opened_at : (operation : Operation) → CountsOpening (Ok operation) old new → CountsOpened (Ok (plain_operation operation)) old new
  opened_at (Create suffix_data delta) h = h
  opened_at (Update suffix reveal proof delta) h = h
  opened_at (Recover suffix reveal proof delta) h = h
  opened_at (Deactivate suffix reveal proof) h = h

  pub counts_opened : (asked : Result PlainOperation RequestRefused) (operation : Operation) → asked ≡ Ok (plain_operation operation)
      → CountsOpening (Ok operation) old new → CountsOpened asked old new
  counts_opened asked operation is h = subst (λ a. CountsOpened a old new) (sym is) (opened_at operation h)

  refused_at : (Found : Type 0) (asked : Result PlainOperation RequestRefused) (refused : RequestRefused)
      → GivesAs plain_operation refusal_of asked (Err refused) → CountsOpening (Err refused) old new
      → CountsAsking {Found = Found} asked (Err (unasked refused)) old new
  refused_at Found asked request.NotJson is h = subst (λ a. CountsOpened a old new) (sym is) h
  refused_at Found asked request.NotWhole is h = subst (λ a. CountsOpened a old new) (sym is) h
  refused_at Found asked request.BadForm is h = subst (λ a. CountsOpened a old new) (sym is) h
  refused_at Found asked request.BadHash is h = subst (λ a. CountsOpened a old new) (sym is) h
  refused_at Found asked request.BadProof is h = subst (λ a. CountsOpened a old new) (sym is) h
  refused_at Found asked request.WantOfMemory is h = h

  pub counts_refused : {Found : Type 0} (asked : Result PlainOperation RequestRefused) (refused : RequestRefused) (result : Result Found SubmitRefused)
      → result ≡ Err (unasked refused) → GivesAs plain_operation refusal_of asked (Err refused) → CountsOpening (Err refused) old new
      → CountsAsking asked result old new
  counts_refused {Found} asked refused result is given h =
      subst (λ (r : Result Found SubmitRefused). CountsAsking asked r old new) (sym is) (refused_at Found asked refused given h)
