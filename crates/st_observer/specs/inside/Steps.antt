use Rattle.std.specs.List.{AllByRecursion, list_any, sum_by}
use Rattle.std.specs.Prelude.{List, [], ◌∷◌, ◌≡◌, ◌≤◌, ℕ, nat_lt, ◌++◌, filter, map, Option, Some, None, ◌-◌, ◌==◌, Bool, true, false, reverse, slice_get, slice_set, take}
use Rattle.st_base.specs.Work.{WorkValue}
use Rattle.st_hash.specs.Hash.{HashValue, hash_cmp}
use Rattle.st_params.specs.ParamsValue.{params_at}
use Rattle.st_opindex.specs.Items.{Covers, CoversLosing}
use Rattle.st_doc.specs.Document.{PlainDocument}
use Rattle.st_ops.specs.Operation.{PlainOperation, plain_operation}
use Rattle.st_ops.specs.declared.operation.Operation.{Operation}
use Rattle.st_ledger.specs.declared.ledger.Entry.{Entry}
use Rattle.st_content.specs.Files.{Files}
use Rattle.st_anchor.specs.BoundValue.{BoundValue, known_from}
use Rattle.st_anchor.specs.Gives.{given, suffixes_given}
use Rattle.st_anchor.specs.States.{decided_roles, opened_proofs, role_states}
use Rattle.st_anchor.specs.declared.part.RoleState.{RoleState}
use Rattle.st_anchor.specs.declared.part.RoleState.TheVariants.{Unneeded}
use Rattle.st_apply.specs.Laws.{Anchored}
use Rattle.st_apply.specs.Applied.{applied}
use Rattle.st_apply.specs.Codes.{State}
use Rattle.st_observer.specs.Work.{OperationsAgree, WaitsAgree, bound_at, Operations, operations_in, GrewAtMost, ReadExactly}
use Rattle.st_observer.specs.Observed.{Observed, given_for, gives_of, known_of}
use Rattle.st_observer.specs.declared.kept.Kept.{Kept}
use Rattle.st_observer.specs.inside.Waiting.{TurnsTo}

-- ---- which entries wait

-- no file is needed for an entry that does not exist
abbrev pub no_needs : List RoleState
no_needs = Unneeded ∷ Unneeded ∷ Unneeded ∷ Unneeded ∷ Unneeded ∷ []

-- no file was read and no signed text opened, and the count of operations did not fall
pub record ReadsNothing (old new : WorkValue) : Type 0 where
  pub least : old.applies ≤ new.applies
  pub read : new.files ≡ old.files
  pub opened : new.proofs ≡ old.proofs

-- the state after one more operation, at the limits of its height
abbrev pub stepped : Option ℕ → State HashValue PlainDocument → ℕ × Operation → State HashValue PlainDocument
stepped schedule state item = applied (params_at schedule item.0) state (plain_operation item.1)

-- ---- adding and removing operations

-- the operations before this place
abbrev pub before_place : ℕ → List Anchored → List Anchored
before_place place operations = filter (λ anchored. nat_lt anchored.place place) operations

-- the operations after this place
abbrev pub after_place : ℕ → List Anchored → List Anchored
after_place place operations = filter (λ anchored. nat_lt place anchored.place) operations

-- An entry of this place and height may give an operation, which replaces the one at the place. If it gives none,
-- nothing changes.
abbrev pub with_given : ℕ → ℕ → Option PlainOperation → List Anchored → List Anchored
with_given place height None operations = operations
with_given place height (Some operation) operations =
    before_place place operations ++ record { place = place; height = height; operation = operation } ∷ after_place place operations

-- ---- work

-- suffixes at one place
abbrev pub at_place : ℕ → List HashValue → List (HashValue × ℕ)
at_place place suffixes = map (λ suffix. (suffix, place)) suffixes

-- ---- The steps by which the stored data follows changes of entries and files. No contract of a public call mentions
-- them.

-- ---- one entry

-- the operations of an entry of this number and height are put at its place
pub record PutsGiven (n height : ℕ) (given : List (HashValue × PlainOperation)) (old new : Operations) : Type 0 where
  pub schedule : new.folder.schedule ≡ old.folder.schedule
  pub operations : (suffix : HashValue) → operations_in suffix new ≡ with_given n height (given_for suffix given) (operations_in suffix old)
  pub changes : new.changes ≡ old.changes ++ reverse (at_place n (suffixes_given given))

-- an entry with this knowledge is appended
pub record Pushes (n height : ℕ) (bound : BoundValue) (before after : Kept) : Type 0 where
  pub bounds : after.bounds.items ≡ before.bounds.items ++ bound ∷ []
  pub waits : TurnsTo n (role_states bound) before.waiting after.waiting
  pub states : PutsGiven n height (given bound) before.index after.index

-- an entry of this number and height is checked again over these files
pub record Settles (files : Files) (n height : ℕ) (before after : Kept) : Type 0 where
  pub bounds : after.bounds.items ≡ slice_set before.bounds.items n (known_from files (bound_at n before.bounds.items))
  pub waits : TurnsTo n (role_states (known_from files (bound_at n before.bounds.items))) before.waiting after.waiting
  pub states : PutsGiven n height (given (known_from files (bound_at n before.bounds.items))) before.index after.index

-- ---- a file arrives

-- the entries received, with these files
abbrev pub over : Option ℕ → List Entry → Files → Observed
over schedule ledger files = record { schedule = schedule; ledger = ledger; files = files }

-- the number is among these
abbrev pub is_among : List ℕ → ℕ → Bool
is_among numbers n = list_any (λ m. m == n) numbers

-- these files add nothing to what is known about the entry with this number
abbrev pub IsSettled : Files → List BoundValue → ℕ → Type 0
IsSettled files bounds n = known_from files (bound_at n bounds) ≡ bound_at n bounds

-- The stored data is consistent, and the files add the same to it as to the entries. They add at most to entries that
-- are still to be checked.
pub record IsGoing (observed : Observed) (still : ℕ → Bool) (kept : Kept) : Type 0 where
  pub same : map (known_from observed.files) kept.bounds.items ≡ map (known_of observed.schedule observed.files) observed.ledger
  pub settled : (n : ℕ) → still n ≡ false → IsSettled observed.files kept.bounds.items n
  pub waits : WaitsAgree kept.bounds.items kept.waiting
  pub schedule : kept.index.folder.schedule ≡ observed.schedule
  pub states : OperationsAgree observed.ledger kept.bounds.items kept.index

-- the number of decided roles of these entries
abbrev pub decided_of : List BoundValue → ℕ
decided_of bounds = sum_by decided_roles bounds

-- the number of signed texts in their proof files
abbrev pub opened_of : List BoundValue → ℕ
opened_of bounds = sum_by opened_proofs bounds

-- each of these files was read, each of these signed texts opened, and each counted: as many as the knowledge of the
-- entries has grown by
abbrev pub ReadOver : List BoundValue → List BoundValue → WorkValue → WorkValue → Type 0
ReadOver before after old new = ReadExactly (decided_of after - decided_of before) (opened_of after - opened_of before) old new

-- at most as many as these files add, and at most this many operations were applied
abbrev pub GrewOver : Files → List BoundValue → ℕ → WorkValue → WorkValue → Type 0
GrewOver files bounds applies old new =
    GrewAtMost (decided_of (map (known_from files) bounds) - decided_of bounds) (opened_of (map (known_from files) bounds) - opened_of bounds)
    applies old new

-- These names cover the operations of each entry whose number passes a test, at that number.
abbrev pub CoversWhere : (ℕ → Bool) → Observed → List (HashValue × ℕ) → Type 0
CoversWhere test observed names = (n : ℕ) (entry : Entry) → Some entry ≡ slice_get observed.ledger n → test n ≡ true
    → AllByRecursion (λ suffix. Covers hash_cmp names (suffix, n)) (suffixes_given (gives_of observed.schedule observed.files entry))

-- ---- pending changes are folded

-- no change is pending any longer, and all else is unchanged
pub record Folds (before after : Kept) : Type 0 where
  pub bounds : after.bounds.items ≡ before.bounds.items
  pub waiting : after.waiting ≡ before.waiting
  pub schedule : after.index.folder.schedule ≡ before.index.folder.schedule
  pub operations : (suffix : HashValue) → operations_in suffix after.index ≡ operations_in suffix before.index
  pub none : after.index.changes ≡ []

-- ---- entries are cut

-- only the entries before this number are kept
pub record Cuts (n : ℕ) (before after : Kept) : Type 0 where
  pub bounds : after.bounds.items ≡ take n before.bounds.items
  pub waits : WaitsAgree after.bounds.items after.waiting
  pub schedule : after.index.folder.schedule ≡ before.index.folder.schedule
  pub operations : (suffix : HashValue) → operations_in suffix after.index ≡ before_place n (operations_in suffix before.index)
  pub changes : (names : List (HashValue × ℕ)) → AllByRecursion (Covers hash_cmp names) before.index.changes
      → CoversLosing hash_cmp names n before.index.items → AllByRecursion (Covers hash_cmp names) after.index.changes
