-- Bounds on the work counted during changes of entries and files.
use Rattle.std.specs.BTreeSet.{insert_key}
use Rattle.std.specs.List.{flat_map, list_any, sum_by, AllByRecursion}
use Rattle.std.specs.Prelude.{◌≡◌, ℕ, ◌+◌, ◌≤◌, nat_le, Bool, not, if◌then◌else◌, List, [], ◌∷◌, ◌++◌, drop, filter, fold, length, map, false, None, slice_index_or, Option, option_map}
use Rattle.st_base.specs.Work.{WorkValue}
use Rattle.st_hash.specs.Hash.{HashValue, hash_cmp, same_hash, uri_of}
use Rattle.st_params.specs.ParamsValue.{params_of}
use Rattle.st_opindex.specs.Items.{ByKey, Indexed, items_at}
use Rattle.st_ops.specs.Operation.{plain_operation}
use Rattle.st_ops.specs.declared.operation.Operation.{Operation}
use Rattle.st_ledger.specs.declared.ledger.Entry.{Entry}
use Rattle.st_anchor.specs.BoundValue.{BoundValue}
use Rattle.st_anchor.specs.Gives.{suffixes_given, given}
use Rattle.st_anchor.specs.States.{decided_roles, opened_proofs, role_states, counted_more}
use Rattle.st_anchor.specs.declared.part.Part.TheVariants as part_is
use Rattle.st_anchor.specs.declared.part.RoleState.{RoleState}
use Rattle.st_anchor.specs.declared.part.RoleState.TheVariants.{Unneeded}
use Rattle.st_apply.specs.Laws.{Anchored, given_from}
use Rattle.st_observer.specs.Observed.{Observed, arrived, gives_of, known_of, operations, role_states_on, appended, cut_to, given_for, state_of, anchored_by, Waits, is_waiting, one_misses}
use Rattle.st_observer.specs.declared.held.Held.{Held}
use Rattle.st_observer.specs.declared.kept.Kept.{Kept}
use Rattle.st_observer.specs.declared.held.Steps.{Steps}

-- no count fell
pub record NoneFell (old new : WorkValue) : Type 0 where
  pub files : old.files ≤ new.files
  pub proofs : old.proofs ≤ new.proofs
  pub applies : old.applies ≤ new.applies

-- at most this many files were read, signed texts opened and operations applied, and no count fell
pub record GrewAtMost (files proofs applies : ℕ) (old new : WorkValue) : Type 0 where
  pub least : NoneFell old new
  pub read : new.files ≤ old.files + files
  pub opened : new.proofs ≤ old.proofs + proofs
  pub applied : new.applies ≤ old.applies + applies

-- exactly this many files were read and signed texts opened, each counted
pub record ReadExactly (files proofs : ℕ) (old new : WorkValue) : Type 0 where
  pub read : new.files ≡ counted_more files old.files
  pub opened : new.proofs ≡ counted_more proofs old.proofs

-- the number of decided roles of the entries: their files, or the entry's text, were read or rejected
abbrev pub decided_in : Observed → ℕ
decided_in observed = sum_by (λ entry. decided_roles (known_of observed.schedule observed.files entry)) observed.ledger

-- the number of signed texts in the proof files of the entries that were read
abbrev pub opened_in : Observed → ℕ
opened_in observed = sum_by (λ entry. opened_proofs (known_of observed.schedule observed.files entry)) observed.ledger

-- the operations at this place or later
abbrev pub from_place : ℕ → List Anchored → List Anchored
from_place place operations = filter (λ anchored. nat_le place anchored.place) operations

-- The cost of an identifier for which the entry at this place gives an operation: 7, and one for each of its
-- operations at that place or later.
abbrev pub suffix_cost : ℕ → Observed → HashValue → ℕ
suffix_cost place observed suffix = 7 + length (from_place place (operations suffix observed))

-- the cost of identifiers, each with a place: the sum of these
abbrev pub named_cost : Observed → List (HashValue × ℕ) → ℕ
named_cost observed names = sum_by (λ name. suffix_cost name.1 observed name.0) names

-- the suffixes for which an entry gives operations
abbrev pub suffixes_of : Observed → Entry → List HashValue
suffixes_of observed entry = suffixes_given (gives_of observed.schedule observed.files entry)

-- the cost of an entry: the sum of this for each identifier for which it gives an operation
abbrev pub entry_cost : ℕ → Entry → Observed → ℕ
entry_cost place entry observed = sum_by (suffix_cost place observed) (suffixes_of observed entry)

-- ---- a file that was missing

-- this file is missing for some role of the entry
abbrev pub is_missed_by : List ℕ → Observed → Entry → Bool
is_missed_by file observed entry = one_misses (uri_of file) (role_states_on observed.schedule observed.files entry)

-- the suffixes for which an entry gives operations after its missing file was received; none if it didn't miss it
abbrev pub late_in : List ℕ → Observed → Entry → List HashValue
late_in file observed entry = if is_missed_by file observed entry then suffixes_of (arrived file observed) entry else []

-- Those of entries, the first of which is at this place: each suffix once, at the place of the first entry that gives
-- an operation for it.
abbrev pub late_from : ℕ → List ℕ → Observed → List Entry → List (HashValue × ℕ)
late_from place file observed [] = []
late_from place file observed (entry ∷ entries) =
    map (λ suffix. (suffix, place)) (late_in file observed entry)
    ++ filter (λ later. not (list_any (same_hash later.0) (late_in file observed entry))) (late_from (place + 1) file observed entries)

-- The identifiers for which entries that missed a file give operations after it is received: by their suffixes, each
-- once, with the place of the first such entry.
abbrev pub late : List ℕ → Observed → List (HashValue × ℕ)
late file observed = late_from 0 file observed observed.ledger

-- The cost of receiving a file: for each of these identifiers 7, and one for each of its operations at that place or
-- later.
abbrev pub arrival_cost : List ℕ → Observed → ℕ
arrival_cost file observed = named_cost (arrived file observed) (late file observed)

-- ---- entries that are cut

-- each of these once, in the order of hashes
abbrev pub each_once : List HashValue → List HashValue
each_once suffixes = fold (insert_key hash_cmp) [] suffixes

-- The identifiers that lose an operation if the first n entries are kept, by their suffixes, each once: those for
-- which the entries from there on give one.
abbrev pub losing : ℕ → Observed → List HashValue
losing n observed = each_once (flat_map (suffixes_of observed) (drop n observed.ledger))

-- ---- The stored operations of identifiers at their places.

-- identifiers by their suffixes, each with the heights and operations at its places
abbrev pub BySuffix : Type 0
BySuffix = ByKey HashValue (ℕ × Operation)

-- what contracts see of the index of operations: the schedule of limits, the operations of identifiers, and the
-- pending changes
abbrev pub Operations : Type 0
Operations = Indexed HashValue Steps (ℕ × Operation)

-- ---- the operations of an identifier

-- a stored operation, without its place in memory
abbrev pub plain_held : Held → Anchored
plain_held held = record { place = held.place; height = held.height; operation = plain_operation held.operation }

-- a height and an operation at a place
abbrev pub anchored_item : ℕ × (ℕ × Operation) → Anchored
anchored_item item = record { place = item.0; height = item.1.0; operation = plain_operation item.1.1 }

-- the operations of an identifier, by its suffix, in the order of their places
unfoldable pub operations_at : HashValue → BySuffix → List Anchored
operations_at suffix items = map anchored_item (items_at hash_cmp suffix items)

-- the same from the view of the index
abbrev pub operations_in : HashValue → Operations → List Anchored
operations_in suffix index = operations_at suffix index.items

-- ---- Laws of identifiers, whatever else an observer has received.

-- An identifier with equal operations under equal schedules has equal states, even if all else differs.
abbrev pub OperationsDecide : Type 0
OperationsDecide = (suffix : HashValue) (first second : Observed) → first.schedule ≡ second.schedule
    → operations suffix first ≡ operations suffix second → state_of suffix first ≡ state_of suffix second

-- the entry gives nothing for the suffix
abbrev pub GivesNothing : HashValue → Observed → Entry → Type 0
GivesNothing suffix observed entry = given_for suffix (gives_of observed.schedule observed.files entry) ≡ None

-- One more entry that gives no operation for a suffix leaves its operations.
abbrev pub AppendLeaves : Type 0
AppendLeaves = (suffix : HashValue) (observed : Observed) (entry : Entry) → GivesNothing suffix observed entry
    → operations suffix (appended entry observed) ≡ operations suffix observed

-- So does a cut of entries that give none for it.
abbrev pub CutLeaves : Type 0
CutLeaves = (suffix : HashValue) (observed : Observed) (n : ℕ) → AllByRecursion (GivesNothing suffix observed) (drop n observed.ledger)
    → operations suffix (cut_to n observed) ≡ operations suffix observed

-- So does a file that is missing for no entry.
abbrev pub ArrivalLeaves : Type 0
ArrivalLeaves = (suffix : HashValue) (observed : Observed) (file : List ℕ) → AllByRecursion (λ entry. is_missed_by file observed entry ≡ false) observed.ledger
    → operations suffix (arrived file observed) ≡ operations suffix observed

-- ---- The data kept for the entries of a ledger, and how it agrees with the entries and files received.

-- ---- what is known about entries

-- nothing is known about an entry that does not exist
abbrev pub unknown : BoundValue
unknown = record { context = record { count = 0; params = params_of 1 }; core = part_is.Unneeded }

-- what is known about the entry with this number
abbrev pub bound_at : ℕ → List BoundValue → BoundValue
bound_at n bounds = slice_index_or bounds n unknown

-- the states of the roles of the entry with this number, from what is known about the entries
abbrev pub roles_at : ℕ → List BoundValue → List RoleState
roles_at n bounds = role_states (bound_at n bounds)

-- each entry waits for exactly the files that its roles miss
pub record WaitsAgree (bounds : List BoundValue) (waits : Waits) : Type 0 where
  pub each : (uri : HashValue) (n : ℕ) → is_waiting uri n waits ≡ one_misses uri (roles_at n bounds)

-- ---- which operations there are

-- the operation of the entry with this number for a suffix, from what is known about it
abbrev pub anchored_in : HashValue → List BoundValue → ℕ → Entry → Option Anchored
anchored_in suffix bounds number entry = option_map (anchored_by number entry) (given_for suffix (given (bound_at number bounds)))

-- the operations of entries for a suffix; the first entry has this number
abbrev pub operations_from : HashValue → List BoundValue → ℕ → List Entry → List Anchored
operations_from suffix bounds number entries = given_from (anchored_in suffix bounds) number entries

-- each identifier has the operations that the entries give for it
pub record OperationsAgree (ledger : List Entry) (bounds : List BoundValue) (index : Operations) : Type 0 where
  pub each : (suffix : HashValue) → operations_in suffix index ≡ operations_from suffix bounds 0 ledger

-- ---- all of it

-- What is known about each entry is all that the files give; entries wait, and identifiers have operations, according
-- to it.
pub record IsKept (observed : Observed) (kept : Kept) : Type 0 where
  pub same : kept.bounds.items ≡ map (known_of observed.schedule observed.files) observed.ledger
  pub waits : WaitsAgree kept.bounds.items kept.waiting
  pub schedule : kept.index.folder.schedule ≡ observed.schedule
  pub states : OperationsAgree observed.ledger kept.bounds.items kept.index

-- and no change is pending
pub record IsObserved (observed : Observed) (kept : Kept) : Type 0 where
  pub is : IsKept observed kept
  pub none : kept.index.changes ≡ []
