-- Entries of the ledger and files received, and the schedule of limits. Every answer of an observer follows from
-- these alone (DIF Sidetree v1.0.0, "Observer").
use Rattle.std.specs.BTreeSet.{insert_key}
use Rattle.std.specs.Cmp.Lexicographic.{slice_cmp}
use Rattle.std.specs.List.{list_any, flat_map}
use Rattle.std.specs.Map.{lookup}
use Rattle.std.specs.Ordering.{nat_cmp}
use Rattle.std.specs.Prelude.{ℕ, List, [], ◌∷◌, ◌++◌, slice_get, take, Option, option_map, ◌==◌, Bool, unwrap_or, ◌≡◌, true, fold, Some}
use Rattle.std.specs.declared.cmp.Ordering.{Ordering}
use Rattle.st_hash.specs.Hash.{HashValue, same_hash, hash_text}
use Rattle.st_params.specs.ParamsValue.{params_at}
use Rattle.st_doc.specs.Document.{PlainDocument}
use Rattle.st_ops.specs.Operation.{PlainOperation}
use Rattle.st_ledger.specs.declared.ledger.Entry.{Entry}
use Rattle.st_content.specs.Files.{Files, with_file}
use Rattle.st_anchor.specs.BoundValue.{BoundValue, known}
use Rattle.st_anchor.specs.Gives.{gives}
use Rattle.st_anchor.specs.States.{role_states_from}
use Rattle.st_anchor.specs.declared.part.RoleState.{RoleState}
use Rattle.st_anchor.specs.declared.part.RoleState.TheVariants.{Unneeded, Missing, Rejected, Read}
use Rattle.st_apply.specs.Laws.{Anchored, resolved, given_from}
use Rattle.st_apply.specs.Codes.{State}

-- a schedule of limits, the entries of the ledger in their order, and the files received
pub record Observed : Type 0 where
  pub schedule : Option ℕ
  pub ledger : List Entry
  pub files : Files

-- ---- changes

-- under a schedule, before anything was received
abbrev pub nothing_yet : Option ℕ → Observed
nothing_yet schedule = record { schedule = schedule; ledger = []; files = [] }

-- with one more entry
abbrev pub appended : Entry → Observed → Observed
appended entry observed = record observed { ledger = observed.ledger ++ entry ∷ [] }

-- with only the first entries; the files stay
abbrev pub cut_to : ℕ → Observed → Observed
cut_to n observed = record observed { ledger = take n observed.ledger }

-- after a file was received
abbrev pub arrived : List ℕ → Observed → Observed
arrived file observed = record observed { files = with_file file observed.files }

-- ---- entries

-- what is known about an entry over these files, at the limits of its height
abbrev pub known_of : Option ℕ → Files → Entry → BoundValue
known_of schedule files entry = known files (params_at schedule entry.height) entry.text

-- its operations
abbrev pub gives_of : Option ℕ → Files → Entry → List (HashValue × PlainOperation)
gives_of schedule files entry = gives files (params_at schedule entry.height) entry.text

-- the states of its roles
abbrev pub role_states_on : Option ℕ → Files → Entry → List RoleState
role_states_on schedule files entry = role_states_from files (params_at schedule entry.height) entry.text

-- The report of the entry with this number: the states of its five roles. There is none if there is no such entry.
abbrev pub report : ℕ → Observed → Option (List RoleState)
report n observed = option_map (role_states_on observed.schedule observed.files) (slice_get observed.ledger n)

-- ---- identifiers

-- the operation for a suffix among those of an entry, which has at most one (a law of st_anchor)
abbrev pub given_for : HashValue → List (HashValue × PlainOperation) → Option PlainOperation
given_for suffix given = lookup (same_hash suffix) given

-- an operation of the entry with this number
abbrev pub anchored_by : ℕ → Entry → PlainOperation → Anchored
anchored_by number entry operation = record { place = number; height = entry.height; operation = operation }

-- the operation of the entry with this number for a suffix, at its place
abbrev pub anchored_for : HashValue → Option ℕ → Files → ℕ → Entry → Option Anchored
anchored_for suffix schedule files number entry =
    option_map (anchored_by number entry) (given_for suffix (gives_of schedule files entry))

-- The operations of an identifier, by its suffix: those of the entries that give one for it, in the order of the
-- ledger (DIF Sidetree v1.0.0, "Resolver").
unfoldable pub operations : HashValue → Observed → List Anchored
operations suffix observed = given_from (anchored_for suffix observed.schedule observed.files) 0 observed.ledger

-- The state of an identifier: its operations, resolved from nothing.
abbrev pub state_of : HashValue → Observed → State HashValue PlainDocument
state_of suffix observed = resolved observed.schedule (operations suffix observed)

-- ---- Which entries wait for which files.

-- URIs, each with the numbers of the entries that wait for its file
abbrev pub Waits : Type 0
Waits = List (HashValue × List ℕ)

-- the entries that wait for the file of this URI
abbrev pub waiting_for : HashValue → Waits → List ℕ
waiting_for uri waits = unwrap_or (lookup (same_hash uri) waits) []

-- the entry with this number waits for the file of this URI
abbrev pub is_waiting : HashValue → ℕ → Waits → Bool
is_waiting uri n waits = list_any (λ m. m == n) (waiting_for uri waits)

-- ---- The wanted files: those missing for some entry.

-- the missing file of a role
abbrev pub missed_in : RoleState → List HashValue
missed_in Unneeded = []
missed_in (Missing uri) = uri ∷ []
missed_in (Rejected rule) = []
missed_in Read = []

-- the file of this URI is missing for the role
abbrev pub misses : HashValue → RoleState → Bool
misses uri state = list_any (same_hash uri) (missed_in state)

-- it is missing for one of these roles
abbrev pub one_misses : HashValue → List RoleState → Bool
one_misses uri states = list_any (misses uri) states

-- the missing files of entries, in the order of entries and roles
abbrev pub missed_files : Observed → List HashValue
missed_files observed = flat_map (λ entry. flat_map missed_in (role_states_on observed.schedule observed.files entry)) observed.ledger

-- the file of this URI is missing for some role of some entry, by the entry's report
pub record IsMissed (uri : HashValue) (observed : Observed) : Type 0 where
  pub number : ℕ
  pub states : List RoleState
  pub there : report number observed ≡ Some states
  pub missed : one_misses uri states ≡ true

-- the order of URIs by the bytes of their texts
abbrev pub text_cmp : HashValue → HashValue → Ordering
text_cmp first second = slice_cmp nat_cmp (hash_text first) (hash_text second)

-- each of these once, ascending by the bytes of their texts
abbrev pub ascending_once : List HashValue → List HashValue
ascending_once uris = fold (insert_key text_cmp) [] uris

-- The URIs of the files missing for some entry, each once, ascending by the bytes of their texts.
unfoldable pub wanted : Observed → List HashValue
wanted observed = ascending_once (missed_files observed)

-- the file of this URI is one of them
abbrev pub is_wanted : HashValue → Observed → Bool
is_wanted uri observed = list_any (same_hash uri) (wanted observed)
