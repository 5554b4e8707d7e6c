-- Bounds on the work that is counted: for one line, and for several lines.
use Rattle.std.specs.Prelude.{◌≡◌, ℕ, ◌+◌, ◌-◌, ◌*◌, ◌≤◌, nat_le, Bool, true, false, List, [], ◌∷◌, ◌++◌, length, sum_by, Option, option_map, unwrap_or, Result, Ok, Err}
use Rattle.st_anchor.specs.States.{decided_roles, opened_proofs}
use Rattle.st_apply.specs.Laws.{Anchored}
use Rattle.st_base.specs.Work.{WorkValue, AppliesAtMost, ProofsAtMost}
use Rattle.st_batch.specs.Batch.{batch_of}
use Rattle.st_batch.specs.declared.batch.BatchFile.{BatchFile}
use Rattle.st_ledger.specs.Ledger.{anchor_of, admitted}
use Rattle.st_ledger.specs.declared.ledger.Entry.{Entry}
use Rattle.st_ledger.specs.declared.ledger.LedgerRefused.{LedgerRefused}
use Rattle.st_node.specs.Command.{command_of}
use Rattle.st_node.specs.Machine.{Machine, after, all_arrived, answered, asked_did, limits_now}
use Rattle.st_node.specs.declared.command.Command.{Command}
use Rattle.st_node.specs.declared.command.Command.TheVariants.{Content, Anchor, Rollback, Resolve, Explain, Wanted, Report, Submit, Flush}
use Rattle.st_node.specs.declared.command.LineCause.{LineCause}
use Rattle.st_observer.specs.Observed.{Observed, appended, arrived, known_of, operations}
use Rattle.st_observer.specs.Work.{GrewAtMost, arrival_cost, decided_in, entry_cost, losing, opened_in}
use Rattle.st_resolve.specs.Identifier.{PlainDid}
use Rattle.st_params.specs.ParamsValue.{params_at}

-- ---- the cost of a command

-- A file costs one reading for each role of any entry that it decides, and one opening for each signed text in newly
-- read proof files.
abbrev pub ArrivalCounts : Observed → List ℕ → WorkValue → WorkValue → Type 0
ArrivalCounts observed bytes old new =
    GrewAtMost
    (decided_in (arrived bytes observed) - decided_in observed)
    (opened_in (arrived bytes observed) - opened_in observed)
    (arrival_cost bytes observed)
    old new

-- An entry costs the same for its own roles.
abbrev pub EntryCounts : Observed → Entry → WorkValue → WorkValue → Type 0
EntryCounts observed entry old new =
    GrewAtMost
    (decided_roles (known_of observed.schedule observed.files entry))
    (opened_proofs (known_of observed.schedule observed.files entry))
    (entry_cost (length observed.ledger) entry (appended entry observed))
    old new

-- nothing is counted for a refused one
abbrev pub AdmittedCounts : Observed → Entry → Result Unit LedgerRefused → WorkValue → WorkValue → Type 0
AdmittedCounts observed entry (Ok _) old new = EntryCounts observed entry old new
AdmittedCounts observed entry (Err cause) old new = new ≡ old

-- A cut reads and opens nothing, and costs at most 7 applied operations for each identifier that loses one; if it is
-- refused, nothing is counted.
abbrev pub FittingCounts : Observed → ℕ → Bool → WorkValue → WorkValue → Type 0
FittingCounts observed n true old new = AppliesAtMost (7 * length (losing n observed)) old new
FittingCounts observed n false old new = new ≡ old

-- the same by the number of entries kept
abbrev pub RollbackCounts : Observed → ℕ → WorkValue → WorkValue → Type 0
RollbackCounts observed n old new = FittingCounts observed n (nat_le n (length observed.ledger)) old new

-- the cost of files that are received one after another
abbrev pub arrivals_cost : List BatchFile → Observed → ℕ
arrivals_cost [] observed = 0
arrivals_cost (file ∷ files) observed = arrival_cost file.bytes observed + arrivals_cost files (arrived file.bytes observed)

-- Files received one after another cost one reading for each role that they decide together, and one opening for each
-- signed text in newly read proof files.
abbrev pub ArrivalsCounts : Observed → List BatchFile → WorkValue → WorkValue → Type 0
ArrivalsCounts observed files old new =
    GrewAtMost
    (decided_in (all_arrived files observed) - decided_in observed)
    (opened_in (all_arrived files observed) - opened_in observed)
    (arrivals_cost files observed)
    old new

-- nothing is counted if nothing is queued
abbrev pub QueueCounts : Machine → Bool → WorkValue → WorkValue → Type 0
QueueCounts machine true old new =
    ArrivalsCounts machine.observed (batch_of (limits_now machine.observed) machine.queue).files old new
QueueCounts machine false old new = new ≡ old

-- A flush costs what the files of its batch cost; making them costs nothing.
abbrev pub FlushCounts : Machine → WorkValue → WorkValue → Type 0
FlushCounts machine old new = QueueCounts machine (nat_le 1 (length machine.queue)) old new

-- the operations of an identifier, or none if there is no identifier
abbrev pub operations_of_found : Observed → Result PlainDid (List ℕ) → List Anchored
operations_of_found observed (Ok did) = operations did.suffix observed
operations_of_found observed (Err cause) = []

-- the operations of a text's identifier
abbrev pub asked_operations : Observed → List ℕ → List Anchored
asked_operations observed text = operations_of_found observed (asked_did observed text)

-- The counts of executing a command; no count falls. Resolving an identifier reads nothing and applies at most one
-- operation. Explaining one reads nothing and applies at most as many operations as entries give for it. Submitting a
-- request opens at most one signed text, also if it is refused. Queries of the state cost nothing.
abbrev pub CommandCounts : Machine → Command → WorkValue → WorkValue → Type 0
CommandCounts machine (Content bytes) old new = ArrivalCounts machine.observed bytes old new
CommandCounts machine (Anchor height text) old new =
    AdmittedCounts machine.observed (record { height = height; text = text }) (admitted machine.observed.ledger height) old new
CommandCounts machine (Rollback n) old new = RollbackCounts machine.observed n old new
CommandCounts machine (Resolve did) old new = AppliesAtMost 1 old new
CommandCounts machine (Explain text) old new = AppliesAtMost (length (asked_operations machine.observed text)) old new
CommandCounts machine Wanted old new = new ≡ old
CommandCounts machine (Report n) old new = new ≡ old
CommandCounts machine (Submit request) old new = ProofsAtMost 1 old new
CommandCounts machine Flush old new = FlushCounts machine old new

-- and of answering a line: nothing is counted for a line that is not a command
abbrev pub LineCounts : Machine → Result Command LineCause → WorkValue → WorkValue → Type 0
LineCounts machine (Ok command) old new = CommandCounts machine command old new
LineCounts machine (Err cause) old new = new ≡ old

-- ---- work still due

-- how many files may still be read for an entry: one for each of its five roles that isn't decided
abbrev pub files_due_for : Observed → Entry → ℕ
files_due_for observed entry = 5 - decided_roles (known_of observed.schedule observed.files entry)

-- how many operations an anchor string declares, or 0 if it fails a rule
abbrev pub declared_count : Option ℕ → Entry → ℕ
declared_count schedule entry = unwrap_or (option_map (λ anchor. anchor.count) (anchor_of (params_at schedule entry.height) entry.text)) 0

-- how many signed texts may still be opened for an entry: as many as it declares operations, less those already
-- opened
abbrev pub proofs_due_for : Observed → Entry → ℕ
proofs_due_for observed entry =
    declared_count observed.schedule entry - opened_proofs (known_of observed.schedule observed.files entry)

-- how many files may still be read for all entries
abbrev pub files_due : Observed → ℕ
files_due observed = sum_by (files_due_for observed) observed.ledger

-- how many signed texts may still be opened for all entries
abbrev pub proofs_due : Observed → ℕ
proofs_due observed = sum_by (proofs_due_for observed) observed.ledger

-- ---- over lines

-- the entry of an anchor, if it is accepted
abbrev pub entry_admitted : Entry → Result Unit LedgerRefused → List Entry
entry_admitted entry (Ok _) = entry ∷ []
entry_admitted entry (Err cause) = []

-- that of a command
abbrev pub entry_of_command : Machine → Command → List Entry
entry_of_command machine (Anchor height text) =
    entry_admitted (record { height = height; text = text }) (admitted machine.observed.ledger height)
entry_of_command machine command = []

-- that of a line that was read
abbrev pub entry_of_read : Machine → Result Command LineCause → List Entry
entry_of_read machine (Ok command) = entry_of_command machine command
entry_of_read machine (Err cause) = []

-- that of a line
abbrev pub entry_of_line : Machine → List ℕ → List Entry
entry_of_line machine line = entry_of_read machine (command_of line)

-- the entries of lines: one for each accepted anchor among them
abbrev pub entries_of : Machine → List (List ℕ) → List Entry
entries_of machine [] = []
entries_of machine (line ∷ lines) = entry_of_line machine line ++ entries_of (answered machine line).next lines

-- how many requests a command submits: one, if it is a `submit`
abbrev pub submitted_by : Command → ℕ
submitted_by (Submit request) = 1
submitted_by command = 0

-- a line that was read
abbrev pub submitted_by_read : Result Command LineCause → ℕ
submitted_by_read (Ok command) = submitted_by command
submitted_by_read (Err cause) = 0

-- a line
abbrev pub submitted_by_line : List ℕ → ℕ
submitted_by_line line = submitted_by_read (command_of line)

-- how many `submit` lines there are among lines
abbrev pub submitted_in : List (List ℕ) → ℕ
submitted_in lines = sum_by submitted_by_line lines

-- The counts plus the work still due afterwards are at most the earlier counts, the work due before, and the new
-- work: each of these entries adds five files and as many signed texts as it declares operations, and each submission
-- adds one signed text.
pub record StaysDue (before later : Observed) (entries : List Entry) (submissions : ℕ) (old new : WorkValue) : Type 0 where
  pub files : new.files + files_due later ≤ old.files + files_due before + 5 * length entries
  pub proofs : new.proofs + proofs_due later ≤ old.proofs + proofs_due before + sum_by (declared_count before.schedule) entries + submissions

-- the same over several lines
abbrev pub DueOver : Machine → List (List ℕ) → WorkValue → WorkValue → Type 0
DueOver machine lines old new =
    StaysDue machine.observed (after machine lines).observed (entries_of machine lines) (submitted_in lines) old new

-- From the start, several lines read at most five files for each accepted anchor, and open at most as many signed
-- texts as these declare operations, and one for each `submit` line.
pub record RunCounts (schedule : Option ℕ) (entries : List Entry) (submissions : ℕ) (old new : WorkValue) : Type 0 where
  pub files : new.files ≤ old.files + 5 * length entries
  pub proofs : new.proofs ≤ old.proofs + sum_by (declared_count schedule) entries + submissions
