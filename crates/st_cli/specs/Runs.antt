-- The statuses of the program.
use Rattle.std.specs.Io.KnownBytes.{Appends, Consumes}
use Rattle.std.specs.Prelude.{◌==◌, ◌||◌, Bool, ℕ, List, ◌≡◌, ◌++◌, ◌⊎◌, Some, None, Ok, Err, IsTrue, IfSome}
use Rattle.std.specs.declared.option.Option.{Option}
use Rattle.st_base.specs.Work.{WorkValue}
use Rattle.st_io.specs.Past.{Past}
use Rattle.st_io.specs.Histories.{IfTold}
use Rattle.st_journal.specs.Opening.{StandFrom, opened}
use Rattle.st_journal.specs.declared.journal.JournalRefused.TheVariants.{Damaged, TooLong}
use Rattle.st_node.specs.Laws.{is_changing}
use Rattle.st_node.specs.Machine.{Machine, new_machine, replies, after, answered}
use Rattle.st_node.specs.Peer.{node_peer}
use Rattle.st_node.specs.Work.{DueOver, RunCounts, entries_of, submitted_in}
use Rattle.st_drive.specs.Lines.{all_lines, Outcome, Tells}
use Rattle.st_drive.specs.Runs.{Course}
use Rattle.st_drive.specs.Tables.{replying, AnswersLines}
use Rattle.st_generate.specs.Plan.{WritesFront, is_generate_end}
use Rattle.st_generate.specs.Summary.{summary}
use Rattle.st_generate.specs.declared.plan.Plan.{Plan}
use Rattle.st_wallet_lines.specs.Run.{WalletRun}
use Rattle.st_journal_lines.specs.Answering.{Answering}
use Rattle.st_journal_lines.specs.Journalled.{is_journal_end, EndsLines, KeepsFirstLines, KeepsLines, JournalEnds}
use Rattle.st_network.specs.Run.{exchange_course, ExchangeCounts}
use Rattle.st_cli.specs.Invocation.{max_input}
use Rattle.st_cli.specs.declared.command_line.Invocation.{Invocation}
use Rattle.st_cli.specs.declared.command_line.Invocation.TheVariants.{Node, Journalled, Wallet, Exchange, Generate}
use Rattle.st_cli.specs.declared.command_line.NodeOptions.{NodeOptions}

-- all statuses
abbrev pub is_status : ℕ → Bool
is_status status = status == 1 || is_journal_end status

-- ---- A run of a node: its replies to lines, and a bound on the work that is counted.

-- the reference machine under the schedule of these options, before anything was received
abbrev pub new_node : NodeOptions → Machine
new_node options = new_machine options.schedule

-- its replies to lines, from the start
abbrev pub node_replies : NodeOptions → List (List ℕ) → List ℕ
node_replies options lines = replies (new_node options) lines

-- the course of a node over lines, from these counters of work to those: its replies, and no more was counted than
-- was due
abbrev pub node_course : NodeOptions → (work counted : WorkValue) → Course
node_course options work counted = replying (node_replies options) (λ lines. DueOver (new_node options) lines work counted)

-- the bound on the counts of a run over these lines, from the start: by the entries that they add, and by the number
-- of `submit` lines
abbrev pub LinesCount : NodeOptions → List (List ℕ) → (work counted : WorkValue) → Type 0
LinesCount options lines = RunCounts options.schedule (entries_of (new_node options) lines) (submitted_in lines)

-- Over an input at most five files are read for each anchor that is accepted among its lines, and at most
-- as many signed texts opened as these declare operations, and one more for each `submit` line.
abbrev pub InputCounts : NodeOptions → List ℕ → (work counted : WorkValue) → Type 0
InputCounts options input = LinesCount options (all_lines input)

-- ---- The meaning of a node for a run of lines: it replies as the reference machine, becomes the machine after the lines,
-- and counts at most the work that is due.

-- over these lines the node became that machine, and no more was counted than was due
pub record RanLines (machine : Machine) (work : WorkValue × Unit {0}) (lines : List (List ℕ))
    (next : Machine) (counted : WorkValue × Unit {0}) : Type 0 where
  pub came : next ≡ after machine lines
  pub due : DueOver machine lines work.0 counted.0

-- ---- A run of a node with a journal: the machine that its records restore, its course as a command, and the images of
-- its disk.

-- a node as a machine that replay restores: a line changes it if its reply says so
abbrev pub node_answering : Answering Machine WorkValue
node_answering = record {
  reply = λ machine line. (answered machine line).reply;
  next = λ machine line. (answered machine line).next;
  changes = λ machine line. is_changing (answered machine line).reply;
  effect = record {
    ran = λ machine work lines next counted. RanLines machine (work, tt) lines next (counted, tt);
    gave_up = λ machine work lines counted. DueOver machine lines work counted;
  };
}

-- the machine that these records restore
abbrev pub node_from : NodeOptions → (r : List (List ℕ)) → Machine
node_from options r = after (new_node options) r

-- The course of such a node over lines, from these counters of work to those: its replies, and a bound on the work,
-- in which the records count like lines.
abbrev pub journal_course : NodeOptions → (r : List (List ℕ)) → (work counted : WorkValue) → Course
journal_course options r work counted = replying (replies (node_from options r)) (λ lines. LinesCount options (r ++ lines) work counted)

-- the work is bounded by the first records of an image, whatever follows them
abbrev pub FirstRecordsCount : NodeOptions → (image : List ℕ) → (work counted : WorkValue) → Type 0
FirstRecordsCount options image work counted =
    (first : List (List ℕ)) × (end : ℕ) × StandFrom 0 first end image × LinesCount options first work counted

-- The images of the run's disk at each moment.
abbrev pub KeepsFirst : NodeOptions → (r : List (List ℕ)) → (input : List ℕ) → (old new : Past) → Type 0
KeepsFirst options r input old new = KeepsFirstLines node_answering (node_from options r) r (all_lines input) old new

-- The images of the run's disk over an input at its end: the records r, and then those of the input's lines that
-- change the machine.
abbrev pub KeepsRecords : NodeOptions → (r : List (List ℕ)) → (input written : List ℕ) → (old new : Past) → Type 0
KeepsRecords options r input written old new =
    KeepsLines node_answering (node_from options r) r (all_lines input) written old new

-- Those of a run that opened its journal.
abbrev pub EndsRecords : NodeOptions → (r : List (List ℕ)) → (input written : List ℕ) → (new : Past) → Type 0
EndsRecords options r input written new = EndsLines node_answering (node_from options r) r (all_lines input) written new

-- ---- The properties of a run of each command: one record per command, over the inputs and outputs of the run.

-- a run of the program: its source, its sink, its disk and the counters of work, before and after
abbrev pub Run : Type 1
Run = Outcome WorkValue

-- ---- `node`: the lines of the source are answered as the reference machine answers them

-- the properties of a run of `node` with these options
pub record NodeRun (options : NodeOptions) (run : Run) : Type 0 where
  -- the lines of the source are answered; no disk is used
  pub lines : AnswersLines (node_course options run.context run.context_now) options.limit run.io ⊥ run.status
  -- for any status, the work that was counted is bounded by the anchors that were accepted in the bytes taken, and by
  -- their `submit` lines
  pub work : IfSome run.io.had (λ input. (taken : List ℕ) → Consumes (Some input) run.io.left taken
      → InputCounts options taken run.context run.context_now)
  -- the disk is unchanged
  pub disk : run.disk.kept

-- ---- `node --journal`: the same, by the node that the records of the disk restore

-- the properties if the disk has the records r
pub record JournalFrom (options : NodeOptions) (r : List (List ℕ)) (run : Run) : Type 0 where
  -- the lines of the source are answered; the bound on the work counts the records as lines too
  pub lines : AnswersLines (journal_course options r run.context run.context_now) options.limit run.io run.disk.failed run.status
  -- at each moment of the run a stop leaves an earlier image, and from its first successful sync on the records
  -- followed by those lines of a prefix of the input that change the node
  pub moments : (input : List ℕ) → run.io.had ≡ Some input → KeepsFirst options r input run.disk.before run.disk.behind
  -- at its end, for any status, that prefix has each line with a written byte of its reply, and at most one more
  -- line: so a stop leaves at most one record without its reply
  pub records : (input written : List ℕ) → Tells run.io input written
      → KeepsRecords options r input written run.disk.before run.disk.behind
  -- the journal is opened before anything is read or written: if it can't be opened, nothing is; else each image at
  -- the end has the records and the changing lines of such a prefix
  pub opened : (run.io.source_kept × run.io.sink_kept)
      ⊎ ((input written : List ℕ) → Tells run.io input written → EndsRecords options r input written run.disk.behind)

-- the properties of a run of `node --journal` with these options
pub record JournalRun (options : NodeOptions) (run : Run) : Type 0 where
  -- its end: 7 if the journal is damaged and 8 if it is too long, and then nothing was changed
  pub ends : JournalEnds options.limit run
  -- if the disk reveals its contents, and has records: what follows from them
  pub from : IfTold run.disk.reads (λ image. (r : List (List ℕ)) → opened image ≡ Ok r → JournalFrom options r run)
  -- over a damaged journal the work is bounded by the first records of the image, and over one that is too long none
  -- is counted, for any status
  pub work : IfTold run.disk.reads (λ image. (opened image ≡ Err Damaged → FirstRecordsCount options image run.context run.context_now)
      × (opened image ≡ Err TooLong → run.context_now ≡ run.context))

-- ---- `wallet` and `exchange`: the same, by the wallet of the disk, and by four nodes and the messages between them

-- the properties of a run of `wallet`: no work is counted
abbrev pub IsWalletRun : Run → Type 0
IsWalletRun run = WalletRun max_input run.io run.disk run.status × (run.context_now ≡ run.context)

-- the properties of a run of `exchange`
pub record ExchangeRun (run : Run) : Type 0 where
  -- the lines of the source are answered; no disk is used
  pub lines : AnswersLines (exchange_course node_peer run.context run.context_now) max_input run.io ⊥ run.status
  -- for any status, the work that was counted is bounded by the anchors that the four nodes accepted in the bytes taken,
  -- and by the `submit` lines that they got
  pub work : IfSome run.io.had (λ input. (taken : List ℕ) → Consumes (Some input) run.io.left taken
      → ExchangeCounts node_peer (all_lines taken) run.context run.context_now)
  -- the disk is unchanged
  pub disk : run.disk.kept

-- ---- `generate`: the summary of a workload is written

-- the properties of a run of `generate` with this plan
pub record GenerateRun (plan : Plan) (run : Run) : Type 0 where
  -- at status 0 the whole summary is written
  pub done : run.status ≡ 0 → Appends run.io.held run.io.holds (summary node_peer plan)
  -- for any status, a prefix of it is
  pub front : WritesFront (summary node_peer plan) run.io.held run.io.holds
  -- if memory runs out, nothing is
  pub unwritten : run.status ≡ 6 → run.io.sink_kept
  -- if the sink doesn't fail, the whole summary is written, unless memory runs out
  pub complete : ¬ run.io.write_failed → (run.status ≡ 0) ⊎ (run.status ≡ 6)
  -- nothing is read
  pub source : run.io.source_kept
  -- the disk is unchanged
  pub disk : run.disk.kept
  -- 0, 3 and 6 are the only statuses
  pub statuses : IsTrue (is_generate_end run.status)

-- ---- the properties of the program

-- invalid arguments: the status is 1, and nothing is changed
pub record IsRefused (run : Run) : Type 0 where
  pub status : run.status ≡ 1
  pub source : run.io.source_kept
  pub sink : run.io.sink_kept
  pub disk : run.disk.kept
  pub work : run.context_now ≡ run.context

-- the properties of a run, by the form of the command line
abbrev pub Promised : Option Invocation → Run → Type 0
Promised (Some (Node options)) run = NodeRun options run
Promised (Some (Journalled options)) run = JournalRun options run
Promised (Some Wallet) run = IsWalletRun run
Promised (Some Exchange) run = ExchangeRun run
Promised (Some (Generate plan)) run = GenerateRun plan run
Promised None run = IsRefused run
