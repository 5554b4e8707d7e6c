-- The counts of a run, from its table.
use Rattle.std.proofs.Common.{◌≡◌, ◌∙◌, ⊎_elim, ℕ, Option, Some, None, List, [], ◌∷◌, ◌++◌, refl, ap, sym, subst, arith, append_assoc, length-append, inl, inr, ◌≢◌, IsTrue}
use Rattle.std.proofs.lemmas.List.Sums.{sum_by-append}
use Rattle.std.specs.Io.KnownBytes.{Consumes}
use Rattle.std.specs.Prelude.{IfSome, true}
use Rattle.st_base.proofs.TextLemmas.{same_cut}
use Rattle.st_base.specs.Work.{WorkValue}
use Rattle.st_io.specs.Past.{Rose, FinishesNothing}
use Rattle.st_node.proofs.LawLemmas.{entries-append, run_counts, due_none}
use Rattle.st_node.specs.Machine.{Machine, after, answered, replies}
use Rattle.st_node.specs.Peer.{node_peer}
use Rattle.st_node.specs.Work.{DueOver, RunCounts, declared_count, entries_of, submitted_by_line, submitted_in}
use Rattle.st_drive.proofs.TableLemmas.{lines_by, not_begun}
use Rattle.st_drive.specs.Lines.{all_lines, Streams}
use Rattle.st_drive.specs.Runs.{Course, course}
use Rattle.st_drive.specs.Tables.{AnsweredFirst, RunTable, AnswersLines, Ends}
use Rattle.st_drive.specs.inside.Parts.{Unread}
use Rattle.st_generate.specs.Plan.{is_generate_end}
use Rattle.st_journal_lines.specs.Answering.{WentOverFirst, behind}
use Rattle.st_journal_lines.specs.Journalled.{EndsLines, RunFromRecords, RecordedRun, KeepsFirstLines, KeepsLines, WentWithin, replies_by}
use Rattle.st_network.proofs.NetworkLemmas.{counts_more}
use Rattle.st_network.specs.Run.{exchange_course, ExchangeCounts}
use Rattle.st_cli.specs.Invocation.{max_input}
use Rattle.st_cli.specs.Runs.{FirstRecordsCount, node_answering, LinesCount, new_node, node_course, JournalFrom, JournalRun, Run, ExchangeRun, NodeRun, Promised}
use Rattle.st_cli.specs.declared.command_line.Invocation.{Invocation}
use Rattle.st_cli.specs.declared.command_line.NodeOptions.{NodeOptions}
use Rattle.st_cli.specs.inside.NodeLaws.{node_meaning}

-- a bound over some lines is one over more
over_more : (schedule : Option ℕ) (machine : Machine) (lines more : List (List ℕ)) (old new : WorkValue)
    → RunCounts schedule (entries_of machine lines) (submitted_in lines) old new
    → RunCounts schedule (entries_of machine (lines ++ more)) (submitted_in (lines ++ more)) old new
over_more schedule machine lines more old new counts =
    let first = entries_of machine lines in
    let then = entries_of (after machine lines) more in
    let declared = declared_count schedule in
    let submissions = submitted_in (lines ++ more) in
    let both : RunCounts schedule (first ++ then) submissions old new = record {
      files = omega (arith, length-append first then, counts.files);
      proofs = omega (arith, sum_by-append declared first then, sum_by-append submitted_by_line lines more, counts.proofs);
    } in
    subst (λ entries. RunCounts schedule entries submissions old new) (sym (entries-append machine lines more)) both

module _ (options : NodeOptions) (work counted : WorkValue) where
  -- the bound over these lines, from the start
  abbrev Within : List (List ℕ) → Type 0
  Within lines = LinesCount options lines work counted

  pub within_more : (lines more : List (List ℕ)) → Within lines → Within (lines ++ more)
  within_more lines more within = over_more options.schedule (new_node options) lines more work counted within

  -- at the start nothing is due
  pub from_beginning : (lines : List (List ℕ)) → DueOver (new_node options) lines work counted → Within lines
  from_beginning lines due = run_counts options.schedule lines work counted due

-- the bytes taken follow from the bytes before and the remaining ones
taken_is : (input : List ℕ) (left : Option (List ℕ)) (taken other : List ℕ) → Consumes (Some input) left taken
    → Consumes (Some input) left other → taken ≡ other
taken_is input None taken other takes takes_other = absurd takes
taken_is input (Some rest) taken other takes takes_other =
    let cut = same_cut taken rest other rest (sym takes ∙ takes_other) refl in cut.front_is

-- so a property of them holds for any bytes taken
of_any_taken : (P : List ℕ → Type 0) (had left : Option (List ℕ)) (taken : List ℕ) → Consumes had left taken → P taken
    → IfSome had (λ input. (other : List ℕ) → Consumes (Some input) left other → P other)
of_any_taken P None left taken takes holds = tt
of_any_taken P (Some input) left taken takes holds =
    λ other takes_other. subst P (taken_is input left taken other takes takes_other) holds

-- a bound over lines that is one over more, of a course that says it of its lines
module _ (over : Course) (Holds : List (List ℕ) → Type 0)
    (ran : (lines : List (List ℕ)) → over.ran_over lines → Holds lines) (gave_up : (lines : List (List ℕ)) → over.gave_up_over lines → Holds lines)
    (more : (lines later : List (List ℕ)) → Holds lines → Holds (lines ++ later)) where
  -- for any end of the run, the counters are those after a prefix of the lines of the bytes taken
  of_first : {written : List ℕ} (lines : List (List ℕ)) → AnsweredFirst over written lines → Holds lines
  of_first lines first = ⊎_elim
      (λ done. subst Holds first.all (more first.answered first.later (ran first.answered done.0)))
      (λ gave.
      let all = first.answered ++ gave.0 ∷ [] in
      subst Holds (append_assoc first.answered (gave.0 ∷ []) gave.1 ∙ ap (λ ls. first.answered ++ ls) (sym gave.2) ∙ first.all)
      (more all gave.1 (gave_up all gave.3.0)))
      first.context

  -- so they are within the bound over the bytes taken
  pub counts_of_table : {limit : ℕ} {io : Streams} {status : ℕ} → RunTable over limit io status
      → IfSome io.had (λ input. (taken : List ℕ) → Consumes (Some input) io.left taken → Holds (all_lines taken))
  counts_of_table {io = io} table =
      of_any_taken (λ taken. Holds (all_lines taken)) io.had io.left table.took.taken table.took.takes
      (of_first (all_lines table.took.taken) table.so_far.of_taken)

-- ---- A run of a node with a journal, by the node's definitions.

behind_is : (machine : Machine) (lines : List (List ℕ)) → behind node_answering machine lines ≡ after machine lines
behind_is machine [] = refl
behind_is machine (line ∷ lines) = behind_is (answered machine line).next lines

replies_are : (machine : Machine) (lines : List (List ℕ)) → replies_by node_answering machine lines ≡ replies machine lines
replies_are machine [] = refl
replies_are machine (line ∷ lines) = ap (λ more. (answered machine line).reply ++ more) (replies_are (answered machine line).next lines)

-- the counts are within the bound over all lines
counts_within : (options : NodeOptions) (work counted : WorkValue) (lines : List (List ℕ))
    → WentWithin node_answering (new_node options) work counted lines → LinesCount options lines work counted
counts_within options work counted lines went =
    let begun : LinesCount options went.0 work counted =
    from_beginning options work counted went.0 (⊎_elim (λ ran. ran.1.due) (λ gave. gave) went.2) in
    subst (λ ls. LinesCount options ls work counted) went.1.1 (within_more options work counted went.0 went.1.0 begun)

-- the counts are at most those over the first records
pub first_count : (options : NodeOptions) (image : List ℕ) (work counted : WorkValue)
    → WentOverFirst node_answering (new_node options) image work counted → FirstRecordsCount options image work counted
first_count options image work counted went = (
  went.0,
  went.1,
  went.2,
  ⊎_elim
      (λ same. subst (λ c. LinesCount options went.0 work c) (sym same)
      (within_more options work work [] went.0 (from_beginning options work work [] (due_none (new_node options) work))))
      (λ gave. counts_within options work counted went.0 (gave.0, gave.1, inr gave.2))
      went.3,
)

-- the properties if the disk has the records r, from those of any machine with a journal
pub journal_from : {options : NodeOptions} {run : Run} (r : List (List ℕ))
    → RunFromRecords node_answering (new_node options) options.limit run r → JournalFrom options r run
journal_from {options} {run} r from = record {
  lines = lines_by (record {
    told = λ t. t;
    prompt = λ never. absurd never;
    answers = λ t lines. replies_are (behind node_answering (new_node options) r) lines
        ∙ ap (λ machine. replies machine lines) (behind_is (new_node options) r);
    ran_over = λ lines went. counts_within options run.context run.context_now (r ++ lines) went;
    gave_up_over = λ lines went. counts_within options run.context run.context_now (r ++ lines) went;
  }) (λ failed. failed) from.lines;
  moments = λ input is. subst (λ (machine : Machine). KeepsFirstLines node_answering machine r (all_lines input) run.disk.before run.disk.behind)
      (behind_is (new_node options) r) (from.moments input is);
  records = λ input written tells.
      subst (λ (machine : Machine). KeepsLines node_answering machine r (all_lines input) written run.disk.before run.disk.behind)
      (behind_is (new_node options) r) (from.records input written tells);
  opened = ⊎_elim inl
      (λ ends. inr (λ input written tells. subst (λ (machine : Machine). EndsLines node_answering machine r (all_lines input) written run.disk.behind)
      (behind_is (new_node options) r) (ends input written tells))) from.opened;
}

pub journal_run : {options : NodeOptions} {run : Run} → RecordedRun node_answering (new_node options) options.limit run → JournalRun options run
journal_run {options} {run} by = record {
  ends = by.ends;
  from = λ image told r is. journal_from r (by.from image told r is);
  work = λ image told. (
    λ damaged. first_count options image run.context run.context_now (by.within image told damaged),
    by.unmoved image told,
  );
}

-- ---- The properties of a run of each command, from those of the machine that it runs.
--     promised_of      from the form that was read to the words
--     node_lines       the lines that a node answers, from the ones over its course
--     begun_none       if there was no memory for a node
--     node_run         the properties of a node
--     exchange_run     and of four
--     generate_ends    the end of a run of `generate`

-- the properties of a form that was read are those of the words
pub promised_of : (run : Run) {read invocation : Invocation} {asked : Option Invocation} → read ≡ invocation → Some read ≡ asked
    → Promised (Some invocation) run → Promised asked run
promised_of run is found holds = subst (λ asked. Promised asked run) (ap Some (sym is) ∙ found) holds

-- the lines that a node answers, from the ones over the course of its machine
pub node_lines : (options : NodeOptions) (work counted : WorkValue) {node : Machine} {io : Streams} {status : ℕ} → node ≡ new_node options
    → AnswersLines (course node_meaning node (work, tt) (counted, tt)) options.limit io (Rose 0 0) status
    → AnswersLines (node_course options work counted) options.limit io ⊥ status
node_lines options work counted {node} {io} {status} is lines = lines_by (record {
  told = λ t. tt;
  prompt = λ never. absurd never;
  answers = λ t lines. refl;
  ran_over = λ lines ran. ran.1.due;
  gave_up_over = λ lines due. due;
}) (λ rose. omega (arith, rose))
    (subst (λ (node : Machine). AnswersLines (course node_meaning node (work, tt) (counted, tt)) options.limit io (Rose 0 0) status) is lines)

-- there was no memory for it
pub begun_none : (options : NodeOptions) (work : WorkValue) {io : Streams} → Unread io → AnswersLines (node_course options work work) options.limit io ⊥ 6
begun_none options work unread = not_begun (search arith) unread (node_course options work work) (due_none (new_node options) work) (λ told. refl) refl

pub node_run : {options : NodeOptions} {run : Run} → AnswersLines (node_course options run.context run.context_now) options.limit run.io ⊥ run.status
    → run.disk.kept → NodeRun options run
node_run {options} {run} lines disk = record {
  lines = lines;
  work = counts_of_table (node_course options run.context run.context_now) (λ ls. LinesCount options ls run.context run.context_now)
      (from_beginning options run.context run.context_now) (from_beginning options run.context run.context_now)
      (within_more options run.context run.context_now) lines.table;
  disk = disk;
}

pub exchange_run : {run : Run} → AnswersLines (exchange_course node_peer run.context run.context_now) max_input run.io ⊥ run.status
    → run.disk.kept → ExchangeRun run
exchange_run {run} lines disk = record {
  lines = lines;
  work = counts_of_table (exchange_course node_peer run.context run.context_now) (λ ls. ExchangeCounts node_peer ls run.context run.context_now)
      (λ ls counts. counts) (λ ls counts. counts) (λ ls. counts_more node_peer ls run.context run.context_now) lines.table;
  disk = disk;
}

-- ---- the end of a run

-- the end of a run, from its status and the written summary
pub generate_ends : {io : Streams} {failed : Type 0} (status : ℕ) → IsTrue (is_generate_end status) → (status ≡ 0 → io.is_finished ≡ true)
    → (status ≢ 0 → FinishesNothing io.was_finished io.is_finished) → (status ≡ 3 → io.write_failed) → Ends io failed status
generate_ends status is finished unfinished write_fault = record {
  finished = finished;
  unfinished = unfinished;
  read_fault = λ two. absurd (let none : is_generate_end 2 ≡ true = subst (λ s. is_generate_end s ≡ true) two is in cc);
  write_fault = write_fault;
  disk_fault = λ four. absurd (let none : is_generate_end 4 ≡ true = subst (λ s. is_generate_end s ≡ true) four is in cc);
}
