-- A line whose reply does not have the form of a change leaves each machine that replay restores. `ChangedLemmas`
-- requires the properties of a node, since it also proves the converse; here a ledger that isn't too long is enough.
use Rattle.std.proofs.Common.{◌≡◌, ◌∙◌, ℕ, ◌≤◌, ◌-◌, ◌+◌, Bool, true, false, nat_le, nat_lt, nat_eq, List, [], ◌∷◌, length, codes, is_some, if◌then◌else◌, Option, Some, None, Result, Ok, Err, refl, sym, ap, subst, arith, length-take, length-append, take_all, ◌++◌, take, sum_by, append_assoc}
use Rattle.std.proofs.lemmas.Bool.{false≢true}
use Rattle.std.proofs.lemmas.Bool.Decides.{nat_tests}
use Rattle.std.proofs.lemmas.List.Sums.{sum_by-append}
use Rattle.std.specs.BTreeMap.{insert_entry}
use Rattle.std.specs.Fmt.{decimal}
use Rattle.st_base.specs.Answers.{◌>>=◌}
use Rattle.st_base.specs.Texts.{reply}
use Rattle.st_base.specs.Work.{WorkValue}
use Rattle.st_plain.specs.Plain.{Plain}
use Rattle.st_hash.specs.Hash.{HashValue, hash_cmp, hash_text, uri_of}
use Rattle.st_params.specs.ParamsValue.{newest_of}
use Rattle.st_ops.specs.Operation.{PlainOperation}
use Rattle.st_ledger.specs.Ledger.{admitted, last_height, most_entries}
use Rattle.st_ledger.specs.declared.ledger.Entry.{Entry}
use Rattle.st_ledger.specs.declared.ledger.LedgerRefused.{LedgerRefused}
use Rattle.st_ledger.specs.declared.ledger.LedgerRefused.TheVariants.{HeightFalls, LedgerFull}
use Rattle.st_content.specs.Files.{Files, file_at}
use Rattle.st_anchor.specs.declared.part.RoleState.{RoleState}
use Rattle.st_apply.specs.Laws.{Anchored, resolved}
use Rattle.st_observer.specs.Observed.{Observed, arrived, report, operations}
use Rattle.st_resolve.specs.Identifier.{PlainDid, did_of}
use Rattle.st_resolve.specs.Result.{result_of}
use Rattle.st_batch.specs.Batch.{batch_of, rest_of}
use Rattle.st_batch.specs.Queue.{submitted}
use Rattle.st_batch.specs.declared.batch.Batch.{Batch}
use Rattle.st_batch.specs.declared.batch.BatchFile.{BatchFile}
use Rattle.st_batch.specs.declared.queue.SubmitRefused.{SubmitRefused}
use Rattle.st_node.proofs.ContentLemmas.{arrivals_schedule}
use Rattle.st_node.proofs.ReplyLemmas.{cut_form, cut_after, cut_entries, cut_submitted}
use Rattle.st_node.specs.Laws.{is_changing, AsksAbout, to_resolve, to_explain, AsksFor, IsolatesIdentifiers}
use Rattle.st_node.specs.Command.{command_of, longest_line}
use Rattle.st_node.specs.Machine.{Answered, Machine, all_arrived, answered, answered_admitted, answered_batch, answered_command, answered_content, answered_read, answered_submitted, asked_did, explain_reply, ledger_word, limits_now, refused, replied, reported, resolution, resolve_reply, rolled_back, did_word, explained, newest, or_word, result_for, result_word, after, new_machine}
use Rattle.st_node.specs.Work.{DueOver, RunCounts, StaysDue, declared_count, entries_of, entry_of_line, submitted_by_line, submitted_in}
use Rattle.st_node.specs.declared.command.Command.{Command}
use Rattle.st_node.specs.declared.command.Command.TheVariants.{Content, Anchor, Rollback, Resolve, Explain, Wanted, Report, Submit, Flush}
use Rattle.st_node.specs.declared.command.LineCause.{LineCause}
use Rattle.st_node.specs.inside.Changed.{HasFew}

-- ---- a ledger is never too long

-- the machine after an answer: it has few entries if it had, and is the same if the reply reports no change
pub record Keeps (machine : Machine) (answer : Answered) : Type 0 where
  pub few : HasFew machine → HasFew answer.next
  pub idle : HasFew machine → is_changing answer.reply ≡ false → answer.next ≡ machine

told : {A : Type 0} (text : List ℕ) → is_changing text ≡ true → is_changing text ≡ false → A
told text form none = absurd (false≢true (sym none ∙ form))

replied_keeps : (machine : Machine) (text : List ℕ) → Keeps machine (replied machine text)
replied_keeps machine text = record { few = λ few. few; idle = λ few none. refl }

same_files : (bytes : List ℕ) (files : Files) (there : Option (List ℕ)) → is_some there ≡ true
    → (if is_some there then files else insert_entry hash_cmp files (uri_of bytes) bytes) ≡ files
same_files bytes files there is = rw is refl

content_by : (machine : Machine) (bytes : List ℕ) (there : Option (List ℕ)) → file_at (uri_of bytes) machine.observed.files ≡ there
    → Keeps machine (answered_content machine bytes)
content_by machine bytes None e =
    let form : is_changing (answered_content machine bytes).reply ≡ true =
    ap (λ (found : Option (List ℕ)). is_changing (reply (if is_some found then codes "had " else codes "have ") (hash_text (uri_of bytes)))) e in
    record { few = λ few. few; idle = λ few none. told (answered_content machine bytes).reply form none }
content_by machine bytes (Some file) e = record {
  few = λ few. few;
  idle = λ few none. ap (λ (files : Files). record machine { observed = record machine.observed { files = files } })
      (same_files bytes machine.observed.files (file_at (uri_of bytes) machine.observed.files) (ap is_some e));
}

fits_more : (last count : ℕ) (falls full : Bool) (is : Unit {0}) → nat_eq count most_entries ≡ full
    → (if falls then Err (HeightFalls last) else if full then Err LedgerFull else Ok tt) ≡ Ok is
    → count ≤ most_entries → count + 1 ≤ most_entries
fits_more last count true full is e fits few = cc
fits_more last count false true is e fits few = cc
fits_more last count false false is e fits few = grind (arith, nat_tests)

admitted_keeps : (machine : Machine) (entry : Entry) (result : Result Unit LedgerRefused) → admitted machine.observed.ledger entry.height ≡ result
    → Keeps machine (answered_admitted machine entry result)
admitted_keeps machine entry (Ok is) e = record {
  few = λ few.
      let ledger = machine.observed.ledger in
      let more = fits_more (last_height ledger) (length ledger) (nat_lt entry.height (last_height ledger)) (nat_eq (length ledger) most_entries) is
      refl e few in
      omega (arith, more, length-append ledger (entry ∷ []));
  idle = λ few none. told (reply (codes "anchored ") (decimal (length machine.observed.ledger))) refl none;
}
admitted_keeps machine entry (Err cause) e = replied_keeps machine (reply (codes "refused ") (ledger_word cause))

cut_by : (machine : Machine) (n : ℕ) → (some : Bool) → nat_le 1 (length machine.observed.ledger - n) ≡ some
    → HasFew machine → is_changing (rolled_back machine n).reply ≡ false → (rolled_back machine n).next ≡ machine
cut_by machine n true some few none =
    told (rolled_back machine n).reply (cut_form (length machine.observed.ledger - n) (omega (arith, few)) ∙ some) none
cut_by machine n false some few none =
    let all : length machine.observed.ledger ≤ n = grind (arith, nat_tests) in
    ap (λ (ledger : List Entry). record machine { observed = record machine.observed { ledger = ledger } }) (take_all n machine.observed.ledger all)

rollback_by : (machine : Machine) (n : ℕ) (fits : Bool) → Keeps machine (if fits then rolled_back machine n else refused machine (codes "range"))
rollback_by machine n true = record {
  few = λ few. omega (arith, few, length-take n machine.observed.ledger);
  idle = λ few none. cut_by machine n (nat_le 1 (length machine.observed.ledger - n)) refl few none;
}
rollback_by machine n false = replied_keeps machine (reply (codes "refused ") (codes "range"))

submitted_keeps : (machine : Machine) (done : Result (List PlainOperation × HashValue) SubmitRefused) → Keeps machine (answered_submitted machine done)
submitted_keeps machine (Ok done) =
    record { few = λ few. few; idle = λ few none. told (answered_submitted machine (Ok done)).reply refl none }
submitted_keeps machine (Err cause) = record { few = λ few. few; idle = λ few none. refl }

same_ledger : (files : List BatchFile) (observed : Observed) → (all_arrived files observed).ledger ≡ observed.ledger
same_ledger [] observed = refl
same_ledger (file ∷ files) observed = same_ledger files (arrived file.bytes observed)

flush_by : (machine : Machine) (waits : Bool) → Keeps machine (if waits
    then answered_batch machine (batch_of (limits_now machine.observed) machine.queue) (rest_of (limits_now machine.observed) machine.queue)
    else refused machine (codes "nothing"))
flush_by machine true =
    let batch = batch_of (limits_now machine.observed) machine.queue in
    let answer = answered_batch machine batch (rest_of (limits_now machine.observed) machine.queue) in
    record {
      few = λ few. subst (λ (ledger : List Entry). length ledger ≤ most_entries) (sym (same_ledger batch.files machine.observed)) few;
      idle = λ few none. told answer.reply refl none;
    }
flush_by machine false = replied_keeps machine (reply (codes "refused ") (codes "nothing"))

reported_keeps : (machine : Machine) (states : Option (List RoleState)) → Keeps machine (reported machine states)
reported_keeps machine (Some states) = record { few = λ few. few; idle = λ few none. refl }
reported_keeps machine None = replied_keeps machine (reply (codes "refused ") (codes "range"))

command_keeps : (machine : Machine) (command : Command) → Keeps machine (answered_command machine command)
command_keeps machine (Content bytes) = content_by machine bytes (file_at (uri_of bytes) machine.observed.files) refl
command_keeps machine (Anchor height text) =
    admitted_keeps machine (record { height = height; text = text }) (admitted machine.observed.ledger height) refl
command_keeps machine (Rollback n) = rollback_by machine n (nat_le n (length machine.observed.ledger))
command_keeps machine (Resolve did) = replied_keeps machine (resolve_reply (resolution machine.observed did))
command_keeps machine (Explain did) = replied_keeps machine (explain_reply machine.observed (asked_did machine.observed did))
command_keeps machine Wanted = record { few = λ few. few; idle = λ few none. refl }
command_keeps machine (Report n) = reported_keeps machine (report n machine.observed)
command_keeps machine (Submit request) = submitted_keeps machine (submitted (limits_now machine.observed) machine.queue request)
command_keeps machine Flush = flush_by machine (nat_le 1 (length machine.queue))

read_keeps : (machine : Machine) (read : Result Command LineCause) → Keeps machine (answered_read machine read)
read_keeps machine (Ok command) = command_keeps machine command
read_keeps machine (Err cause) = record { few = λ few. few; idle = λ few none. refl }

-- a line keeps the ledger within its bound, and leaves the machine if its reply does not have the form of a change
pub line_keeps : (machine : Machine) (line : List ℕ) → Keeps machine (answered machine line)
line_keeps machine line = read_keeps machine (command_of line)

-- ---- The answers about an identifier follow from its own operations.

-- the result for an identifier by its operations alone
abbrev result_by : Option ℕ → List Anchored → PlainDid → Result Plain (List ℕ)
result_by schedule operations did = or_word result_word (result_of (newest_of schedule) did (resolved schedule operations))

-- the reply from them: the result, or the verdict on each
abbrev reply_by : {text : List ℕ} {read : Result Command LineCause} → AsksAbout text read → Option ℕ → List Anchored → PlainDid → List ℕ
reply_by to_resolve schedule operations did = resolve_reply (result_by schedule operations did)
reply_by to_explain schedule operations did = explained schedule operations

-- the answer to a line that was read as such
read-by : (machine : Machine) {text : List ℕ} {read : Result Command LineCause} (asks : AsksAbout text read) (did : PlainDid)
    → did_of (newest machine.observed).version text ≡ Ok did
    → (answered_read machine read).reply ≡ reply_by asks machine.observed.schedule (operations did.suffix machine.observed) did
read-by machine to_resolve did is = ap (λ found. resolve_reply (or_word did_word found >>= result_for machine.observed)) is
read-by machine to_explain did is = ap (λ found. explain_reply machine.observed (or_word did_word found)) is

-- a machine's reply to a line about an identifier
reply-by : (machine : Machine) (suffix : HashValue) (line : List ℕ) (asks : AsksFor machine suffix line)
    → (answered machine line).reply ≡ reply_by asks.asks machine.observed.schedule (operations suffix machine.observed) asks.did
reply-by machine suffix line asks =
    read-by machine asks.asks asks.did asks.identifies
    ∙ ap (λ suffix. reply_by asks.asks machine.observed.schedule (operations suffix machine.observed) asks.did) asks.by_suffix

pub isolates : IsolatesIdentifiers
isolates suffix first second line agree asks =
    let same : AsksFor second suffix line = record {
      text = asks.text;
      did = asks.did;
      asks = asks.asks;
      identifies = sym (ap (λ schedule. did_of (newest_of schedule).version asks.text) agree.same_schedule) ∙ asks.identifies;
      by_suffix = asks.by_suffix;
    } in
    reply-by first suffix line asks
    ∙ ap (λ schedule. reply_by asks.asks schedule (operations suffix first.observed) asks.did) agree.same_schedule
    ∙ ap (λ operations. reply_by asks.asks second.observed.schedule operations asks.did) agree.same_operations
    ∙ sym (reply-by second suffix line same)

-- ---- Counts over several lines, for callers that add up lines.
--     due_none       no lines count nothing
--     due_more       some lines, and then more
--     run_counts     all lines from the start
--     cut_due        for a line that is truncated after its first excess byte, the bound of the whole line
--     after-append   the machine after some lines and then more

-- ---- the schedule stays

abbrev schedule_of : Machine → Option ℕ
schedule_of machine = machine.observed.schedule

module _ (machine : Machine) where
  schedule-admitted : (entry : Entry) (answer : Result Unit LedgerRefused)
      → schedule_of (answered_admitted machine entry answer).next ≡ schedule_of machine
  schedule-admitted entry (Ok _) = refl
  schedule-admitted entry (Err cause) = refl

  schedule-rollback : (n : ℕ) (fits : Bool)
      → schedule_of (if fits then rolled_back machine n else refused machine (codes "range")).next ≡ schedule_of machine
  schedule-rollback n true = refl
  schedule-rollback n false = refl

  schedule-reported : (states : Option (List RoleState)) → schedule_of (reported machine states).next ≡ schedule_of machine
  schedule-reported (Some states) = refl
  schedule-reported None = refl

  schedule-flush : (queued : Bool) (batch : Batch) (rest : List PlainOperation)
      → schedule_of (if queued then answered_batch machine batch rest else refused machine (codes "nothing")).next ≡ schedule_of machine
  schedule-flush true batch rest = arrivals_schedule batch.files machine.observed
  schedule-flush false batch rest = refl

  schedule-command : (command : Command) → schedule_of (answered_command machine command).next ≡ schedule_of machine
  schedule-command (Content bytes) = refl
  schedule-command (Anchor height text) =
      schedule-admitted (record { height = height; text = text }) (admitted machine.observed.ledger height)
  schedule-command (Rollback n) = schedule-rollback n (nat_le n (length machine.observed.ledger))
  schedule-command (Resolve did) = refl
  schedule-command (Explain did) = refl
  schedule-command Wanted = refl
  schedule-command (Report n) = schedule-reported (report n machine.observed)
  schedule-command (Submit request) = refl
  schedule-command Flush =
      schedule-flush (nat_le 1 (length machine.queue)) (batch_of (limits_now machine.observed) machine.queue)
      (rest_of (limits_now machine.observed) machine.queue)

  schedule-read : (read : Result Command LineCause) → schedule_of (answered_read machine read).next ≡ schedule_of machine
  schedule-read (Ok command) = schedule-command command
  schedule-read (Err cause) = refl

pub schedule-after : (machine : Machine) (lines : List (List ℕ)) → schedule_of (after machine lines) ≡ schedule_of machine
schedule-after machine [] = refl
schedule-after machine (line ∷ lines) =
    schedule-after (answered machine line).next lines ∙ schedule-read machine (command_of line)

-- ---- some lines and then more

pub after-append : (machine : Machine) (lines more : List (List ℕ)) → after machine (lines ++ more) ≡ after (after machine lines) more
after-append machine [] more = refl
after-append machine (line ∷ lines) more = after-append (answered machine line).next lines more

pub entries-append : (machine : Machine) (lines more : List (List ℕ))
    → entries_of machine (lines ++ more) ≡ entries_of machine lines ++ entries_of (after machine lines) more
entries-append machine [] more = refl
entries-append machine (line ∷ lines) more =
    ap (λ (entries : List Entry). entry_of_line machine line ++ entries) (entries-append (answered machine line).next lines more)
    ∙ sym (append_assoc (entry_of_line machine line) (entries_of (answered machine line).next lines) (entries_of (after machine (line ∷ lines)) more))

pub due_none : (machine : Machine) (work : WorkValue) → DueOver machine [] work work
due_none machine work = record { files = omega arith; proofs = omega arith }

pub due_more : (machine : Machine) (lines more : List (List ℕ)) (old mid new : WorkValue)
    → DueOver machine lines old mid → DueOver (after machine lines) more mid new → DueOver machine (lines ++ more) old new
due_more machine lines more old mid new first second =
    let later = entries_of (after machine lines) more in
    let counts : sum_by (declared_count (after machine lines).observed.schedule) later ≡ sum_by (declared_count machine.observed.schedule) later =
    ap (λ schedule. sum_by (declared_count schedule) later) (schedule-after machine lines) in
    rw (after-append machine lines more, entries-append machine lines more) record {
      files = omega (arith, first.files, second.files, length-append (entries_of machine lines) later);
      proofs = omega (
        arith,
        first.proofs,
        second.proofs,
        counts,
        sum_by-append submitted_by_line lines more,
        sum_by-append (declared_count machine.observed.schedule) (entries_of machine lines) later,
      );
    }

pub cut_due : (machine : Machine) (line : List ℕ) (old new : WorkValue)
    → DueOver machine (take (longest_line + 1) line ∷ []) old new → DueOver machine (line ∷ []) old new
cut_due machine line old new due =
    let cut = take (longest_line + 1) line ∷ [] in
    subst (λ (last : Machine). StaysDue machine.observed last.observed (entries_of machine (line ∷ [])) (submitted_in (line ∷ [])) old new)
    (cut_after machine line [])
    (subst (λ (entries : List Entry). StaysDue machine.observed (after machine cut).observed entries (submitted_in (line ∷ [])) old new)
    (cut_entries machine line [])
    (subst (λ submissions. StaysDue machine.observed (after machine cut).observed (entries_of machine cut) submissions old new)
    (cut_submitted machine line []) due))

-- before anything was received nothing is due
pub run_counts : (schedule : Option ℕ) (lines : List (List ℕ)) (old new : WorkValue) → DueOver (new_machine schedule) lines old new
    → RunCounts schedule (entries_of (new_machine schedule) lines) (submitted_in lines) old new
run_counts schedule lines old new due = record { files = omega (arith, due.files); proofs = omega (arith, due.proofs) }
