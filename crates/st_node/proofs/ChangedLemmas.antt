-- A line that changes the machine is short (`changing_short`).
use Rattle.std.proofs.Common.{◌≡◌, ◌∙◌, ℕ, ◌≤◌, Bool, true, false, nat_le, List, length, Result, Err, refl, sym, ap, arith, ◌≢◌, ◌-◌, [], ◌∷◌, ◌++◌, take, codes, is_some, if◌then◌else◌, Option, Some, None, Ok, subst, length-take, take_all, length-append, length-drop}
use Rattle.std.proofs.lemmas.Bool.{false≢true}
use Rattle.std.proofs.lemmas.Bool.Decides.{nat_tests}
use Rattle.std.specs.BTreeMap.{insert_entry}
use Rattle.std.specs.List.{AllByRecursion}
use Rattle.std.specs.Option.{option_or}
use Rattle.st_base.specs.Answers.{◌>>◌, holds_or, ◌>>=◌}
use Rattle.st_base.specs.Texts.{reply, first_word, other_words}
use Rattle.st_plain.specs.Plain.{Plain}
use Rattle.st_hash.specs.Hash.{HashValue, hash_cmp, hash_text, uri_of}
use Rattle.st_params.specs.ParamsValue.{ParamsValue, version_at}
use Rattle.st_ops.specs.Operation.{PlainOperation}
use Rattle.st_ledger.specs.Ledger.{admitted, last_height}
use Rattle.st_ledger.specs.declared.ledger.Entry.{Entry}
use Rattle.st_ledger.specs.declared.ledger.LedgerRefused.{LedgerRefused}
use Rattle.st_content.proofs.FileLemmas.{file_at-with_file}
use Rattle.st_content.specs.Files.{Files, file_at, with_file}
use Rattle.st_anchor.specs.declared.part.RoleState.{RoleState}
use Rattle.st_observer.specs.Observed.{Observed, report}
use Rattle.st_resolve.specs.Identifier.{PlainDid}
use Rattle.st_batch.specs.Laws.{TakesTheFirst}
use Rattle.st_batch.specs.Queue.{Fits, IsQueued, asked_rightly, queued_with, submitted, queueable_suffix}
use Rattle.st_batch.specs.Batch.{batch_count, batch_of, rest_of}
use Rattle.st_batch.specs.declared.queue.SubmitRefused.{SubmitRefused}
use Rattle.st_node.proofs.ReplyLemmas.{cut_form}
use Rattle.st_node.specs.Laws.{IsNode, TellsChange, TellsChanges, is_changing}
use Rattle.st_node.specs.Command.{command_of_words, longest_line, space, command_of}
use Rattle.st_node.specs.Machine.{Machine, answered, answered_read, Answered, AnswersWith, answered_admitted, answered_batch, answered_command, answered_content, answered_flush, answered_rollback, answered_submit, answered_submitted, asked_did, explain_reply, ledger_word, limits_now, refused, replied, reported, resolution, resolve_reply, rolled_back}
use Rattle.st_node.specs.declared.command.Command.{Command}
use Rattle.st_node.specs.declared.command.Command.TheVariants.{Content, Anchor, Rollback, Resolve, Explain, Wanted, Report, Submit, Flush}
use Rattle.st_node.specs.declared.command.LineCause.{LineCause}
use Rattle.st_node.specs.declared.command.LineCause.TheVariants as line_is
use Rattle.st_node.specs.inside.Changed.{IsCountable, Serves, TakesSome}

refused_long : (fits : Bool) (next : Result Command LineCause) → fits ≡ false → (holds_or fits line_is.Long >> next) ≡ Err line_is.Long
refused_long fits next long = rw long refl

by_length : (machine : Machine) (line : List ℕ) (fits : Bool) → nat_le (length line) longest_line ≡ fits
    → is_changing (answered machine line).reply ≡ true → length line ≤ longest_line
by_length machine line true short changes = grind (arith, nat_tests)
by_length machine line false long changes =
    let none : is_changing (answered machine line).reply ≡ false =
    ap (λ read. is_changing (answered_read machine read).reply)
    (refused_long (nat_le (length line) longest_line) (command_of_words (first_word space line) (other_words space line)) long) in
    absurd (false≢true (sym none ∙ changes))

pub changing_short : (machine : Machine) (line : List ℕ) → is_changing (answered machine line).reply ≡ true → length line ≤ longest_line
changing_short machine line changes = by_length machine line (nat_le (length line) longest_line) refl changes

-- ---- Each reply tells whether the line changed the machine.

-- ---- by the form of the reply

abbrev Tells : Machine → Answered → Type 0
Tells machine answer = TellsChange machine answer.next answer.reply

as_changed : {old new : Machine} {text : List ℕ} → is_changing text ≡ true → new ≢ old → TellsChange old new text
as_changed form differs = record { changed = λ e. differs; same = λ e. absurd (false≢true (sym e ∙ form)) }

as_same : {old new : Machine} {text : List ℕ} → is_changing text ≡ false → new ≡ old → TellsChange old new text
as_same form stays = record { changed = λ e. absurd (false≢true (sym form ∙ e)); same = λ e. stays }

-- a refusal changes nothing
refused_tells : (machine : Machine) (cause : List ℕ) → Tells machine (refused machine cause)
refused_tells machine cause = as_same refl refl

-- ---- `content`

same_files : (bytes : List ℕ) (files : Files) (there : Option (List ℕ)) → is_some there ≡ true
    → (if is_some there then files else insert_entry hash_cmp files (uri_of bytes) bytes) ≡ files
same_files bytes files there is = rw is refl

other_files : (bytes : List ℕ) (files : Files) → file_at (uri_of bytes) files ≡ None → with_file bytes files ≢ files
other_files bytes files none same =
    let found : file_at (uri_of bytes) files ≡ Some bytes =
    ap (file_at (uri_of bytes)) (sym same) ∙ (file_at-with_file bytes files ∙ ap (λ found. option_or found (Some bytes)) none) in
    cc

content_by : (machine : Machine) (bytes : List ℕ) (there : Option (List ℕ)) → file_at (uri_of bytes) machine.observed.files ≡ there
    → Tells machine (answered_content machine bytes)
content_by machine bytes None e =
    let form : is_changing (answered_content machine bytes).reply ≡ true =
    ap (λ (found : Option (List ℕ)). is_changing (reply (if is_some found then codes "had " else codes "have ") (hash_text (uri_of bytes)))) e in
    as_changed form (λ same. other_files bytes machine.observed.files e (ap (λ (m : Machine). m.observed.files) same))
content_by machine bytes (Some file) e =
    let form : is_changing (answered_content machine bytes).reply ≡ false =
    ap (λ (found : Option (List ℕ)). is_changing (reply (if is_some found then codes "had " else codes "have ") (hash_text (uri_of bytes)))) e in
    as_same form (ap (λ (files : Files). record machine { observed = record machine.observed { files = files } })
    (same_files bytes machine.observed.files (file_at (uri_of bytes) machine.observed.files) (ap is_some e)))

pub content_tells : (machine : Machine) (bytes : List ℕ) → Tells machine (answered_content machine bytes)
content_tells machine bytes = content_by machine bytes (file_at (uri_of bytes) machine.observed.files) refl

-- ---- `anchor`

longer : {Item : Type 0} (items : List Item) (item : Item) → (items ++ item ∷ []) ≢ items
longer items item same = omega (arith, ap length same, length-append items (item ∷ []))

pub admitted_tells : (machine : Machine) (entry : Entry) (admits : Result Unit LedgerRefused) → Tells machine (answered_admitted machine entry admits)
admitted_tells machine entry (Ok _) =
    as_changed refl (λ same. longer machine.observed.ledger entry (ap (λ (m : Machine). m.observed.ledger) same))
admitted_tells machine entry (Err cause) = refused_tells machine (ledger_word cause)

-- ---- `rollback`

cut_by : (machine : Machine) (n : ℕ) → IsCountable machine → n ≤ length machine.observed.ledger
    → (some : Bool) → nat_le 1 (length machine.observed.ledger - n) ≡ some → Tells machine (rolled_back machine n)
cut_by machine n few within true some =
    as_changed (cut_form (length machine.observed.ledger - n) (omega (arith, few)) ∙ some) (λ same.
    let all : length (take n machine.observed.ledger) ≡ length machine.observed.ledger = ap (λ (m : Machine). length m.observed.ledger) same in
    let fewer : 1 ≤ length machine.observed.ledger - n = grind (arith, nat_tests) in
    omega (arith, all, fewer, length-take n machine.observed.ledger))
cut_by machine n few within false none =
    let all : length machine.observed.ledger ≤ n = grind (arith, nat_tests) in
    as_same (cut_form (length machine.observed.ledger - n) (omega (arith, few)) ∙ none)
    (ap (λ (ledger : List Entry). record machine { observed = record machine.observed { ledger = ledger } }) (take_all n machine.observed.ledger all))

rollback_by : (machine : Machine) (n : ℕ) → IsCountable machine → (fits : Bool) → nat_le n (length machine.observed.ledger) ≡ fits
    → Tells machine (if fits then rolled_back machine n else refused machine (codes "range"))
rollback_by machine n few true fits = cut_by machine n few (grind (arith, nat_tests)) (nat_le 1 (length machine.observed.ledger - n)) refl
rollback_by machine n few false fits = refused_tells machine (codes "range")

pub rollback_tells : (machine : Machine) (n : ℕ) → IsCountable machine → Tells machine (answered_rollback machine n)
rollback_tells machine n few = rollback_by machine n few (nat_le n (length machine.observed.ledger)) refl

-- ---- `submit`

-- an answer with a value has a first step with a value
went_on : {First Last Refusal : Type 0} (first : Result First Refusal) (next : First → Result Last Refusal) (last : Last) → (first >>= next) ≡ Ok last
    → (value : First) × (next value ≡ Ok last)
went_on (Ok value) next last e = (value, e)
went_on (Err refusal) next last e = absurd cc

-- the submitted operation is at the end of the queue
queued_last : (limits : ParamsValue) (queue : List PlainOperation) (request : List ℕ) (done : List PlainOperation × HashValue)
    → submitted limits queue request ≡ Ok done → (operation : PlainOperation) × (done.0 ≡ queue ++ operation ∷ [])
queued_last limits queue request done e =
    let asked = went_on (asked_rightly limits request) (queued_with queue) done e in
    let queued = went_on (queueable_suffix queue asked.0) (λ suffix. Ok (queue ++ asked.0 ∷ [], suffix)) done asked.1 in
    let same : (queue ++ asked.0 ∷ [], queued.0) ≡ done = cc queued.1 in
    (asked.0, sym (ap (λ d. d.0) same))

submitted_by : (machine : Machine) (limits : ParamsValue) (request : List ℕ) (done : Result (List PlainOperation × HashValue) SubmitRefused)
    → submitted limits machine.queue request ≡ done → Tells machine (answered_submitted machine done)
submitted_by machine limits request (Ok done) e =
    let queued = queued_last limits machine.queue request done e in
    as_changed refl (λ same. longer machine.queue queued.0 (sym queued.1 ∙ ap (λ (m : Machine). m.queue) same))
submitted_by machine limits request (Err cause) e = as_same refl refl

pub submit_tells : (machine : Machine) (request : List ℕ) → Tells machine (answered_submit machine request)
submit_tells machine request =
    submitted_by machine (limits_now machine.observed) request (submitted (limits_now machine.observed) machine.queue request) refl

-- ---- `flush`

fewer_left : (limits : ParamsValue) (queue : List PlainOperation) → 1 ≤ length queue → 1 ≤ batch_count limits queue → rest_of limits queue ≢ queue
fewer_left limits queue some takes same = omega (arith, ap length same, length-drop (batch_count limits queue) queue)

flush_by : (machine : Machine) → TakesSome machine → (waits : Bool) → nat_le 1 (length machine.queue) ≡ waits
    → Tells machine (if waits
    then answered_batch machine (batch_of (limits_now machine.observed) machine.queue) (rest_of (limits_now machine.observed) machine.queue)
    else refused machine (codes "nothing"))
flush_by machine takes true waits =
    let some : 1 ≤ length machine.queue = grind (arith, nat_tests) in
    as_changed refl (λ same. fewer_left (limits_now machine.observed) machine.queue some (takes some) (ap (λ (m : Machine). m.queue) same))
flush_by machine takes false waits = refused_tells machine (codes "nothing")

pub flush_tells : (machine : Machine) → TakesSome machine → Tells machine (answered_flush machine)
flush_tells machine takes = flush_by machine takes (nat_le 1 (length machine.queue)) refl

-- ---- commands

resolve_by : (machine : Machine) (result : Result Plain (List ℕ)) → Tells machine (replied machine (resolve_reply result))
resolve_by machine (Ok result) = as_same refl refl
resolve_by machine (Err cause) = as_same refl refl

explain_by : (machine : Machine) (did : Result PlainDid (List ℕ)) → Tells machine (replied machine (explain_reply machine.observed did))
explain_by machine (Ok did) = as_same refl refl
explain_by machine (Err cause) = as_same refl refl

report_by : (machine : Machine) (states : Option (List RoleState)) → Tells machine (reported machine states)
report_by machine (Some states) = as_same refl refl
report_by machine None = refused_tells machine (codes "range")

-- a command whose condition holds tells whether it changed the machine
pub command_tells : (machine : Machine) (command : Command) → Serves machine command → Tells machine (answered_command machine command)
command_tells machine (Content bytes) serves = content_tells machine bytes
command_tells machine (Anchor height text) serves =
    admitted_tells machine (record { height = height; text = text }) (admitted machine.observed.ledger height)
command_tells machine (Rollback n) serves = rollback_tells machine n serves
command_tells machine (Resolve did) serves = resolve_by machine (resolution machine.observed did)
command_tells machine (Explain did) serves = explain_by machine (asked_did machine.observed did)
command_tells machine Wanted serves = as_same refl refl
command_tells machine (Report n) serves = report_by machine (report n machine.observed)
command_tells machine (Submit request) serves = submit_tells machine request
command_tells machine Flush serves = flush_tells machine serves

-- ---- machines of nodes

-- a batch takes the first of the waiting operations
takes_some : TakesTheFirst → (observed : Observed) (queue : List PlainOperation) → AllByRecursion IsQueued queue
    → TakesSome (record { observed = observed; queue = queue })
takes_some first observed [] queued = λ some. absurd (omega (arith, some))
takes_some first observed (operation ∷ waiting) queued = λ some.
    let one = queued.0 in
    first one.limits.version (version_at observed.schedule (last_height observed.ledger)) operation waiting one.formed.hashes
    (subst (λ (limits : ParamsValue). Fits limits operation) one.versioned one.fitted)

serves : TakesTheFirst → (machine : Machine) (command : Command) → IsNode machine → Serves machine command
serves first machine (Content bytes) is = tt
serves first machine (Anchor height text) is = tt
serves first machine (Rollback n) is = omega (arith, is.few)
serves first machine (Resolve did) is = tt
serves first machine (Explain did) is = tt
serves first machine Wanted is = tt
serves first machine (Report n) is = tt
serves first machine (Submit request) is = tt
serves first machine Flush is = takes_some first machine.observed machine.queue is.queued

read_tells : TakesTheFirst → (machine : Machine) (read : Result Command LineCause) → IsNode machine → Tells machine (answered_read machine read)
read_tells first machine (Ok command) is = command_tells machine command (serves first machine command is)
read_tells first machine (Err cause) is = as_same refl refl

-- if a batch takes the first operation of each queue, the replies of each node's machine tell
pub tells_changes : TakesTheFirst → TellsChanges
tells_changes first machine line is = read_tells first machine (command_of line) is

-- ---- nodes

-- a node with this answer tells what the answer tells
pub tells_as : (machine : Machine) (answer : Answered) (done : Machine × List ℕ) → AnswersWith answer done → Tells machine answer
    → TellsChange machine done.0 done.1
tells_as machine answer done same tells =
    subst (λ (next : Machine). TellsChange machine next done.1) (sym same.0)
    (subst (λ (text : List ℕ). TellsChange machine answer.next text) (sym same.1) tells)
