-- The reference machine: the answer of a node to a line, and its state afterwards. The state is only the ledger, the
-- files and the queue; each answer is defined from these.
use Rattle.std.specs.Coded.{Coded, code_by, coded_list, coded_option, coded_ℕ, coded×}
use Rattle.std.specs.Fmt.{decimal}
use Rattle.std.specs.Prelude.{◌≡◌, ℕ, ◌-◌, nat_le, List, [], ◌∷◌, ◌++◌, codes, flat_map, length, map, is_some, if◌then◌else◌, Option, Some, None, Result, Ok, Err, refl}
use Rattle.st_base.specs.Answers.{◌>>=◌}
use Rattle.st_base.specs.Texts.{reply, spaced}
use Rattle.st_plain.specs.Plain.{canonical, Plain}
use Rattle.st_hash.specs.Hash.{base64url, HashValue, hash_text, uri_of}
use Rattle.st_params.specs.ParamsValue.{ParamsValue, newest_of, params_at}
use Rattle.st_datafiles.specs.declared.role.Role.{Role}
use Rattle.st_datafiles.specs.declared.role.Role.TheVariants.{Core, CoreProof, Provisional, ProvisionalProof, Chunk}
use Rattle.st_ops.specs.Operation.{PlainOperation, creating, updating, recovering, deactivating}
use Rattle.st_ledger.specs.Ledger.{admitted, last_height}
use Rattle.st_ledger.specs.contracts.ledger.Entry as entry_row
use Rattle.st_ledger.specs.declared.ledger.Entry.{Entry}
use Rattle.st_ledger.specs.declared.ledger.LedgerRefused.{LedgerRefused}
use Rattle.st_ledger.specs.declared.ledger.LedgerRefused.TheVariants.{HeightFalls, LedgerFull}
use Rattle.st_content.specs.Files.{Files, file_at}
use Rattle.st_anchor.specs.RuleNames.{rule_name}
use Rattle.st_anchor.specs.declared.part.RoleState.{RoleState}
use Rattle.st_anchor.specs.declared.part.RoleState.TheVariants as role_is
use Rattle.st_apply.specs.Laws.{Anchored}
use Rattle.st_observer.specs.Observed.{Observed, appended, arrived, cut_to, nothing_yet, operations, report, state_of, wanted}
use Rattle.st_resolve.specs.Identifier.{PlainDid, did_of}
use Rattle.st_resolve.specs.Result.{result_of}
use Rattle.st_resolve.specs.declared.identifier.DidRefused.{DidRefused}
use Rattle.st_resolve.specs.declared.identifier.DidRefused.TheVariants as did_is
use Rattle.st_resolve.specs.declared.result.RenderRefused.{RenderRefused}
use Rattle.st_resolve.specs.declared.result.RenderRefused.TheVariants as result_is
use Rattle.st_cert.specs.Certificate.{verdicts}
use Rattle.st_cert.specs.declared.verdict.Verdict.{Verdict}
use Rattle.st_cert.specs.declared.verdict.Verdict.TheVariants as verdict_is
use Rattle.st_batch.specs.Queue.{coded_operations, submitted}
use Rattle.st_batch.specs.Batch.{batch_of, rest_of}
use Rattle.st_batch.specs.declared.batch.Batch.{Batch}
use Rattle.st_batch.specs.declared.batch.BatchFile.{BatchFile}
use Rattle.st_batch.specs.declared.queue.SubmitRefused.{SubmitRefused}
use Rattle.st_batch.specs.declared.queue.SubmitRefused.TheVariants as submit_is
use Rattle.st_node.specs.Command.{command_of}
use Rattle.st_node.specs.declared.command.Command.{Command}
use Rattle.st_node.specs.declared.command.Command.TheVariants.{Content, Anchor, Rollback, Resolve, Explain, Wanted, Report, Submit, Flush}
use Rattle.st_node.specs.declared.command.LineCause.{LineCause}
use Rattle.st_node.specs.declared.command.LineCause.TheVariants as line_is

-- the ledger and the files under a schedule of limits, and the operations that wait for a batch
pub record Machine : Type 0 where
  pub observed : Observed
  pub queue : List PlainOperation

-- under a schedule of limits, before anything was received
abbrev pub new_machine : Option ℕ → Machine
new_machine schedule = record { observed = nothing_yet schedule; queue = [] }

-- the machine after a line, and the reply to it
pub record Answered : Type 0 where
  pub next : Machine
  pub reply : List ℕ

-- this reply, and nothing changes
abbrev pub replied : Machine → List ℕ → Answered
replied machine text = record { next = machine; reply = text }

-- `refused <cause>`, and nothing changes
abbrev pub refused : Machine → List ℕ → Answered
refused machine cause = replied machine (reply (codes "refused ") cause)

-- ---- `content`: the file stays, unless one of its URI is there

-- `had` if a file of this URI is there, else `have`
abbrev pub have_or_had : Files → List ℕ → List ℕ
have_or_had files bytes = if is_some (file_at (uri_of bytes) files) then codes "had " else codes "have "

-- the file by its URI
abbrev pub answered_content : Machine → List ℕ → Answered
answered_content machine bytes = record {
  next = record machine { observed = arrived bytes machine.observed };
  reply = reply (have_or_had machine.observed.files bytes) (hash_text (uri_of bytes));
}

-- ---- `anchor`: the entry is appended, if the ledger admits its height

-- why the ledger refuses an entry
abbrev pub ledger_word : LedgerRefused → List ℕ
ledger_word (HeightFalls last) = codes "height"
ledger_word LedgerFull = codes "full"

-- the entry, if it is admitted
abbrev pub answered_admitted : Machine → Entry → Result Unit LedgerRefused → Answered
answered_admitted machine entry (Ok _) = record {
  next = record machine { observed = appended entry machine.observed };
  reply = reply (codes "anchored ") (decimal (length machine.observed.ledger));
}
answered_admitted machine entry (Err cause) = refused machine (ledger_word cause)

-- an entry of a height and a text
abbrev pub answered_anchor : Machine → Entry → Answered
answered_anchor machine entry = answered_admitted machine entry (admitted machine.observed.ledger entry.height)

-- ---- `rollback`: the first n entries stay, if there are that many, and all files

-- the first entries stay, and the reply has the number of removed ones
abbrev pub rolled_back : Machine → ℕ → Answered
rolled_back machine n = record {
  next = record machine { observed = cut_to n machine.observed };
  reply = reply (codes "cut ") (decimal (length machine.observed.ledger - n));
}

-- if there are that many
abbrev pub answered_rollback : Machine → ℕ → Answered
answered_rollback machine n =
    if nat_le n (length machine.observed.ledger) then rolled_back machine n else refused machine (codes "range")

-- ---- `resolve`

-- why a text is not an identifier; running out of memory never appears here
abbrev pub did_word : DidRefused → List ℕ
did_word did_is.BadDid = codes "badDid"
did_word did_is.BadLongForm = codes "badLongForm"
did_word did_is.NotCanonical = codes "notCanonical"
did_word did_is.SuffixDiffers = codes "suffixDiffers"
did_word did_is.WantOfMemory = []

-- why an identifier has no result; running out of memory never appears here
abbrev pub result_word : RenderRefused → List ℕ
result_word result_is.NotFound = codes "notFound"
result_word result_is.WantOfMemory = []

-- the same, with the word of a refusal in its place
abbrev pub or_word : {Value Refusal : Type 0} → (Refusal → List ℕ) → Result Value Refusal → Result Value (List ℕ)
or_word word (Ok value) = Ok value
or_word word (Err refusal) = Err (word refusal)

-- the limits of the highest version
abbrev pub newest : Observed → ParamsValue
newest observed = newest_of observed.schedule

-- The result of an identifier: from the state of its suffix, which follows from the ledger and the files.
abbrev pub result_for : Observed → PlainDid → Result Plain (List ℕ)
result_for observed did = or_word result_word (result_of (newest observed) did (state_of did.suffix observed))

-- The identifier of a text, or the word for the first cause why it is not one.
abbrev pub asked_did : Observed → List ℕ → Result PlainDid (List ℕ)
asked_did observed text = or_word did_word (did_of (newest observed).version text)

-- The result of resolving a text, or the word for the first cause why there is none.
abbrev pub resolution : Observed → List ℕ → Result Plain (List ℕ)
resolution observed text = do
  did ← asked_did observed text
  result_for observed did

-- the result as canonical text, or the cause
abbrev pub resolve_reply : Result Plain (List ℕ) → List ℕ
resolve_reply (Ok result) = reply (codes "resolved ") (canonical result)
resolve_reply (Err cause) = reply (codes "unresolved ") cause

-- the result of resolving the text; nothing changes
abbrev pub answered_resolve : Machine → List ℕ → Answered
answered_resolve machine text = replied machine (resolve_reply (resolution machine.observed text))

-- ---- `explain`: the verdict on each operation of an identifier

-- the kind of an operation
abbrev pub kind_word : PlainOperation → List ℕ
kind_word (creating suffix_data delta) = codes "create"
kind_word (updating target proof delta) = codes "update"
kind_word (recovering target proof delta) = codes "recover"
kind_word (deactivating target proof) = codes "deactivate"

-- the verdict on an operation
abbrev pub verdict_word : Verdict → List ℕ
verdict_word verdict_is.Before = codes "before"
verdict_word verdict_is.Again = codes "again"
verdict_word verdict_is.Ended = codes "ended"
verdict_word verdict_is.Unclaimed = codes "unclaimed"
verdict_word verdict_is.NoUpdates = codes "noUpdates"
verdict_word verdict_is.WrongReveal = codes "wrongReveal"
verdict_word verdict_is.BadDelta = codes "badDelta"
verdict_word verdict_is.Created = codes "created"
verdict_word verdict_is.Updated = codes "updated"
verdict_word verdict_is.Recovered = codes "recovered"
verdict_word verdict_is.Deactivated = codes "deactivated"

-- a line for an operation: its place, its height, its kind, and the verdict on it
abbrev pub item_line : Anchored → Verdict → List ℕ
item_line item verdict =
    reply (codes "item")
    (spaced (decimal item.place ∷ decimal item.height ∷ kind_word item.operation ∷ verdict_word verdict ∷ []))

-- a line for each
abbrev pub item_lines : List Anchored → List Verdict → List ℕ
item_lines (item ∷ items) (verdict ∷ verdicts) = item_line item verdict ++ item_lines items verdicts
item_lines items verdicts = []

-- the number of operations, and a line for each
abbrev pub explained : Option ℕ → List Anchored → List ℕ
explained schedule items =
    reply (codes "explained ") (decimal (length items)) ++ item_lines items (verdicts schedule items)

-- the verdicts on the operations of an identifier that entries gave, or why a text is not one
abbrev pub explain_reply : Observed → Result PlainDid (List ℕ) → List ℕ
explain_reply observed (Ok did) = explained observed.schedule (operations did.suffix observed)
explain_reply observed (Err cause) = reply (codes "unresolved ") cause

-- the verdicts on those of the text's identifier; nothing changes
abbrev pub answered_explain : Machine → List ℕ → Answered
answered_explain machine text = replied machine (explain_reply machine.observed (asked_did machine.observed text))

-- ---- `wanted`: the number of missing files, and the URI of each

-- their number, and each
abbrev pub wanted_reply : List HashValue → List ℕ
wanted_reply uris = reply (codes "wanted ") (decimal (length uris) ++ spaced (map hash_text uris))

-- the wanted files; nothing changes
abbrev pub answered_wanted : Machine → Answered
answered_wanted machine = replied machine (wanted_reply (wanted machine.observed))

-- ---- `report`: the states of the five roles of an entry

-- the state of a role; a failed rule by its name
abbrev pub state_word : RoleState → List ℕ
state_word role_is.Unneeded = codes "unneeded"
state_word (role_is.Missing uri) = codes "missing"
state_word (role_is.Rejected rule) = rule_name rule
state_word role_is.Read = codes "read"

-- a word for each role, or `refused range` if there is no such entry
abbrev pub reported : Machine → Option (List RoleState) → Answered
reported machine (Some states) = replied machine (reply (codes "report") (spaced (map state_word states)))
reported machine None = refused machine (codes "range")

-- the report of the entry with this number; nothing changes
abbrev pub answered_report : Machine → ℕ → Answered
answered_report machine n = reported machine (report n machine.observed)

-- ---- `submit`: the operation of a request is appended to the queue

-- the limits at the height of the last entry, or at height 0 if there is none
abbrev pub limits_now : Observed → ParamsValue
limits_now observed = params_at observed.schedule (last_height observed.ledger)

-- why a request is refused; running out of memory never appears here
abbrev pub submit_word : SubmitRefused → List ℕ
submit_word submit_is.NotJson = codes "notJson"
submit_word submit_is.NotWhole = codes "notWhole"
submit_word submit_is.BadForm = codes "badForm"
submit_word submit_is.BadHash = codes "badHash"
submit_word submit_is.BadProof = codes "badProof"
submit_word submit_is.BadDelta = codes "badDelta"
submit_word submit_is.AlreadyQueued = codes "alreadyQueued"
submit_word submit_is.QueueFull = codes "full"
submit_word submit_is.WantOfMemory = []

-- the queue with one more operation, or unchanged
abbrev pub queue_after : List PlainOperation → Result (List PlainOperation × HashValue) SubmitRefused → List PlainOperation
queue_after queue (Ok done) = done.0
queue_after queue (Err cause) = queue

-- the suffix that is queued, or the cause
abbrev pub submit_reply : Result (List PlainOperation × HashValue) SubmitRefused → List ℕ
submit_reply (Ok done) = reply (codes "queued ") (hash_text done.1)
submit_reply (Err cause) = reply (codes "refused ") (submit_word cause)

-- the result of submitting, with the reply
abbrev pub answered_submitted : Machine → Result (List PlainOperation × HashValue) SubmitRefused → Answered
answered_submitted machine done = record {
  next = record machine { queue = queue_after machine.queue done };
  reply = submit_reply done;
}

-- a request at the present limits
abbrev pub answered_submit : Machine → List ℕ → Answered
answered_submit machine request =
    answered_submitted machine (submitted (limits_now machine.observed) machine.queue request)

-- ---- `flush`: a batch of the first operations of the queue; its files are received as by `content`

-- the role of a file in the entry of its batch
abbrev pub role_word : Role → List ℕ
role_word Core = codes "core"
role_word CoreProof = codes "coreProof"
role_word Provisional = codes "provisional"
role_word ProvisionalProof = codes "provisionalProof"
role_word Chunk = codes "chunk"

-- a line for a file: its role, its URI, its bytes
abbrev pub file_line : BatchFile → List ℕ
file_line file =
    reply (codes "file") (spaced (role_word file.role ∷ hash_text file.uri ∷ base64url file.bytes ∷ []))

-- a line for a batch: its anchor string, and the number of its files
abbrev pub batch_line : List ℕ → ℕ → List ℕ
batch_line anchor files = reply (codes "batch") (spaced (anchor ∷ decimal files ∷ []))

-- the line for the batch, then a line for each file
abbrev pub batch_reply : Batch → List ℕ
batch_reply batch = batch_line batch.anchor (length batch.files) ++ flat_map file_line batch.files

-- after these files were received, one after another
abbrev pub all_arrived : List BatchFile → Observed → Observed
all_arrived [] observed = observed
all_arrived (file ∷ files) observed = all_arrived files (arrived file.bytes observed)

-- a batch, and the operations that stay queued
abbrev pub answered_batch : Machine → Batch → List PlainOperation → Answered
answered_batch machine batch rest = record {
  next = record { observed = all_arrived batch.files machine.observed; queue = rest };
  reply = batch_reply batch;
}

-- if something is queued, a batch of the queue at the present limits
abbrev pub answered_flush : Machine → Answered
answered_flush machine =
    if nat_le 1 (length machine.queue)
    then answered_batch machine (batch_of (limits_now machine.observed) machine.queue) (rest_of (limits_now machine.observed) machine.queue)
    else refused machine (codes "nothing")

-- ---- commands

-- by the command
abbrev pub answered_command : Machine → Command → Answered
answered_command machine (Content bytes) = answered_content machine bytes
answered_command machine (Anchor height text) = answered_anchor machine (record { height = height; text = text })
answered_command machine (Rollback n) = answered_rollback machine n
answered_command machine (Resolve did) = answered_resolve machine did
answered_command machine (Explain did) = answered_explain machine did
answered_command machine Wanted = answered_wanted machine
answered_command machine (Report n) = answered_report machine n
answered_command machine (Submit request) = answered_submit machine request
answered_command machine Flush = answered_flush machine

-- ---- lines

-- why a line is not a command
abbrev pub cause_word : LineCause → List ℕ
cause_word line_is.Long = codes "long"
cause_word line_is.Command = codes "command"
cause_word line_is.Words = codes "words"
cause_word line_is.Number = codes "number"
cause_word line_is.Base64 = codes "base64"

-- the command of a line, or why it is not one
abbrev pub answered_read : Machine → Result Command LineCause → Answered
answered_read machine (Ok command) = answered_command machine command
answered_read machine (Err cause) = replied machine (reply (codes "refused line ") (cause_word cause))

-- the answer to a line
abbrev pub answered : Machine → List ℕ → Answered
answered machine line = answered_read machine (command_of line)

-- the replies to lines, one after another
abbrev pub replies : Machine → List (List ℕ) → List ℕ
replies machine [] = []
replies machine (line ∷ lines) = (answered machine line).reply ++ replies (answered machine line).next lines

-- the machine after these lines
abbrev pub after : Machine → List (List ℕ) → Machine
after machine [] = machine
after machine (line ∷ lines) = after (answered machine line).next lines

-- ---- nodes

-- The node is the one after the answer, and its reply is returned.
abbrev pub AnswersWith : Answered → Machine × List ℕ → Type 0
AnswersWith answer done = (done.0 ≡ answer.next) × (done.1 ≡ answer.reply)

-- ---- How the logic stores a machine. No statement about machines depends on it.

abbrev coded_bytes : Coded (List ℕ)
coded_bytes = coded_list coded_ℕ

abbrev coded_hash : Coded HashValue
coded_hash = code_by (ℕ × List ℕ) (coded× coded_ℕ coded_bytes) (λ h. (h.code, h.digest)) (λ p. record { code = p.0; digest = p.1 }) (λ _. refl)

abbrev coded_observed : Coded Observed
coded_observed =
    code_by (Option ℕ × (List Entry × Files))
    (coded× (coded_option coded_ℕ) (coded× (coded_list entry_row.the_row.coded) (coded_list (coded× coded_hash coded_bytes))))
    (λ o. (o.schedule, (o.ledger, o.files)))
    (λ p. record { schedule = p.0; ledger = p.1.0; files = p.1.1 })
    (λ _. refl)

-- a machine as the pair of its fields
abbrev pub coded_machine : Coded Machine
coded_machine =
    code_by (Observed × List PlainOperation) (coded× coded_observed coded_operations)
    (λ m. (m.observed, m.queue)) (λ p. record { observed = p.0; queue = p.1 }) (λ _. refl)
