-- A line that is truncated after its first excess byte is answered like the whole line:
--     cut_command       it is read as the same command, or refused for the same cause
--     cut_answered      its answer
--     cut_replies       the replies to it and to the lines after it
--     cut_after         the machine after it
--     cut_entries       the entry that it adds
--     cut_submitted     whether it submits a request
use Rattle.std.proofs.Common.{◌≡◌, ◌∙◌, ℕ, ◌+◌, ◌≤◌, Bool, true, false, nat_le, List, ◌∷◌, ◌++◌, length, take, Result, Err, refl, sym, ap, arith, length-take, take_all, ◌<◌, ◌^◌, ◌/◌, ◌%◌, ◌||◌, [], codes, append_assoc, Option, drop, map, append-nil, subst, if◌then◌else◌, Some, None, option_map, option_and_then}
use Rattle.std.proofs.lemmas.Bool.Decides.{nat_tests}
use Rattle.std.proofs.lemmas.Fmt.{decimal_by_steps}
use Rattle.std.proofs.lemmas.List.{drop_all, length-map, map-append}
use Rattle.std.proofs.lemmas.List.Sums.{sum_by-cons}
use Rattle.std.specs.Fmt.{decimal}
use Rattle.std.specs.Prelude.{Ok, is_none, unwrap_or}
use Rattle.st_base.specs.Answers.{◌>>◌, holds_or}
use Rattle.st_base.specs.Texts.{reply, spaced, first_word, other_words, cut_at}
use Rattle.st_base.specs.Rules.{first_failing}
use Rattle.st_base.specs.Work.{WorkValue}
use Rattle.st_plain.specs.Plain.{canonical, Plain}
use Rattle.st_hash.specs.Hash.{HashValue, hash_of_text}
use Rattle.st_params.specs.ParamsValue.{ParamsValue, params_at}
use Rattle.st_ops.specs.Operation.{PlainOperation}
use Rattle.st_ledger.specs.Ledger.{anchor_of, anchor_rules, count_in, dot}
use Rattle.st_ledger.specs.declared.anchor.Anchor.{Anchor}
use Rattle.st_ledger.specs.declared.anchor.AnchorRule.{AnchorRule}
use Rattle.st_ledger.specs.declared.anchor.AnchorRule.TheVariants.{A1, A2, A3}
use Rattle.st_ledger.specs.declared.ledger.Entry.{Entry}
use Rattle.st_content.specs.Files.{Files, with_file}
use Rattle.st_anchor.proofs.ComingLemmas.{with_file-extends}
use Rattle.st_anchor.proofs.CountLemmas.{decided_roles-small, decided_roles-up, opened_proofs-up}
use Rattle.st_anchor.proofs.KnownLemmas.{known_from-again}
use Rattle.st_anchor.proofs.GivesLemmas.{opened_proofs-few}
use Rattle.st_anchor.specs.BoundValue.{anchor_judged, known, known_from, known_of_text}
use Rattle.st_anchor.specs.States.{decided_roles, opened_proofs}
use Rattle.st_apply.specs.Laws.{Anchored}
use Rattle.st_observer.specs.Observed.{Observed, known_of}
use Rattle.st_observer.specs.Work.{plain_held}
use Rattle.st_observer.specs.declared.held.Held.{Held}
use Rattle.st_resolve.specs.Result.{text_of}
use Rattle.st_resolve.specs.declared.result.RenderRefused.{RenderRefused}
use Rattle.st_cert.proofs.LawLemmas.{one_each}
use Rattle.st_cert.specs.Certificate.{IsCertificate, anchored_item, anchored_items, verdicts}
use Rattle.st_cert.specs.declared.certificate.Certificate.{Certificate}
use Rattle.st_cert.specs.declared.certificate.CertItem.{CertItem}
use Rattle.st_cert.specs.declared.verdict.Verdict.{Verdict}
use Rattle.st_batch.specs.Flushed.{IsFlushed}
use Rattle.st_batch.specs.Batch.{batch_count, batch_of, rest_of}
use Rattle.st_batch.specs.declared.batch.Batch.{Batch}
use Rattle.st_node.specs.Laws.{is_changing, is_positive}
use Rattle.st_node.specs.Command.{command_of, command_of_words, longest_line, space}
use Rattle.st_node.specs.Machine.{Answered, Machine, after, answered, answered_read, replies, explained, item_line, item_lines, AnswersWith, all_arrived, answered_batch, answered_flush, batch_reply, limits_now, refused, or_word, resolve_reply, result_word}
use Rattle.st_node.specs.Work.{entries_of, entry_of_line, entry_of_read, submitted_by_line, submitted_by_read, submitted_in, ArrivalsCounts, FlushCounts, QueueCounts, declared_count}
use Rattle.st_node.specs.declared.command.Command.{Command}
use Rattle.st_node.specs.declared.command.LineCause.{LineCause}
use Rattle.st_node.specs.declared.command.LineCause.TheVariants as line_is

-- a line that is short enough is not truncated
uncut : (most : ℕ) (line : List ℕ) → nat_le (length line) most ≡ true → take (most + 1) line ≡ line
uncut most line short =
    let fits : length line ≤ most + 1 = grind (arith, nat_tests) in
    take_all (most + 1) line fits

-- a line that is too long stays so
still_long : (most : ℕ) (line : List ℕ) → nat_le (length line) most ≡ false → nat_le (length (take (most + 1) line)) most ≡ false
still_long most line long = grind (arith, nat_tests, length-take)

refused_long : (fits : Bool) (next : Result Command LineCause) → fits ≡ false → (holds_or fits line_is.Long >> next) ≡ Err line_is.Long
refused_long fits next long = rw long refl

by_length : (line : List ℕ) (fits : Bool) → nat_le (length line) longest_line ≡ fits
    → command_of (take (longest_line + 1) line) ≡ command_of line
by_length line true short = ap command_of (uncut longest_line line short)
by_length line false long =
    refused_long _ _ (still_long longest_line line long)
    ∙ sym (refused_long (nat_le (length line) longest_line) (command_of_words (first_word space line) (other_words space line)) long)

pub cut_command : (line : List ℕ) → command_of (take (longest_line + 1) line) ≡ command_of line
cut_command line = by_length line (nat_le (length line) longest_line) refl

module _ (machine : Machine) (line : List ℕ) where
  pub cut_answered : answered machine (take (longest_line + 1) line) ≡ answered machine line
  cut_answered = ap (answered_read machine) (cut_command line)

  -- the reply of an answer, and the replies to the lines after it
  abbrev replies_behind : List (List ℕ) → Answered → List ℕ
  replies_behind more answer = answer.reply ++ replies answer.next more

  pub cut_replies : (more : List (List ℕ)) → replies machine (take (longest_line + 1) line ∷ more) ≡ replies machine (line ∷ more)
  cut_replies more = ap (replies_behind more) cut_answered

  pub cut_after : (more : List (List ℕ)) → after machine (take (longest_line + 1) line ∷ more) ≡ after machine (line ∷ more)
  cut_after more = ap (λ (answer : Answered). after answer.next more) cut_answered

  cut_entry : entry_of_line machine (take (longest_line + 1) line) ≡ entry_of_line machine line
  cut_entry = ap (entry_of_read machine) (cut_command line)

  pub cut_entries : (more : List (List ℕ)) → entries_of machine (take (longest_line + 1) line ∷ more) ≡ entries_of machine (line ∷ more)
  cut_entries more =
      ap (λ (entries : List Entry). entries ++ entries_of (answered machine (take (longest_line + 1) line)).next more) cut_entry
      ∙ ap (λ (answer : Answered). entry_of_line machine line ++ entries_of answer.next more) cut_answered

  pub cut_submitted : (more : List (List ℕ)) → submitted_in (take (longest_line + 1) line ∷ more) ≡ submitted_in (line ∷ more)
  cut_submitted more =
      sum_by-cons submitted_by_line (take (longest_line + 1) line) more
      ∙ ap (λ read. submitted_by_read read + submitted_in more) (cut_command line)
      ∙ sym (sum_by-cons submitted_by_line line more)

-- ---- A reply to a rollback has the form of a change if entries were removed (`cut_form`). The first letters decide for
-- the other replies.

-- the first digit is not 0 if and only if the number is not
abbrev Begins : ℕ → List ℕ → Type 0
Begins n digits = (more : List ℕ) → is_positive (digits ++ more) ≡ nat_le 1 n

one_digit : (n : ℕ) → n < 10 → Begins n ((48 + n) ∷ [])
one_digit n small more = grind (arith, nat_tests)

more_digits : (n : ℕ) (digits : List ℕ) → 10 ≤ n → Begins (n / 10) digits → Begins n (digits ++ ((48 + n % 10) ∷ []))
more_digits n digits great begins more =
    let first : nat_le 1 (n / 10) ≡ nat_le 1 n = grind (arith, nat_tests) in
    ap is_positive (append_assoc digits ((48 + n % 10) ∷ []) more) ∙ (begins (((48 + n % 10) ∷ []) ++ more) ∙ first)

-- the first digit of a number's decimal text is not 0 if and only if the number is not 0
pub positive_decimal : (n : ℕ) → n < 2 ^ 64 → (more : List ℕ) → is_positive (decimal n ++ more) ≡ nat_le 1 n
positive_decimal = decimal_by_steps Begins one_digit more_digits

or_false : (test : Bool) → (test || false) ≡ test
or_false true = refl
or_false false = refl

-- a reply to a rollback has the form of a change if and only if an entry was removed
pub cut_form : (n : ℕ) → n < 2 ^ 64 → is_changing (reply (codes "cut ") (decimal n)) ≡ nat_le 1 n
cut_form n small = rw (positive_decimal n small (codes "\n")) (or_false (nat_le 1 n))

-- ---- Items written one by one, and items made from the operations of an observer.

module _ (items : List CertItem) (verdicts : List Verdict) where
  -- a text, followed by the lines of the items from a place on
  abbrev pub with_lines : List ℕ → ℕ → List ℕ
  with_lines text at = text ++ item_lines (anchored_items (drop at items)) (drop at verdicts)

  -- the line of the item at the place was appended to it
  pub next_line : (text put : List ℕ) (at : ℕ) (item : CertItem) (verdict : Verdict) → drop at items ≡ item ∷ drop (at + 1) items
      → drop at verdicts ≡ verdict ∷ drop (at + 1) verdicts → put ≡ text ++ item_line (anchored_item item) verdict
      → with_lines put (at + 1) ≡ with_lines text at
  next_line text put at item verdict next first puts =
      let rest = item_lines (anchored_items (drop (at + 1) items)) (drop (at + 1) verdicts) in
      ap (λ (begin : List ℕ). begin ++ rest) puts
      ∙ append_assoc text (item_line (anchored_item item) verdict) rest
      ∙ sym (ap (λ (stated : List Verdict). text ++ item_lines (anchored_items (item ∷ drop (at + 1) items)) stated) first)
      ∙ sym (ap (λ (left : List CertItem). text ++ item_lines (anchored_items left) (drop at verdicts)) next)

  -- all were
  pub last_line : (text : List ℕ) (at : ℕ) → length items ≤ at → with_lines text at ≡ text
  last_line text at over =
      ap (λ (left : List CertItem). text ++ item_lines (anchored_items left) (drop at verdicts)) (drop_all at items over) ∙ append-nil text

-- one more item is made from an operation
pub one_made : (made new : List CertItem) (held : Held) (rest : List Held) (item : CertItem) → new ≡ made ++ item ∷ []
    → anchored_item item ≡ plain_held held
    → anchored_items new ++ map plain_held rest ≡ anchored_items made ++ map plain_held (held ∷ rest)
one_made made new held rest item pushed same =
    ap (λ (items : List CertItem). anchored_items items ++ map plain_held rest) pushed
    ∙ ap (λ all. all ++ map plain_held rest) (map-append anchored_item made (item ∷ []))
    ∙ append_assoc (anchored_items made) (anchored_item item ∷ []) (map plain_held rest)
    ∙ ap (λ first. anchored_items made ++ first ∷ map plain_held rest) same

-- each item has one verdict
pub each_judged : (schedule : Option ℕ) (items : List CertItem) (certificate : Certificate) → IsCertificate schedule (anchored_items items) certificate
    → length items ≡ length certificate.verdicts
each_judged schedule items certificate is =
    sym (ap length is.verdicts ∙ one_each schedule (anchored_items items) ∙ length-map items anchored_item)

-- the number of items, and a line for each
abbrev pub said : List CertItem → List Verdict → List ℕ
said items stated = reply (codes "explained ") (decimal (length items)) ++ item_lines (anchored_items items) stated

module _ (schedule known : Option ℕ) (items given shown : List CertItem) (stated : List Verdict) (certificate : Certificate)
    (same : schedule ≡ known) (gives : given ≡ items) (shows : shown ≡ items) (states : stated ≡ certificate.verdicts)
    (is : IsCertificate schedule (anchored_items given) certificate) where
  -- the items written have one verdict each
  pub each_told : length shown ≡ length stated
  each_told =
      ap (λ (xs : List CertItem). length xs) (shows ∙ sym gives) ∙ each_judged schedule given certificate is
      ∙ ap (λ (vs : List Verdict). length vs) (sym states)

  -- and the text explains the operations
  pub told : (operations : List Anchored) → anchored_items items ≡ operations → said shown stated ≡ explained known operations
  told operations made =
      ap (λ (xs : List CertItem). said xs stated) shows
      ∙ ap (λ (vs : List Verdict). said items vs) (states ∙ is.verdicts
      ∙ ap (λ (xs : List CertItem). verdicts schedule (anchored_items xs)) gives
      ∙ ap (λ (s : Option ℕ). verdicts s (anchored_items items)) same)
      ∙ ap (λ (n : ℕ). reply (codes "explained ") (decimal n) ++ item_lines (anchored_items items) (verdicts known (anchored_items items)))
      (sym (length-map items anchored_item))
      ∙ ap (λ (xs : List Anchored). explained known xs) made

-- ---- A batch of the queue, whose files were received: it is the reference machine's result of a flush.
--     flush_counts     the counts
--     flush_answer     the machine afterwards, and the reply

-- a batch takes nothing from an empty queue
some_queued : (limits : ParamsValue) (queue : List PlainOperation) → 1 ≤ batch_count limits queue → 1 ≤ length queue
unfolding batch_count
some_queued limits [] some = some
some_queued limits (operation ∷ operations) some = omega arith

abbrev machine_of : Observed → List PlainOperation → Machine
machine_of observed queue = record { observed = observed; queue = queue }

module _ (observed : Observed) {queue rest : List PlainOperation} {limits : ParamsValue} {batch : Batch} (now : limits ≡ limits_now observed)
    (flushed : IsFlushed limits queue rest batch) where
  abbrev there : Machine
  there = machine_of observed queue

  is_queued : nat_le 1 (length queue) ≡ true
  is_queued = let some : 1 ≤ length queue = some_queued limits queue flushed.some in grind (arith, nat_tests)

  batch_is : batch ≡ batch_of (limits_now observed) queue
  batch_is = flushed.batch ∙ ap (λ limits. batch_of limits queue) now

  rest_is : rest ≡ rest_of (limits_now observed) queue
  rest_is = flushed.rest ∙ ap (λ limits. rest_of limits queue) now

  answer_is : answered_batch there batch rest ≡ answered_flush there
  answer_is =
      ap (λ batch. answered_batch there batch rest) batch_is
      ∙ ap (λ rest. answered_batch there (batch_of (limits_now observed) queue) rest) rest_is
      ∙ sym (ap (λ (queued : Bool). if queued
      then answered_batch there (batch_of (limits_now observed) queue) (rest_of (limits_now observed) queue)
      else refused there (codes "nothing")) is_queued)

  module _ {machine : Machine} (is : record { observed = observed; queue = queue } ≡ machine) where
    pub flush_counts : {old new : WorkValue} → ArrivalsCounts observed batch.files old new → FlushCounts machine old new
    flush_counts {old = old} {new = new} counts =
        subst (λ (machine : Machine). FlushCounts machine old new) is
        (subst (λ queued. QueueCounts there queued old new) (sym is_queued)
        (subst (λ (batch : Batch). ArrivalsCounts observed batch.files old new) batch_is counts))

    pub flush_answer : {taken : Observed} {text : List ℕ} → taken ≡ all_arrived batch.files observed → text ≡ batch_reply batch
        → AnswersWith (answered_flush machine) (machine_of taken rest, text)
    flush_answer {taken = taken} {text = text} came told =
        subst (λ (machine : Machine). AnswersWith (answered_flush machine) (machine_of taken rest, text)) is
        (subst (λ answer. AnswersWith answer (machine_of taken rest, text)) answer_is
        (ap (λ (observed : Observed). machine_of observed rest) came, told))

-- ---- Words that are appended to a text one by one, each after a space.

module _ {Item : Type 0} (word_of : Item → List ℕ) (items : List Item) where
  -- a text, followed by the words of the items from a place on
  abbrev pub with_words : List ℕ → ℕ → List ℕ
  with_words text at = text ++ spaced (map word_of (drop at items))

-- ---- The reply to a text that resolves, or doesn't, from the canonical text of the result.
--     resolved_by      the result follows the word
--     unresolved_by    the cause does

-- a result is answered by its text
pub resolved_by : (says : Result Plain RenderRefused) (text : List ℕ) → text_of says ≡ Ok text
    → resolve_reply (or_word result_word says) ≡ reply (codes "resolved ") text
resolved_by (Ok result) text is = let same : canonical result ≡ text = cc in ap (reply (codes "resolved ")) same
resolved_by (Err refusal) text is = absurd (cc)

-- a missing one by the cause
pub unresolved_by : (says : Result Plain RenderRefused) (refusal : RenderRefused) → text_of says ≡ Err refusal
    → resolve_reply (or_word result_word says) ≡ reply (codes "unresolved ") (result_word refusal)
unresolved_by (Ok result) refusal is = absurd (cc)
unresolved_by (Err other) refusal is = let same : other ≡ refusal = cc in ap (λ r. reply (codes "unresolved ") (result_word r)) same

-- ---- An anchor string that fails a rule has no content.

abbrev both : Option ℕ → Option HashValue → Option Anchor
both count core = option_and_then (λ count. option_map (λ core. record { count = count; core = core }) core) count

not_both : (count : Option ℕ) (core : Option HashValue) (rule : AnchorRule)
    → first_failing ((A1, false) ∷ (A2, is_none count) ∷ (A3, is_none core) ∷ []) ≡ Some rule → both count core ≡ None
not_both None core rule fails = refl
not_both (Some count) None rule fails = refl
not_both (Some count) (Some core) rule fails = cc

by_cut : (most : ℕ) (cut : Option (List ℕ × List ℕ)) (rule : AnchorRule)
    → first_failing ((A1, is_none cut) ∷ (A2, is_none (option_and_then (λ parts. count_in most parts.0) cut))
    ∷ (A3, is_none (option_and_then (λ parts. hash_of_text parts.1) cut)) ∷ []) ≡ Some rule
    → both (option_and_then (λ parts. count_in most parts.0) cut) (option_and_then (λ parts. hash_of_text parts.1) cut) ≡ None
by_cut most None rule fails = refl
by_cut most (Some parts) rule fails = not_both (count_in most parts.0) (hash_of_text parts.1) rule fails

pub anchor_of_rejected : (limits : ParamsValue) (text : List ℕ) (rule : AnchorRule)
    → first_failing (anchor_rules limits text) ≡ Some rule → anchor_of limits text ≡ None
anchor_of_rejected limits text rule fails = by_cut limits.max_operations (cut_at dot text) rule fails

-- ---- What is decided and opened for an entry, within its bounds.
--     decided-small, opened-few     at most five roles, and as many signed texts as operations declared
--     decided-up, opened-up         a file undoes nothing

-- ---- the declared count

abbrev count_said : Option Anchor → ℕ
count_said says = unwrap_or (option_map (λ anchor. anchor.count) says) 0

count-judged : (limits : ParamsValue) (failing : Option AnchorRule) (says : Option Anchor)
    → ((rule : AnchorRule) → failing ≡ Some rule → says ≡ None)
    → (anchor_judged limits failing says).context.count ≡ count_said says
count-judged limits (Some rule) says nothing = sym (ap count_said (nothing rule refl))
count-judged limits None (Some anchor) nothing = refl
count-judged limits None None nothing = refl

count-text : (limits : ParamsValue) (text : List ℕ) → (known_of_text limits text).context.count ≡ count_said (anchor_of limits text)
unfolding known_of_text
count-text limits text =
    count-judged limits (first_failing (anchor_rules limits text)) (anchor_of limits text) (λ rule fails. anchor_of_rejected limits text rule fails)

-- what is known about an entry has the count that it declares
count-known : (files : Files) (limits : ParamsValue) (text : List ℕ) → (known files limits text).context.count ≡ count_said (anchor_of limits text)
unfolding known known_from
count-known files limits text = count-text limits text

-- ---- bounds

pub decided-small : (schedule : Option ℕ) (files : Files) (entry : Entry) → decided_roles (known_of schedule files entry) ≤ 5
decided-small schedule files entry = decided_roles-small (known_of schedule files entry)

pub opened-few : (schedule : Option ℕ) (files : Files) (entry : Entry)
    → opened_proofs (known_of schedule files entry) ≤ declared_count schedule entry
opened-few schedule files entry =
    let limits = params_at schedule entry.height in
    subst (λ count. opened_proofs (known files limits entry.text) ≤ count) (count-known files limits entry.text)
    (opened_proofs-few files limits entry.text)

-- ---- one more file

again : (file : List ℕ) (files : Files) (limits : ParamsValue) (text : List ℕ)
    → known_from (with_file file files) (known files limits text) ≡ known (with_file file files) limits text
unfolding known
again file files limits text = known_from-again files (with_file file files) (with_file-extends file files) (known_of_text limits text)

pub decided-up : (schedule : Option ℕ) (file : List ℕ) (files : Files) (entry : Entry)
    → decided_roles (known_of schedule files entry) ≤ decided_roles (known_of schedule (with_file file files) entry)
decided-up schedule file files entry =
    let limits = params_at schedule entry.height in
    subst (λ later. decided_roles (known files limits entry.text) ≤ decided_roles later) (again file files limits entry.text)
    (decided_roles-up (with_file file files) (known files limits entry.text))

pub opened-up : (schedule : Option ℕ) (file : List ℕ) (files : Files) (entry : Entry)
    → opened_proofs (known_of schedule files entry) ≤ opened_proofs (known_of schedule (with_file file files) entry)
opened-up schedule file files entry =
    let limits = params_at schedule entry.height in
    subst (λ later. opened_proofs (known files limits entry.text) ≤ opened_proofs later) (again file files limits entry.text)
    (opened_proofs-up (with_file file files) (known files limits entry.text))
