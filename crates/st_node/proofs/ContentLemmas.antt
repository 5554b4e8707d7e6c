-- The answers about an identifier follow from the ledger and from the file of each URI:
--     operations-same, all-operations-same    its operations
--     resolve-same, explain-same              the replies of two nodes
use Rattle.std.proofs.Common.{◌≡◌, ◌∙◌, ℕ, List, Option, Some, None, Result, Ok, Err, option_map, ap, sym, refl, ◌+◌, ◌-◌, ◌≤◌, [], ◌∷◌, sum_by, arith}
use Rattle.std.proofs.lemmas.List.Sums.{sum_by-cons, sum_by-le-sum_by}
use mathlib.Core.Path.{fun_ext, ap₂}
use Rattle.st_base.specs.Answers.{◌>>=◌}
use Rattle.st_base.specs.Work.{WorkValue}
use Rattle.st_hash.specs.Hash.{HashValue}
use Rattle.st_params.specs.ParamsValue.{ParamsValue, newest_of, params_at}
use Rattle.st_indexfiles.specs.declared.core_index.CoreIndex.{CoreIndex}
use Rattle.st_ledger.specs.declared.ledger.Entry.{Entry}
use Rattle.st_content.specs.Files.{Files, file_at, with_file}
use Rattle.st_anchor.specs.BoundValue.{as_it_is, chunk_in, core_in, core_over, core_proof_in, known, known_from, known_of_text, looked_at, looked_below, looked_up, provisional_in, provisional_over, provisional_proof_in, BoundValue}
use Rattle.st_anchor.specs.Gives.{given, gives}
use Rattle.st_anchor.specs.States.{decided_roles, opened_proofs}
use Rattle.st_anchor.specs.declared.branches.Context.{Context}
use Rattle.st_anchor.specs.declared.branches.CoreBranch.{CoreBranch}
use Rattle.st_anchor.specs.declared.branches.ProvisionalBranch.{ProvisionalBranch}
use Rattle.st_anchor.specs.declared.part.Part.{Part}
use Rattle.st_anchor.specs.declared.part.Part.TheVariants.{Unneeded, Missing, Rejected, Is}
use Rattle.st_apply.specs.Laws.{resolved, given_from}
use Rattle.st_observer.proofs.WorkLemmas.{fell-both, fell-none}
use Rattle.st_observer.specs.Observed.{Observed, anchored_by, anchored_for, given_for, operations, state_of, arrived, known_of}
use Rattle.st_observer.specs.Work.{decided_in, opened_in}
use Rattle.st_resolve.specs.Identifier.{PlainDid, did_of}
use Rattle.st_resolve.specs.Result.{result_of}
use Rattle.st_batch.specs.declared.batch.BatchFile.{BatchFile}
use Rattle.st_node.proofs.ReplyLemmas.{decided-small, decided-up, opened-few, opened-up}
use Rattle.st_node.specs.Laws.{ExplainsAlike, ResolvesAlike}
use Rattle.st_node.specs.Command.{command_of}
use Rattle.st_node.specs.Machine.{Machine, answered, answered_command, answered_read, asked_did, did_word, explain_reply, explained, or_word, resolution, resolve_reply, result_for, result_word, all_arrived}
use Rattle.st_node.specs.Work.{ArrivalCounts, ArrivalsCounts, declared_count, files_due, proofs_due}
use Rattle.st_node.specs.declared.command.Command.{Command}
use Rattle.st_node.specs.declared.command.Command.TheVariants.{Explain, Resolve}

module _ {Says : Type 0} (read : List ℕ → Part Says) (below below' : Says → Says) (same_below : (says : Says) → below says ≡ below' says) where
  below-same : (part : Part Says) → looked_below below part ≡ looked_below below' part
  below-same Unneeded = refl
  below-same (Missing uri) = refl
  below-same (Rejected rule) = refl
  below-same (Is says) = ap Is (same_below says)

  at-same : (uri : HashValue) (file : Option (List ℕ)) → looked_at read below uri file ≡ looked_at read below' uri file
  at-same uri None = refl
  at-same uri (Some bytes) = below-same (read bytes)

  up-same : (files files' : Files) → ((uri : HashValue) → file_at uri files ≡ file_at uri files') → (part : Part Says)
      → looked_up read below files part ≡ looked_up read below' files' part
  up-same files files' same Unneeded = refl
  up-same files files' same (Missing uri) = ap (looked_at read below uri) (same uri) ∙ at-same uri (file_at uri files')
  up-same files files' same (Rejected rule) = refl
  up-same files files' same (Is says) = ap Is (same_below says)

module _ (files files' : Files) (same : (uri : HashValue) → file_at uri files ≡ file_at uri files') where
  provisional-same : (context : Context) (core : CoreIndex) (branch : ProvisionalBranch)
      → provisional_over context core files branch ≡ provisional_over context core files' branch
  provisional-same context core branch =
      ap₂ (λ proofs chunk. record { says = branch.says; proofs = proofs; chunk = chunk })
      (up-same (provisional_proof_in context branch.says) as_it_is as_it_is (λ says. refl) files files' same branch.proofs)
      (up-same (chunk_in context core branch.says) as_it_is as_it_is (λ says. refl) files files' same branch.chunk)

  core-same : (context : Context) (branch : CoreBranch) → core_over context files branch ≡ core_over context files' branch
  core-same context branch =
      ap₂ (λ proofs provisional. record { says = branch.says; proofs = proofs; provisional = provisional })
      (up-same (core_proof_in context branch.says) as_it_is as_it_is (λ says. refl) files files' same branch.proofs)
      (up-same (provisional_in context branch.says) (provisional_over context branch.says files) (provisional_over context branch.says files')
      (provisional-same context branch.says) files files' same branch.provisional)

  known-same : (limits : ParamsValue) (text : List ℕ) → known files limits text ≡ known files' limits text
  unfolding known known_from
  known-same limits text =
      let bound : BoundValue = known_of_text limits text in
      ap (λ core. record { context = bound.context; core = core })
      (up-same (core_in bound.context) (core_over bound.context files) (core_over bound.context files') (core-same bound.context) files files' same bound.core)

  gives-same : (limits : ParamsValue) (text : List ℕ) → gives files limits text ≡ gives files' limits text
  gives-same limits text = ap given (known-same limits text)

  anchored-same : (suffix : HashValue) (schedule : Option ℕ) (number : ℕ) (entry : Entry)
      → anchored_for suffix schedule files number entry ≡ anchored_for suffix schedule files' number entry
  anchored-same suffix schedule number entry =
      ap (λ given. option_map (anchored_by number entry) (given_for suffix given)) (gives-same (params_at schedule entry.height) entry.text)

  pub operations-same : (suffix : HashValue) (schedule : Option ℕ) (ledger : List Entry)
      → operations suffix (record { schedule = schedule; ledger = ledger; files = files })
      ≡ operations suffix (record { schedule = schedule; ledger = ledger; files = files' })
  unfolding operations
  operations-same suffix schedule ledger =
      ap (λ anchored. given_from anchored 0 ledger) (fun_ext (λ number. fun_ext (λ entry. anchored-same suffix schedule number entry)))

-- two nodes with equal ledgers, and the same file for each URI
module _ (first second : Observed) (schedules : first.schedule ≡ second.schedule) (ledgers : first.ledger ≡ second.ledger)
    (same : (uri : HashValue) → file_at uri first.files ≡ file_at uri second.files) where
  pub all-operations-same : (suffix : HashValue) → operations suffix first ≡ operations suffix second
  all-operations-same suffix =
      operations-same first.files second.files same suffix first.schedule first.ledger
      ∙ ap₂ (λ schedule ledger. operations suffix (record { schedule = schedule; ledger = ledger; files = second.files })) schedules ledgers

  state-same : (suffix : HashValue) → state_of suffix first ≡ state_of suffix second
  state-same suffix = ap₂ resolved schedules (all-operations-same suffix)

  result-same : (did : PlainDid) → result_for first did ≡ result_for second did
  result-same did = ap₂ (λ schedule state. or_word result_word (result_of (newest_of schedule) did state)) schedules (state-same did.suffix)

  asked-same : (text : List ℕ) → asked_did first text ≡ asked_did second text
  asked-same text = ap (λ schedule. or_word did_word (did_of (newest_of schedule).version text)) schedules

  resolution-same : (text : List ℕ) → resolution first text ≡ resolution second text
  resolution-same text = ap₂ (λ asked result. asked >>= result) (asked-same text) (fun_ext result-same)

  explained-same : (read : Result PlainDid (List ℕ)) → explain_reply first read ≡ explain_reply second read
  explained-same (Ok did) = ap₂ explained schedules (all-operations-same did.suffix)
  explained-same (Err cause) = refl

  explanation-same : (text : List ℕ) → explain_reply first (asked_did first text) ≡ explain_reply second (asked_did second text)
  explanation-same text = explained-same (asked_did first text) ∙ ap (explain_reply second) (asked-same text)

-- two machines that are alike give the same reply to a line, if they do to its command
by-command : (first second : Machine) (line : List ℕ) (command : Command) → command_of line ≡ Ok command
    → (answered_command first command).reply ≡ (answered_command second command).reply
    → (answered first line).reply ≡ (answered second line).reply
by-command first second line command asks same =
    ap (λ read. (answered_read first read).reply) asks ∙ same ∙ sym (ap (λ read. (answered_read second read).reply) asks)

pub resolve-same : ResolvesAlike
resolve-same first second line text alike asks =
    by-command first second line (Resolve text) asks
    (ap resolve_reply (resolution-same first.observed second.observed alike.same_schedule alike.same_ledger alike.same_files text))

pub explain-same : ExplainsAlike
explain-same first second line text alike asks =
    by-command first second line (Explain text) asks
    (explanation-same first.observed second.observed alike.same_schedule alike.same_ledger alike.same_files text)

-- ---- Sums of work done and work still due.

-- what is done and what is due add up to the most
pub done_and_due : {X : Type 0} (most done : X → ℕ) (xs : List X) → ((x : X) → done x ≤ most x)
    → sum_by done xs + sum_by (λ x. most x - done x) xs ≡ sum_by most xs
done_and_due most done [] fits = refl
done_and_due most done (x ∷ xs) fits =
    omega (
      arith,
      sum_by-cons done x xs,
      sum_by-cons (λ x. most x - done x) x xs,
      sum_by-cons most x xs,
      fits x,
      done_and_due most done xs fits,
    )

-- further work done is no longer due
pub done_besides : {X : Type 0} (most before after : X → ℕ) (xs : List X) → ((x : X) → before x ≤ after x) → ((x : X) → after x ≤ most x)
    → (sum_by after xs - sum_by before xs) + sum_by (λ x. most x - after x) xs ≤ sum_by (λ x. most x - before x) xs
done_besides most before after xs more fits =
    let fits_before : (x : _) → before x ≤ most x = λ x. let a = more x in let b = fits x in omega (arith, a, b) in
    let first = done_and_due most before xs fits_before in
    let then_all = done_and_due most after xs fits in
    let grows = sum_by-le-sum_by before after xs more in
    omega (arith, first, then_all, grows)

-- ---- Files that are received one after another: what is decided, opened and counted.
--     arrivals_none        nothing
--     arrivals_next        for the first file, and then for the others
--     arrivals_files       the roles that the files decide are no longer due
--     arrivals_proofs      nor are the signed texts that are opened then
--     arrivals_schedule    the schedule stays

-- ---- one file

module _ (observed : Observed) where
  -- what is decided and opened for an entry now
  abbrev decided_of : Entry → ℕ
  decided_of entry = decided_roles (known_of observed.schedule observed.files entry)

  abbrev opened_of : Entry → ℕ
  opened_of entry = opened_proofs (known_of observed.schedule observed.files entry)

  module _ (file : List ℕ) where
    -- and after a file was received
    abbrev decided_then : Entry → ℕ
    decided_then entry = decided_roles (known_of observed.schedule (with_file file observed.files) entry)

    abbrev opened_then : Entry → ℕ
    opened_then entry = opened_proofs (known_of observed.schedule (with_file file observed.files) entry)

    decided-rises : decided_in observed ≤ decided_in (arrived file observed)
    decided-rises = sum_by-le-sum_by decided_of decided_then observed.ledger (decided-up observed.schedule file observed.files)

    opened-rises : opened_in observed ≤ opened_in (arrived file observed)
    opened-rises = sum_by-le-sum_by opened_of opened_then observed.ledger (opened-up observed.schedule file observed.files)

    pub arrival_files : (decided_in (arrived file observed) - decided_in observed) + files_due (arrived file observed) ≤ files_due observed
    arrival_files =
        done_besides (λ _. 5) decided_of decided_then observed.ledger (decided-up observed.schedule file observed.files)
        (decided-small observed.schedule (with_file file observed.files))

    pub arrival_proofs : (opened_in (arrived file observed) - opened_in observed) + proofs_due (arrived file observed) ≤ proofs_due observed
    arrival_proofs =
        done_besides (declared_count observed.schedule) opened_of opened_then observed.ledger (opened-up observed.schedule file observed.files)
        (opened-few observed.schedule (with_file file observed.files))

-- ---- files one after another

all-decided-rise : (files : List BatchFile) (observed : Observed) → decided_in observed ≤ decided_in (all_arrived files observed)
all-decided-rise [] observed = omega arith
all-decided-rise (file ∷ files) observed =
    omega (arith, decided-rises observed file.bytes, all-decided-rise files (arrived file.bytes observed))

all-opened-rise : (files : List BatchFile) (observed : Observed) → opened_in observed ≤ opened_in (all_arrived files observed)
all-opened-rise [] observed = omega arith
all-opened-rise (file ∷ files) observed =
    omega (arith, opened-rises observed file.bytes, all-opened-rise files (arrived file.bytes observed))

pub arrivals_files : (files : List BatchFile) (observed : Observed)
    → (decided_in (all_arrived files observed) - decided_in observed) + files_due (all_arrived files observed) ≤ files_due observed
arrivals_files [] observed = omega arith
arrivals_files (file ∷ files) observed =
    let first = arrival_files observed file.bytes in
    let others = arrivals_files files (arrived file.bytes observed) in
    let rises = decided-rises observed file.bytes in
    let all_rise = all-decided-rise files (arrived file.bytes observed) in
    omega (arith, first, others, rises, all_rise)

pub arrivals_proofs : (files : List BatchFile) (observed : Observed)
    → (opened_in (all_arrived files observed) - opened_in observed) + proofs_due (all_arrived files observed) ≤ proofs_due observed
arrivals_proofs [] observed = omega arith
arrivals_proofs (file ∷ files) observed =
    let first = arrival_proofs observed file.bytes in
    let others = arrivals_proofs files (arrived file.bytes observed) in
    let rises = opened-rises observed file.bytes in
    let all_rise = all-opened-rise files (arrived file.bytes observed) in
    omega (arith, first, others, rises, all_rise)

pub arrivals_schedule : (files : List BatchFile) (observed : Observed) → (all_arrived files observed).schedule ≡ observed.schedule
arrivals_schedule [] observed = refl
arrivals_schedule (file ∷ files) observed = arrivals_schedule files (arrived file.bytes observed)

-- ---- counts

pub arrivals_none : (observed : Observed) (files : List BatchFile) (work : WorkValue) → ArrivalsCounts observed files work work
arrivals_none observed files work = record { least = fell-none work; read = omega arith; opened = omega arith; applied = omega arith }

pub arrivals_next : (observed : Observed) (file : BatchFile) (files : List BatchFile) {old mid new : WorkValue}
    → ArrivalCounts observed file.bytes old mid → ArrivalsCounts (arrived file.bytes observed) files mid new
    → ArrivalsCounts observed (file ∷ files) old new
arrivals_next observed file files first others = record {
  least = fell-both first.least others.least;
  read = omega (arith, first.read, others.read, decided-rises observed file.bytes, all-decided-rise files (arrived file.bytes observed));
  opened = omega (arith, first.opened, others.opened, opened-rises observed file.bytes, all-opened-rise files (arrived file.bytes observed));
  applied = omega (arith, first.applied, others.applied);
}
