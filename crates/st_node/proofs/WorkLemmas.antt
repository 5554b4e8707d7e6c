-- The observer's bounds on counted work, as bounds of the node.
use Rattle.std.proofs.Common.{◌≡◌, ℕ, ◌*◌, ◌≤◌, true, nat_le, List, length, sym, subst, arith, Bool, false, [], ◌∷◌, Option, Some, None, Result, Ok, Err, refl, ap, if◌then◌else◌}
use Rattle.std.proofs.lemmas.Bool.Decides.{nat_tests}
use Rattle.std.proofs.lemmas.List.Sums.{sum_by-take-le, sum_by_push}
use Rattle.std.specs.Prelude.{codes}
use Rattle.st_base.specs.Work.{AppliesAtMost, WorkValue, ProofsAtMost}
use Rattle.st_ops.specs.Operation.{PlainOperation}
use Rattle.st_ledger.specs.Ledger.{admitted}
use Rattle.st_ledger.specs.declared.ledger.Entry.{Entry}
use Rattle.st_ledger.specs.declared.ledger.LedgerRefused.{LedgerRefused}
use Rattle.st_anchor.specs.declared.part.RoleState.{RoleState}
use Rattle.st_exchange.specs.Peer.{FileDue, LineDue, anchors_told}
use Rattle.st_observer.proofs.WorkLemmas.{fell-none}
use Rattle.st_observer.specs.Observed.{Observed, appended, arrived, cut_to, report}
use Rattle.st_observer.specs.Work.{losing}
use Rattle.st_batch.specs.Batch.{batch_of, rest_of}
use Rattle.st_batch.specs.declared.batch.Batch.{Batch}
use Rattle.st_batch.specs.declared.batch.BatchFile.{BatchFile}
use Rattle.st_node.proofs.ContentLemmas.{arrival_files, arrival_proofs, arrivals_files, arrivals_none, arrivals_proofs}
use Rattle.st_node.proofs.ReplyLemmas.{decided-small, opened-few}
use Rattle.st_node.specs.Command.{command_of}
use Rattle.st_node.specs.Machine.{Machine, all_arrived, answered_admitted, answered_batch, answered_command, answered_read, limits_now, refused, reported, rolled_back, answered}
use Rattle.st_node.specs.Peer.{node_peer}
use Rattle.st_node.specs.Work.{ArrivalCounts, FittingCounts, RollbackCounts, AdmittedCounts, ArrivalsCounts, CommandCounts, EntryCounts, LineCounts, QueueCounts, StaysDue, entry_admitted, entry_of_command, entry_of_read, files_due_for, proofs_due_for, submitted_by, submitted_by_read, entry_of_line, submitted_by_line}
use Rattle.st_node.specs.declared.command.Command.{Command}
use Rattle.st_node.specs.declared.command.Command.TheVariants.{Content, Anchor, Rollback, Resolve, Explain, Wanted, Report, Submit, Flush}
use Rattle.st_node.specs.declared.command.LineCause.{LineCause}

-- the counts of a cut to the first n entries
fitting_counts : (observed : Observed) {n : ℕ} {old new : WorkValue} → n ≤ length observed.ledger → AppliesAtMost (7 * length (losing n observed)) old new
    → RollbackCounts observed n old new
fitting_counts observed {n = n} {old = old} {new = new} inside counts =
    let fits : nat_le n (length observed.ledger) ≡ true = grind (arith, nat_tests) in
    subst (λ fits. FittingCounts observed n fits old new) (sym fits) counts

module _ {observed : Observed} {queue : List PlainOperation} {machine : Machine}
    (is : record { observed = observed; queue = queue } ≡ machine) {old new : WorkValue} where
  pub arrival_counts : (bytes : List ℕ) → ArrivalCounts observed bytes old new → ArrivalCounts machine.observed bytes old new
  arrival_counts bytes counts = subst (λ (m : Machine). ArrivalCounts m.observed bytes old new) is counts

  pub rollback_counts : (n : ℕ) → n ≤ length observed.ledger → AppliesAtMost (7 * length (losing n observed)) old new
      → RollbackCounts machine.observed n old new
  rollback_counts n inside counts = subst (λ (m : Machine). RollbackCounts m.observed n old new) is (fitting_counts observed inside counts)

-- ---- The counts of a command or a line are paid by work that is no longer due, and by what an accepted anchor or a
-- submission adds.
--     arrived_due      for a file
--     command_due      for a command
--     line_due         for a line
--     none_counted     if nothing is counted, the bounds of any line hold

module _ (observed : Observed) where
  module _ (old new : WorkValue) where
    pub arrived_due : (file : List ℕ) → ArrivalCounts observed file old new → StaysDue observed (arrived file observed) [] 0 old new
    arrived_due file counts = record {
      files = omega (arith, counts.read, arrival_files observed file);
      proofs = omega (arith, counts.opened, arrival_proofs observed file);
    }

    all_arrived_due : (files : List BatchFile) → ArrivalsCounts observed files old new
        → StaysDue observed (all_arrived files observed) [] 0 old new
    all_arrived_due files counts = record {
      files = omega (arith, counts.read, arrivals_files files observed);
      proofs = omega (arith, counts.opened, arrivals_proofs files observed);
    }

    appended_due : (entry : Entry) → EntryCounts observed entry old new → StaysDue observed (appended entry observed) (entry ∷ []) 0 old new
    appended_due entry counts = record {
      files = omega (arith, counts.read, sum_by_push (files_due_for observed) observed.ledger entry, decided-small observed.schedule observed.files entry);
      proofs = omega (arith, counts.opened, sum_by_push (proofs_due_for observed) observed.ledger entry, opened-few observed.schedule observed.files entry);
    }

    cut_due : (n : ℕ) → AppliesAtMost (7 * length (losing n observed)) old new → StaysDue observed (cut_to n observed) [] 0 old new
    cut_due n counts = record {
      files = omega (arith, counts.files, sum_by-take-le (files_due_for observed) observed.ledger n);
      proofs = omega (arith, counts.proofs, sum_by-take-le (proofs_due_for observed) observed.ledger n);
    }

    read_due : new.files ≡ old.files → new.proofs ≡ old.proofs → StaysDue observed observed [] 0 old new
    read_due files proofs = record { files = omega (arith, files); proofs = omega (arith, proofs) }

    submitted_due : ProofsAtMost 1 old new → StaysDue observed observed [] 1 old new
    submitted_due counts = record { files = omega (arith, counts.files); proofs = omega (arith, counts.proofs) }

    same_due : new ≡ old → StaysDue observed observed [] 0 old new
    same_due same = read_due (ap (λ (counts : WorkValue). counts.files) same) (ap (λ (counts : WorkValue). counts.proofs) same)

-- ---- commands and lines

module _ (machine : Machine) (old new : WorkValue) where
  admitted_due : (entry : Entry) (answer : Result Unit LedgerRefused) → AdmittedCounts machine.observed entry answer old new
      → StaysDue machine.observed (answered_admitted machine entry answer).next.observed (entry_admitted entry answer) 0 old new
  admitted_due entry (Ok _) counts = appended_due machine.observed old new entry counts
  admitted_due entry (Err cause) same = same_due machine.observed old new same

  rollback_due : (n : ℕ) (fits : Bool) → FittingCounts machine.observed n fits old new
      → StaysDue machine.observed (if fits then rolled_back machine n else refused machine (codes "range")).next.observed [] 0 old new
  rollback_due n true counts = cut_due machine.observed old new n counts
  rollback_due n false same = same_due machine.observed old new same

  reported_due : (states : Option (List RoleState)) → new ≡ old
      → StaysDue machine.observed (reported machine states).next.observed [] 0 old new
  reported_due (Some states) same = same_due machine.observed old new same
  reported_due None same = same_due machine.observed old new same

  -- the batch of the queue, at the present limits
  abbrev batch_now : Batch
  batch_now = batch_of (limits_now machine.observed) machine.queue

  flush_due : (queued : Bool) (rest : List PlainOperation) → QueueCounts machine queued old new
      → StaysDue machine.observed (if queued then answered_batch machine batch_now rest else refused machine (codes "nothing")).next.observed [] 0 old new
  flush_due true rest counts = all_arrived_due machine.observed old new batch_now.files counts
  flush_due false rest same = same_due machine.observed old new same

  pub command_due : (command : Command) → CommandCounts machine command old new
      → StaysDue machine.observed (answered_command machine command).next.observed (entry_of_command machine command) (submitted_by command) old new
  command_due (Content bytes) counts = arrived_due machine.observed old new bytes counts
  command_due (Anchor height text) counts =
      admitted_due (record { height = height; text = text }) (admitted machine.observed.ledger height) counts
  command_due (Rollback n) counts = rollback_due n (nat_le n (length machine.observed.ledger)) counts
  command_due (Resolve did) counts = read_due machine.observed old new counts.files counts.proofs
  command_due (Explain did) counts = read_due machine.observed old new counts.files counts.proofs
  command_due Wanted same = same_due machine.observed old new same
  command_due (Report n) same = reported_due (report n machine.observed) same
  command_due (Submit request) counts = submitted_due machine.observed old new counts
  command_due Flush counts =
      flush_due (nat_le 1 (length machine.queue)) (rest_of (limits_now machine.observed) machine.queue) counts

  pub line_due : (read : Result Command LineCause) → LineCounts machine read old new
      → StaysDue machine.observed (answered_read machine read).next.observed (entry_of_read machine read) (submitted_by_read read) old new
  line_due (Ok command) counts = command_due command counts
  line_due (Err cause) same = same_due machine.observed old new same

-- ---- if nothing is counted

module _ (machine : Machine) (work : WorkValue) where
  none_admitted : (entry : Entry) (answer : Result Unit LedgerRefused) → AdmittedCounts machine.observed entry answer work work
  none_admitted entry (Ok _) = record { least = fell-none work; read = omega arith; opened = omega arith; applied = omega arith }
  none_admitted entry (Err cause) = refl

  none_cut : (n : ℕ) (fits : Bool) → FittingCounts machine.observed n fits work work
  none_cut n true = record { files = refl; proofs = refl; least = omega arith; applies = omega arith }
  none_cut n false = refl

  none_flushed : (queued : Bool) → QueueCounts machine queued work work
  none_flushed true = arrivals_none machine.observed (batch_of (limits_now machine.observed) machine.queue).files work
  none_flushed false = refl

  pub none_counted : (read : Result Command LineCause) → LineCounts machine read work work
  none_counted (Ok (Content bytes)) = record { least = fell-none work; read = omega arith; opened = omega arith; applied = omega arith }
  none_counted (Ok (Anchor height text)) =
      none_admitted (record { height = height; text = text }) (admitted machine.observed.ledger height)
  none_counted (Ok (Rollback n)) = none_cut n (nat_le n (length machine.observed.ledger))
  none_counted (Ok (Resolve did)) = record { files = refl; proofs = refl; least = omega arith; applies = omega arith }
  none_counted (Ok (Explain did)) = record { files = refl; proofs = refl; least = omega arith; applies = omega arith }
  none_counted (Ok Wanted) = refl
  none_counted (Ok (Report n)) = refl
  none_counted (Ok (Submit request)) = record { files = refl; least = omega arith; proofs = omega arith; applies = refl }
  none_counted (Ok Flush) = none_flushed (nat_le 1 (length machine.queue))
  none_counted (Err cause) = refl

-- ---- The counts of a node, as a peer's:
--     line_within    the reads of a line are paid by the anchor that it adds, if its reply says that it was accepted
--     file_within    a file that is kept counts only what was due

-- ---- a line adds an entry only if the reply says so

none_comes : (said : ℕ) → 0 ≤ said
none_comes said = omega arith

module _ (machine : Machine) where
  admitted_told : (entry : Entry) (answer : Result Unit LedgerRefused)
      → length (entry_admitted entry answer) ≤ anchors_told (answered_admitted machine entry answer).reply
  admitted_told entry (Ok _) = omega arith
  admitted_told entry (Err cause) = none_comes _

  command_told : (command : Command)
      → length (entry_of_command machine command) ≤ anchors_told (answered_command machine command).reply
  command_told (Content bytes) = none_comes _
  command_told (Anchor height text) =
      admitted_told (record { height = height; text = text }) (admitted machine.observed.ledger height)
  command_told (Rollback n) = none_comes _
  command_told (Resolve did) = none_comes _
  command_told (Explain did) = none_comes _
  command_told Wanted = none_comes _
  command_told (Report n) = none_comes _
  command_told (Submit request) = none_comes _
  command_told Flush = none_comes _

  read_told : (read : Result Command LineCause)
      → length (entry_of_read machine read) ≤ anchors_told (answered_read machine read).reply
  read_told (Ok command) = command_told command
  read_told (Err cause) = none_comes _

  anchor_told : (line : List ℕ) → length (entry_of_line machine line) ≤ anchors_told (answered machine line).reply
  anchor_told line = read_told (command_of line)

-- ---- so it pays for the reads

pub line_within : (machine : Machine) (line : List ℕ) (old new : WorkValue)
    → StaysDue machine.observed (answered machine line).next.observed (entry_of_line machine line) (submitted_by_line line) old new
    → LineDue node_peer machine line old new
line_within machine line old new due =
    record { files = omega (arith, due.files, anchor_told machine line); proofs = omega (arith, due.proofs) }

-- ---- a file that is kept

pub file_within : (machine : Machine) (bytes : List ℕ) (old new : WorkValue) → ArrivalCounts machine.observed bytes old new
    → FileDue node_peer machine bytes old new
file_within machine bytes old new counts =
    let due = arrived_due machine.observed old new bytes counts in
    record { files = omega (arith, due.files); proofs = omega (arith, due.proofs) }
