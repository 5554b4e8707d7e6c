-- A run of a machine with a journal, as properties of the machine alone: its replies, the images of its disk, and its
-- statuses.
use Rattle.std.specs.Prelude.{◌≡◌, ◌⊎◌, ◌==◌, ◌||◌, ◌<◌, ◌^◌, ℕ, Bool, List, ◌++◌, Some, Result, Ok, Err, IfOk, OnOk, OnErr, IsErrOf, IsTrue}
use Rattle.st_base.specs.Answers.{GivesAs}
use Rattle.st_io.specs.Past.{LeftSinceSync, Leaves, Past, StaysAsItWas, Storage}
use Rattle.st_io.specs.Histories.{IfTold, Turns}
use Rattle.st_drive.specs.Lines.{all_lines, GoesWell, Outcome, Tells}
use Rattle.st_drive.specs.OnDisk.{replies, Recorder, EndsReplied, KeepsPrefixes, KeepsRecords, recording}
use Rattle.st_drive.specs.Runs.{Begins, Course}
use Rattle.st_drive.specs.Tables.{AnswersLines, Ends, TakesBytes, is_end, replying}
use Rattle.st_journal.specs.Image.{records, IsOldOrHas, IsReady, JournalValue}
use Rattle.st_journal.specs.Opening.{opened, refusal_of}
use Rattle.st_journal.specs.declared.journal.JournalRefused.{JournalRefused}
use Rattle.st_journal.specs.declared.journal.JournalRefused.TheVariants.{TooLong, Damaged, DiskFault}
use Rattle.st_journal_lines.specs.Answering.{Answering, StayedOrWent, WentOverFirst, behind, behind_opened}

-- the machine records the lines that change it; the end of its journal is left out
abbrev pub plain_recorder : {M C : Type 0} → Answering M C → Recorder M C
plain_recorder answering = record {
  reply = answering.reply;
  next = answering.next;
  changes = answering.changes;
  records = records;
  effect = answering.effect;
}

-- The images of the disk of a run over these lines at each moment; at the start it has the records r, and the machine
-- is the one after them.
abbrev pub KeepsFirstLines : {M C : Type 0} → Answering M C → (m : M) (r lines : List (List ℕ)) (old new : Past) → Type 0
KeepsFirstLines answering m r lines old new = KeepsPrefixes (plain_recorder answering) m r lines old new

-- The images at the end: the records are r and then the changing lines of a prefix that has each line with a written
-- byte of its reply, and at most one more.
abbrev pub KeepsLines : {M C : Type 0} → Answering M C → (m : M) (r lines : List (List ℕ)) (written : List ℕ) (old new : Past) → Type 0
KeepsLines answering m r lines written old new = KeepsRecords (plain_recorder answering) m r lines written old new

-- Those of a run that opened its journal.
abbrev pub EndsLines : {M C : Type 0} → Answering M C → (m : M) (r lines : List (List ℕ)) (written : List ℕ) (new : Past) → Type 0
EndsLines answering m r lines written new = EndsReplied (plain_recorder answering) m r lines written new

-- its replies to lines
abbrev pub replies_by : {M C : Type 0} → Answering M C → M → List (List ℕ) → List ℕ
replies_by answering m lines = replies (recording (plain_recorder answering)) m lines

-- the context is the one after a prefix of these lines, or the machine gave up at the last of them
abbrev pub WentWithin : {M C : Type 0} → Answering M C → (m : M) (c d : C) (lines : List (List ℕ)) → Type 0
WentWithin {M} answering m c d lines =
    (first : List (List ℕ)) × Begins first lines
    × (((n : M) × answering.effect.ran m c first n d) ⊎ answering.effect.gave_up m c first d)

-- The course of a run: it replies as the machine restored from m by the records r, and the context is the one after
-- the records and the lines.
abbrev pub journal_course : {M C : Type 0} → Answering M C → (m : M) (r : List (List ℕ)) (c d : C) → Course
journal_course answering m r c d =
    replying (replies_by answering (behind answering m r)) (λ lines. WentWithin answering m c d (r ++ lines))

-- of a run
abbrev pub is_journal_end : ℕ → Bool
is_journal_end status = is_end status || (status == 7 || status == 8)

-- this status is returned only if the image is refused as a journal for this cause; if it is, the status is this one,
-- or the disk fails, or memory runs out
abbrev pub Refuses : JournalRefused → (image : List ℕ) → (number status : ℕ) → Type 0
Refuses cause image number status =
    (status ≡ number → opened image ≡ Err cause)
    × (opened image ≡ Err cause → (status ≡ number) ⊎ (status ≡ 4) ⊎ (status ≡ 6))

-- ---- the opening

-- Opening the journal of a disk, for the machine m: the machine that its records restore and the end of the journal,
-- or why there is none. The context changes from c to d.
pub record OpensJournal {M C : Type 0} (answering : Answering M C) (m : M) (disk : Storage) (c d : C)
    (result : Result (M × JournalValue) JournalRefused) : Type 0 where
  -- the machine after the records of the disk, or why there is none
  pub gives : IfTold disk.reads (λ old.
      GivesAs (λ lines. lines.0) refusal_of (behind_opened answering m (opened old)) result)
  -- the disk is then ready for its journal, with the same records
  pub ready : IfOk result (λ lines. IsReady lines.1 disk.reads_behind disk.behind)
  pub small : IfOk result (λ lines. lines.1.end < 2 ^ 40)
  pub same : OnOk result (Turns disk.reads disk.reads_behind (λ old new. records new ≡ records old))
  -- the images at each moment, and from the first successful sync on
  pub moments : IfTold disk.reads (λ old. Leaves (IsOldOrHas disk.before (records old)) disk.before disk.behind)
  pub synced : IfTold disk.reads (λ old. (image : List ℕ)
      → LeftSinceSync disk.behind disk.before.now image → records image ≡ records old)
  -- the context is the one after the records
  pub ran : IfTold disk.reads (λ old. (r : List (List ℕ)) → opened old ≡ Ok r
      → IfOk result (λ lines. answering.effect.ran m c r lines.0 d))
  pub gave_up : IfTold disk.reads (λ old. (r : List (List ℕ)) → opened old ≡ Ok r
      → OnErr result (StayedOrWent answering m r c d))
  -- of a refused journal at most the first records were replayed, and of one that is too long none; the disk is
  -- unchanged
  pub within : IfTold disk.reads (λ old. OnErr result (WentOverFirst answering m old c d))
  pub unmoved : IfTold disk.reads (λ old. opened old ≡ Err TooLong → d ≡ c)
  pub refused : IsErrOf result Damaged ⊎ IsErrOf result TooLong
      → StaysAsItWas disk.reads disk.reads_behind disk.before disk.behind
  pub fault : IsErrOf result DiskFault → disk.failed

-- ---- a run

-- The properties of a run whose disk has the records r.
pub record RunFromRecords {M C : Type 0} (answering : Answering M C) (m : M) (limit : ℕ) (run : Outcome C)
    (r : List (List ℕ)) : Type 0 where
  -- the lines of the source are answered by the machine that the records restore
  pub lines : AnswersLines (journal_course answering m r run.context run.context_now) limit run.io run.disk.failed run.status
  -- the images at each moment of the run, and from its first successful sync on
  pub moments : (input : List ℕ) → run.io.had ≡ Some input
      → KeepsFirstLines answering (behind answering m r) r (all_lines input) run.disk.before run.disk.behind
  -- those at the end, for any status: at most one record has no reply
  pub records : (input written : List ℕ) → Tells run.io input written
      → KeepsLines answering (behind answering m r) r (all_lines input) written run.disk.before run.disk.behind
  -- the disk is opened before anything is read or written: if it can't be opened, nothing is; else each image at the
  -- end has the records of such a prefix
  pub opened : (run.io.source_kept × run.io.sink_kept)
      ⊎ ((input written : List ℕ) → Tells run.io input written
      → EndsLines answering (behind answering m r) r (all_lines input) written run.disk.behind)

-- The end of each run of a machine with a journal, for any machine.
pub record JournalEnds {C : Type 0} (limit : ℕ) (run : Outcome C) : Type 0 where
  -- the status is 7 if the journal is damaged, and 8 if it is too long
  pub damaged : IfTold run.disk.reads (λ image. Refuses Damaged image 7 run.status)
  pub too_long : IfTold run.disk.reads (λ image. Refuses TooLong image 8 run.status)
  -- then the contents are unchanged, a stop leaves what it might have left before, and nothing was read or written
  pub refused : (run.status ≡ 7) ⊎ (run.status ≡ 8)
      → StaysAsItWas run.disk.reads run.disk.reads_behind run.disk.before run.disk.behind
  pub unread : (run.status ≡ 7) ⊎ (run.status ≡ 8) → run.io.source_kept × run.io.sink_kept
  -- whatever the disk reveals: the bytes taken, by the status, and how the run ends
  pub took : TakesBytes limit run.io.had run.io.left run.status
  pub ends : Ends run.io run.disk.failed run.status
  -- if nothing fails and the input is within the limit, all is answered, unless memory runs out or the journal is
  -- refused
  pub complete : GoesWell limit run.io → ¬ run.disk.failed
      → (run.status ≡ 0) ⊎ (run.status ≡ 6) ⊎ (run.status ≡ 7) ⊎ (run.status ≡ 8)
  -- 0 and 2 to 8 are the only statuses
  pub statuses : IsTrue (is_journal_end run.status)

-- The properties of each run of a machine with a journal that is m before any record.
pub record RecordedRun {M C : Type 0} (answering : Answering M C) (m : M) (limit : ℕ) (run : Outcome C) : Type 0 where
  pub ends : JournalEnds limit run
  -- if the disk reveals its contents, and has records: what follows from them
  pub from : IfTold run.disk.reads (λ image. (r : List (List ℕ)) → opened image ≡ Ok r → RunFromRecords answering m limit run r)
  -- of a damaged journal at most the first records were replayed, and of one that is too long none, for any status
  pub within : IfTold run.disk.reads (λ image. opened image ≡ Err Damaged → WentOverFirst answering m image run.context run.context_now)
  pub unmoved : IfTold run.disk.reads (λ image. opened image ≡ Err TooLong → run.context_now ≡ run.context)
