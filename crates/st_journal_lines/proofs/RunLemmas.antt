-- A run of a machine with its journal, from before its disk is opened:
--     replies_are     the end of the journal makes no difference to replies
--     opened_run      the properties if the journal was opened
--     refused_run     and if it wasn't
use Rattle.std.proofs.Common.{◌≡◌, ◌∙◌, inl, inr, ⊎_elim, ◌++◌, ◌≤◌, ℕ, Bool, true, false, List, [], ◌∷◌, Some, Ok, Err, is_some, refl, ap, sym, subst, arith, length, append-nil, ◌⊎◌, IsTrue, ◌||◌}
use Rattle.std.proofs.lemmas.Bool.{false≢true}
use Rattle.std.specs.Prelude.{IsErrOf}
use Rattle.st_io.specs.Past.{Rose, Past, Storage, storage}
use Rattle.st_journal.specs.Image.{records, JournalValue}
use Rattle.st_journal.specs.Opening.{opened}
use Rattle.st_journal.specs.declared.journal.JournalRefused.{JournalRefused}
use Rattle.st_journal.specs.declared.journal.JournalRefused.TheVariants.{TooLong, Damaged, DiskFault, WantOfMemory}
use Rattle.st_drive.proofs.LineLemmas.{answered_input, answered_source, nothing_written}
use Rattle.st_drive.proofs.OnDiskLemmas.{leaves_on_disk, run_leaves, run_opens, ends_replied, keeps_prefixes, keeps_records}
use Rattle.st_drive.proofs.TableLemmas.{IsUnread, ends_unread, ends_weaker, lines_by, not_begun, rose_before, took_none}
use Rattle.st_drive.specs.Lines.{all_lines, Outcome, Streams}
use Rattle.st_drive.specs.OnDisk.{AllHold, EffectLaws, HasReleased, IsTold, Store, disk_meaning, replies, EndsReplied, HasPrefix, HasRepliedPrefix, KeepsPrefixes, KeepsRecords, changing, recorded, recording}
use Rattle.st_drive.specs.Runs.{Begins, NearlyReplied, course}
use Rattle.st_drive.specs.Tables.{AnsweredFirst, AnswersLines, is_end}
use Rattle.st_drive.specs.inside.OnDisk.{LeavesOnDisk, Opens, RunLeaves}
use Rattle.st_drive.specs.inside.Parts.{Unread}
use Rattle.st_journal_lines.proofs.ReplayLemmas.{damaged_is, machine_is, no_end, not_refused, opened_records, too_long_is, within_records}
use Rattle.st_journal_lines.specs.Answering.{Answering, behind, grown, recorder_of, Idles}
use Rattle.st_journal_lines.specs.Journalled.{EndsLines, RunFromRecords, RecordedRun, KeepsFirstLines, KeepsLines, OpensJournal, Refuses, WentWithin, is_journal_end, journal_course, plain_recorder}
use Rattle.st_journal_lines.specs.inside.Journalled.{refusal_status}

-- the statuses of a run over lines are among those of a run with a journal
or_left : (a b : Bool) → IsTrue a → IsTrue (a || b)
or_left true b is = refl
or_left false b is = absurd (false≢true is)

module _ {M C : Type 0} (answering : Answering M C) where
  -- ---- the end of the journal makes no difference

  pub replies_are : (m : M) (journal : JournalValue) (lines : List (List ℕ))
      → replies (recording (recorder_of answering)) (m, journal) lines ≡ replies (recording (plain_recorder answering)) m lines
  replies_are m journal [] = refl
  replies_are m journal (line ∷ lines) =
      ap (λ more. answering.reply m line ++ more) (replies_are (answering.next m line) (grown (answering.changes m line) journal line) lines)

  changing_are : (m : M) (journal : JournalValue) (lines : List (List ℕ))
      → changing (recorder_of answering) (m, journal) lines ≡ changing (plain_recorder answering) m lines
  changing_are m journal [] = refl
  changing_are m journal (line ∷ lines) =
      ap (λ more. recorded (answering.changes m line) line ++ more)
      (changing_are (answering.next m line) (grown (answering.changes m line) journal line) lines)

  module _ (m : M) (journal : JournalValue) (r lines : List (List ℕ)) where
    plain_prefix : (image : List ℕ) → HasPrefix (recorder_of answering) (m, journal) r lines image
        → HasPrefix (plain_recorder answering) m r lines image
    plain_prefix image has = (has.0, has.1, has.2 ∙ ap (λ more. Some (r ++ more)) (changing_are m journal has.0))

    plain_released : (written : List ℕ) (first : List (List ℕ)) → HasReleased (recording (recorder_of answering)) (m, journal) lines written first
        → HasReleased (recording (plain_recorder answering)) m lines written first
    plain_released written first has before line later all out =
        has before line later all (omega (arith, out, ap length (replies_are m journal before)))

    plain_nearly : (written : List ℕ) (first : List (List ℕ)) → NearlyReplied (replies (recording (recorder_of answering)) (m, journal)) written first
        → NearlyReplied (replies (recording (plain_recorder answering)) m) written first
    plain_nearly written first (inl all) = inl (subst (λ xs. Begins xs written) (replies_are m journal first) all)
    plain_nearly written first (inr r) = inr (r.0, r.1, r.2, subst (λ xs. Begins xs written) (replies_are m journal r.0) r.3)

    plain_prefixes : (old new : Past) → KeepsPrefixes (recorder_of answering) (m, journal) r lines old new
        → KeepsFirstLines answering m r lines old new
    plain_prefixes old new keeps = record {
      moments = λ image left. ⊎_elim inl (λ has. inr (plain_prefix image has)) (keeps.moments image left);
      synced = λ image left. plain_prefix image (keeps.synced image left);
    }

    plain_replied : (written image : List ℕ) → HasRepliedPrefix (recorder_of answering) (m, journal) r lines written image
        → HasRepliedPrefix (plain_recorder answering) m r lines written image
    plain_replied written image has = record {
      prefix = has.prefix;
      begins = has.begins;
      released = plain_released written has.prefix has.released;
      replied = plain_nearly written has.prefix has.replied;
      records_are = has.records_are ∙ ap (λ more. Some (r ++ more)) (changing_are m journal has.prefix);
    }

    plain_keeps : (written : List ℕ) (old new : Past) → KeepsRecords (recorder_of answering) (m, journal) r lines written old new
        → KeepsLines answering m r lines written old new
    plain_keeps written old new keeps image is = ⊎_elim inl (λ has. inr (plain_replied written image has)) (keeps image is)

    plain_ends : (written : List ℕ) (new : Past) → EndsReplied (recorder_of answering) (m, journal) r lines written new
        → EndsLines answering m r lines written new
    plain_ends written new ends image is = plain_replied written image (ends image is)

  -- ---- the opening

  module _ {m : M} {disk : Storage} {c d : C} {result : _} (opens : OpensJournal answering m disk c d result) {image : List ℕ}
      (told : disk.reads ≡ Some image) {r : List (List ℕ)} (is : records image ≡ Some r) where
    opens_rules : Opens (recording (recorder_of answering)) r disk.before disk.behind
    opens_rules =
        let moments = opens.moments image told in
        record {
          goes = moments.goes;
          moments = λ x left. ⊎_elim inl (λ has. inr (has ∙ is)) (moments.each x left);
          synced = λ x left. opens.synced image told x left ∙ is;
        }

  -- the context is the one after the records, and the machine the one that they restore
  within_none : (m : M) (r : List (List ℕ)) {c d : C} → WentWithin answering m c d r → WentWithin answering m c d (r ++ [])
  within_none m r within = (within.0, subst (Begins within.0) (sym (append-nil r)) within.1, within.2)

  -- ---- the journal was opened, and lines were answered

  module _ {cap : ℕ} (effects : EffectLaws answering.effect cap) {D : Type 0} (store : Store D) (faults : D → ℕ) {m : M} {a b d : D} {c mid e : C}
      {limit : ℕ} {io : Streams} {status : ℕ} {lines : M × JournalValue}
      (opens : OpensJournal answering m (storage store.reads store.past faults a b) c mid (Ok lines)) (later : faults a ≤ faults b)
      (answered : AnswersLines (course (disk_meaning (recording (recorder_of answering)) store) lines (mid, b) (e, d)) limit io (Rose (faults b) (faults d)) status) where
    left_on_disk : {image : List ℕ} → store.reads a ≡ Some image → {r : List (List ℕ)} → records image ≡ Some r → (over : List (List ℕ)) (written : List ℕ)
        → AnsweredFirst (course (disk_meaning (recording (recorder_of answering)) store) lines (mid, b) (e, d)) written over
        → LeavesOnDisk (recording (recorder_of answering)) lines r over written (store.past b) (store.past d)
    left_on_disk {image} told {r} is over written first =
        let to = opens.same.forward image told in
        let still : IsTold store b = ap is_some to.1 in
        let all : AllHold (recording (recorder_of answering)) r (store.past b) = λ x left. (opens.ready.images to.0 to.1 x left).1 ∙ to.2 ∙ is in
        leaves_on_disk (recording (recorder_of answering)) store still first r all

    left_some : {image : List ℕ} → store.reads a ≡ Some image → {r : List (List ℕ)} → records image ≡ Some r → (over : List (List ℕ)) (written : List ℕ)
        → AnsweredFirst (course (disk_meaning (recording (recorder_of answering)) store) lines (mid, b) (e, d)) written over
        → RunLeaves (recording (recorder_of answering)) lines r over written (store.past a) (store.past d)
    left_some {image} told {r} is over written first =
        run_leaves (recording (recorder_of answering)) lines r over written (store.past a) (store.past b) (store.past d)
        (opens_rules opens told is) (left_on_disk told is over written first)

    -- the context is the one after the records and the lines
    within_more : (r : List (List ℕ)) → answering.effect.ran m c r lines.0 mid → (over : List (List ℕ))
        → ((o : M) × answering.effect.ran lines.0 mid over o e) ⊎ answering.effect.gave_up lines.0 mid over e → WentWithin answering m c e (r ++ over)
    within_more r ran over went = (
      r ++ over,
      ([], append-nil (r ++ over)),
      ⊎_elim
          (λ some. inl (some.0, effects.ran_more m lines.0 some.0 c mid e r over ran some.1))
          (λ gave. inr (effects.gave_up_more m lines.0 c mid e r over ran gave))
          went,
    )

    from_opened : {image : List ℕ} → store.reads a ≡ Some image → (r : List (List ℕ)) → opened image ≡ Ok r
        → RunFromRecords answering m limit
        (record { io = io; disk = storage store.reads store.past faults a d; context = c; context_now = e; status = status }) r
    from_opened {image} told r is =
        let has = opened_records image r is in
        let same : lines.0 ≡ behind answering m r = machine_is answering m image lines.0 r (opens.gives image told) is in
        let ran = opens.ran image told r is in
        record {
          lines = lines_by (record {
            told = λ t. ap is_some (opens.same.forward image told).1;
            prompt = λ never. absurd never;
            answers = λ t ls. replies_are lines.0 lines.1 ls ∙ ap (λ n. replies (recording (plain_recorder answering)) n ls) same;
            ran_over = λ ls went. within_more r ran ls (inl (went.0.0, went.1.effect));
            gave_up_over = λ ls gave. within_more r ran ls (inr gave.effect);
          }) (rose_before (faults a) (faults b) (faults d) later) answered;
          moments = λ input had. subst (λ n. KeepsFirstLines answering n r (all_lines input) (store.past a) (store.past d)) same
              (plain_prefixes lines.0 lines.1 r (all_lines input) (store.past a) (store.past d)
              (keeps_prefixes (recorder_of answering) lines r (all_lines input) answered.table.written (store.past a) (store.past d)
              (left_some told has (all_lines input) answered.table.written (answered_source answered.table had))));
          records = λ input written tells. subst (λ n. KeepsLines answering n r (all_lines input) written (store.past a) (store.past d)) same
              (plain_keeps lines.0 lines.1 r (all_lines input) written (store.past a) (store.past d)
              (keeps_records (recorder_of answering) lines r (all_lines input) written (store.past a) (store.past d)
              (left_some told has (all_lines input) written (answered_input answered.table tells))));
          opened = inr (λ input written tells. subst (λ n. EndsLines answering n r (all_lines input) written (store.past d)) same
              (plain_ends lines.0 lines.1 r (all_lines input) written (store.past d)
              (ends_replied (recorder_of answering) lines r (all_lines input) written (store.past b) (store.past d)
              (left_on_disk told has (all_lines input) written (answered_input answered.table tells)))));
        }

    pub opened_run : RecordedRun answering m limit
        (record { io = io; disk = storage store.reads store.past faults a d; context = c; context_now = e; status = status })
    opened_run =
        let rose = rose_before (faults a) (faults b) (faults d) later in
        record {
          ends = record {
            damaged = λ image told. (
              λ seven. absurd (no_end status 7 answered.statuses refl seven),
              λ is. absurd (not_refused answering m image lines.0 Damaged (opens.gives image told) is),
            );
            too_long = λ image told. (
              λ eight. absurd (no_end status 8 answered.statuses refl eight),
              λ is. absurd (not_refused answering m image lines.0 TooLong (opens.gives image told) is),
            );
            refused = λ is. absurd (⊎_elim (no_end status 7 answered.statuses refl) (no_end status 8 answered.statuses refl) is);
            unread = λ is. absurd (⊎_elim (no_end status 7 answered.statuses refl) (no_end status 8 answered.statuses refl) is);
            took = answered.table.took;
            ends = ends_weaker rose answered.ends;
            complete = λ well working. ⊎_elim inl (λ six. inr (inl six)) (answered.complete well (λ fault. working (rose fault)));
            statuses = or_left (is_end status) _ answered.statuses;
          };
          from = λ image told. from_opened told;
          within = λ image told is. absurd (not_refused answering m image lines.0 Damaged (opens.gives image told) is);
          unmoved = λ image told is. absurd (not_refused answering m image lines.0 TooLong (opens.gives image told) is);
        }

  -- ---- it was refused, or the disk failed, or memory ran out

  module _ {m : M} {limit : ℕ} {run : Outcome C} {refused : JournalRefused} (opens : OpensJournal answering m run.disk run.context run.context_now (Err refused))
      (unread : Unread run.io) (kept : run.io.source_kept × run.io.sink_kept) where
    -- there is no machine, and the context is the one after at most the records
    from_refused : {cap : ℕ} → EffectLaws answering.effect cap → IsUnread run.disk.failed run.status → IsTrue (is_end run.status)
        → {image : List ℕ} → run.disk.reads ≡ Some image → (r : List (List ℕ)) → opened image ≡ Ok r → RunFromRecords answering m limit run r
    from_refused effects late end {image} told r is =
        let went = within_none m r (within_records answering m r effects (opens.gave_up image told r is)) in
        let none = λ (input : List ℕ). run_opens (recording (recorder_of answering)) (behind answering m r, record { end = 0 }) r (all_lines input)
        run.disk.before run.disk.behind (opens_rules opens told (opened_records image r is)) in
        record {
          lines = not_begun late unread (journal_course answering m r run.context run.context_now) went (λ t. refl) end;
          moments = λ input had. plain_prefixes (behind answering m r) (record { end = 0 }) r (all_lines input) run.disk.before run.disk.behind
              (keeps_prefixes (recorder_of answering) (behind answering m r, record { end = 0 }) r (all_lines input) [] run.disk.before run.disk.behind (none input));
          records = λ input written tells. subst (λ w. KeepsLines answering (behind answering m r) r (all_lines input) w run.disk.before run.disk.behind)
              (sym (nothing_written tells unread.holds_is))
              (plain_keeps (behind answering m r) (record { end = 0 }) r (all_lines input) [] run.disk.before run.disk.behind
              (keeps_records (recorder_of answering) (behind answering m r, record { end = 0 }) r (all_lines input) [] run.disk.before run.disk.behind (none input)));
          opened = inl kept;
        }

    -- all except the properties from the cause and the status
    refused_with : IsUnread run.disk.failed run.status
        → ((image : List ℕ) → run.disk.reads ≡ Some image → (r : List (List ℕ)) → opened image ≡ Ok r → RunFromRecords answering m limit run r)
        → ((image : List ℕ) → run.disk.reads ≡ Some image → Refuses Damaged image 7 run.status × Refuses TooLong image 8 run.status)
        → ((run.status ≡ 7) ⊎ (run.status ≡ 8) → IsErrOf {T = M × JournalValue} (Err refused) Damaged ⊎ IsErrOf {T = M × JournalValue} (Err refused) TooLong)
        → (¬ run.disk.failed → (run.status ≡ 6) ⊎ (run.status ≡ 7) ⊎ (run.status ≡ 8)) → IsTrue (is_journal_end run.status)
        → RecordedRun answering m limit run
    refused_with late from refuses is complete end = record {
      ends = record {
        damaged = λ image told. (refuses image told).0;
        too_long = λ image told. (refuses image told).1;
        refused = λ e. opens.refused (is e);
        unread = λ e. kept;
        took = took_none late unread;
        ends = ends_unread late unread;
        complete = λ well working. inr (complete working);
        statuses = end;
      };
      from = from;
      within = λ image told e. opens.within image told;
      unmoved = opens.unmoved;
    }

  -- a run whose journal is refused reads and writes nothing
  pub record IsRefused (m : M) (run : Outcome C) (refused : JournalRefused) : Type 0 where
    pub opens : OpensJournal answering m run.disk run.context run.context_now (Err refused)
    pub unread : Unread run.io
    pub kept : run.io.source_kept × run.io.sink_kept
    pub status : run.status ≡ refusal_status refused

  pub refused_run : {cap : ℕ} → EffectLaws answering.effect cap → {m : M} {limit : ℕ} {run : Outcome C} (refused : JournalRefused)
      → IsRefused m run refused → RecordedRun answering m limit run
  refused_run effects {m} {limit} {run} DiskFault is =
      let failed = is.opens.fault refl in
      let late : IsUnread run.disk.failed run.status = search arith in
      refused_with is.opens is.unread is.kept late
      (λ image told r has. from_refused is.opens is.unread is.kept effects late (subst (λ s. IsTrue (is_end s)) (sym is.status) refl) told r has)
      (λ image told. search arith) (λ e. absurd (search arith)) (λ working. absurd (working failed))
      (subst (λ s. IsTrue (is_journal_end s)) (sym is.status) refl)
  refused_run effects {m} {limit} {run} WantOfMemory is =
      let late : IsUnread run.disk.failed run.status = search arith in
      refused_with is.opens is.unread is.kept late
      (λ image told r has. from_refused is.opens is.unread is.kept effects late (subst (λ s. IsTrue (is_end s)) (sym is.status) refl) told r has)
      (λ image told. search arith) (λ e. absurd (search arith)) (λ working. inl is.status)
      (subst (λ s. IsTrue (is_journal_end s)) (sym is.status) refl)
  refused_run effects {m} {limit} {run} Damaged is =
      let damaged = λ (image : List ℕ) (told : run.disk.reads ≡ Some image). damaged_is answering m image Damaged (is.opens.gives image told) refl in
      refused_with is.opens is.unread is.kept (search arith) (λ image told r has. absurd (let other = sym (damaged image told) ∙ has in cc))
      (λ image told. (
        (λ e. damaged image told, λ e. inl is.status),
        (λ e. absurd (omega (arith, is.status, e)), λ e. absurd (let other = sym (damaged image told) ∙ e in cc)),
      ))
      (λ e. inl refl) (λ working. inr (inl is.status)) (subst (λ s. IsTrue (is_journal_end s)) (sym is.status) refl)
  refused_run effects {m} {limit} {run} TooLong is =
      let too_long = λ (image : List ℕ) (told : run.disk.reads ≡ Some image). too_long_is answering m image TooLong (is.opens.gives image told) refl in
      refused_with is.opens is.unread is.kept (search arith) (λ image told r has. absurd (let other = sym (too_long image told) ∙ has in cc))
      (λ image told. (
        (λ e. absurd (omega (arith, is.status, e)), λ e. absurd (let other = sym (too_long image told) ∙ e in cc)),
        (λ e. too_long image told, λ e. inl is.status),
      ))
      (λ e. inr refl) (λ working. inr (inr is.status)) (subst (λ s. IsTrue (is_journal_end s)) (sym is.status) refl)

-- ---- The machine that a journal restores is the one after all lines, also those that aren't recorded.

module _ {M C : Type 0} (answering : Answering M C) where
  pub behind_more : (m : M) (first more : List (List ℕ)) → behind answering m (first ++ more) ≡ behind answering (behind answering m first) more
  behind_more m [] more = refl
  behind_more m (line ∷ first) more = behind_more (answering.next m line) first more

  module _ {S : Type 0} {start : S → M} {good : M → Type 0} (idles : Idles answering start good) where
    stays_good : (m : M) (lines : List (List ℕ)) → good m → good (behind answering m lines)
    stays_good m [] is = is
    stays_good m (line ∷ lines) is = stays_good (answering.next m line) lines (idles.stays m line is)

    -- a line, if it is recorded
    one_changing : (m : M) (line : List ℕ) (changes : Bool) → good m → answering.changes m line ≡ changes
        → behind answering m (recorded changes line) ≡ answering.next m line
    one_changing m line true is told = refl
    one_changing m line false is told = sym (idles.idle m line is told)

    changing_behind : (m : M) (lines : List (List ℕ)) → good m
        → behind answering m (changing (plain_recorder answering) m lines) ≡ behind answering m lines
    changing_behind m [] is = refl
    changing_behind m (line ∷ lines) is =
        let more = changing (plain_recorder answering) (answering.next m line) lines in
        behind_more m (recorded (answering.changes m line) line) more
        ∙ ap (λ n. behind answering n more) (one_changing m line (answering.changes m line) is refl)
        ∙ changing_behind (answering.next m line) lines (idles.stays m line is)

    pub journal_back : (seed : S) (r lines : List (List ℕ))
        → behind answering (start seed) (r ++ changing (plain_recorder answering) (behind answering (start seed) r) lines)
        ≡ behind answering (start seed) (r ++ lines)
    journal_back seed r lines =
        let m = behind answering (start seed) r in
        behind_more (start seed) r (changing (plain_recorder answering) m lines)
        ∙ changing_behind m lines (stays_good (start seed) r (idles.starts seed))
        ∙ sym (behind_more (start seed) r lines)
