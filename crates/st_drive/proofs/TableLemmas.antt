-- Tables of runs:
--     answers_of     all properties of a run, from its table and its end
--     ends_by        its end, by a driver's clauses about its faults
--     ends_weaker    the same with a weaker fault of the disk
--     not_begun      a run that ended before its first read
--     lines_by       a run with one course has another
use Rattle.std.proofs.Common.{◌≡◌, ◌≢◌, ◌∙◌, ◌⊎◌, inl, inr, ◌++◌, ◌+◌, ◌≤◌, ℕ, List, [], ◌∷◌, Result, Ok, Err, length, refl, ap, sym, subst, arith, append-nil, length-append, IsTrue, IfSome, Some, None}
use Rattle.std.proofs.KnownBytes.{Appends-nil, Consumes-nil}
use Rattle.std.specs.Prelude.{true, OnOk, OnErr, IfErr}
use Rattle.std.specs.declared.option.Option.{Option}
use Rattle.std.specs.Io.KnownBytes.{Appends, Consumes, IsAtEnd}
use Rattle.st_io.specs.Past.{Rose, FinishesNothing}
use Rattle.st_drive.specs.declared.machine.Stop.{Stop}
use Rattle.st_drive.specs.declared.machine.Stop.TheVariants.{ReadFault, WriteFault, DeviceFault, OverLimit, WantOfMemory}
use Rattle.st_drive.specs.Lines.{all_lines, GoesWell, Streams}
use Rattle.st_drive.specs.Runs.{Begins, CarriedOut, Course, EndsWithin, NearlyReplied, IsRunStop}
use Rattle.st_drive.specs.inside.Parts.{Unread}
use Rattle.st_drive.specs.Tables.{Answered, AnsweredFirst, AnswersInput, AnswersLines, Ends, RunTable, SoFar, TakesBytes, is_end, status_of}
use Rattle.st_drive.proofs.EndLemmas.{if_some, if_some_map}

-- ---- a whole input

-- if a source that revealed its input is at its end, the input is the bytes taken
all_taken : (input taken : List ℕ) (left : Option (List ℕ)) → Consumes (Some input) left taken → IsAtEnd left
    → (left ≡ Some []) × (taken ≡ input)
all_taken input taken None takes end = absurd takes
all_taken input taken (Some rest) takes end =
    (ap Some end, sym (append-nil taken) ∙ ap (λ more. taken ++ more) (sym end) ∙ sym takes)

-- a property of a value, if there is one
if_is : {X : Type 0} {P : X → Type 0} (o : Option X) → ((x : X) → o ≡ Some x → P x) → IfSome o P
if_is None f = tt
if_is (Some x) f = f x refl

answers_input : {over : Course} {limit : ℕ} {io : Streams} {status : ℕ} → RunTable over limit io status → over.told
    → AnswersInput over limit io status
answers_input {over} {limit} {io} t told is =
    let taken = t.took.taken in
    let end = t.took.done is in
    if_is io.had (λ input had.
    let whole = all_taken input taken io.left (subst (λ had. Consumes had io.left taken) had t.took.takes) end.0 in (
      subst (λ bytes. length bytes ≤ limit) whole.1 end.1,
      whole.0,
      subst (Appends io.held io.holds) ((t.done is).0 told ∙ ap (λ bytes. over.answers (all_lines bytes)) whole.1) t.writes,
    ))

-- ---- if nothing fails

within_input : (input taken : List ℕ) (left : Option (List ℕ)) (limit : ℕ)
    → Consumes (Some input) left taken → length input ≤ limit → length taken ≡ limit + 1 → ⊥
within_input input taken None limit takes fits over = absurd takes
within_input input taken (Some rest) limit takes fits over = omega (arith, fits, over, ap length takes, length-append taken rest)

end_is : (status : ℕ) → IsTrue (is_end status) → status ≢ 2 → status ≢ 3 → status ≢ 4 → status ≢ 5 → (status ≡ 0) ⊎ (status ≡ 6)
end_is status is not_two not_three not_four not_five = search arith

-- if nothing fails and the input is within the limit, the limit isn't exceeded
pub not_over : {limit : ℕ} {io : Streams} {status : ℕ} → TakesBytes limit io.had io.left status → GoesWell limit io → status ≢ 5
not_over {limit} {io} took well five =
    within_input well.input took.taken io.left limit (subst (λ had. Consumes had io.left took.taken) well.had took.takes) well.fits (took.over five)

module _ {limit : ℕ} {io : Streams} {failed : Type 0} {status : ℕ} where
  ends_well : TakesBytes limit io.had io.left status → Ends io failed status → IsTrue (is_end status) → GoesWell limit io → ¬ failed
      → (status ≡ 0) ⊎ (status ≡ 6)
  ends_well took ends is well working =
      end_is status is (λ two. well.read (ends.read_fault two)) (λ three. well.wrote (ends.write_fault three))
      (λ four. working (ends.disk_fault four)) (not_over took well)

  pub answers_of : {over : Course} → RunTable over limit io status → Ends io failed status → IsTrue (is_end status)
      → AnswersLines over limit io failed status
  answers_of table ends is = record {
    table = table;
    done = answers_input table;
    complete = ends_well table.took ends is;
    ends = ends;
    statuses = is;
  }

-- the end of a run, by a driver's clauses about its faults
pub ends_by : {T : Type 0} {io : Streams} {failed : Type 0} (result : Result T Stop) → OnOk result (io.is_finished ≡ true)
    → OnErr result (FinishesNothing io.was_finished io.is_finished) → IfErr result (IsRunStop io.read_failed io.write_failed failed)
    → Ends io failed (status_of result)
ends_by (Ok x) finished unfinished cause = search arith
ends_by (Err ReadFault) finished unfinished cause = search arith
ends_by (Err WriteFault) finished unfinished cause = search arith
ends_by (Err DeviceFault) finished unfinished cause = search arith
ends_by (Err OverLimit) finished unfinished cause = search arith
ends_by (Err WantOfMemory) finished unfinished cause = search arith

-- a count that rose later has risen
pub rose_before : (a b c : ℕ) → a ≤ b → Rose b c → Rose a c
rose_before a b c le rose = search arith

-- the same with a weaker fault of the disk
pub ends_weaker : {io : Streams} {failed fails : Type 0} {status : ℕ} → (failed → fails) → Ends io failed status → Ends io fails status
ends_weaker fault ends = record {
  finished = ends.finished;
  unfinished = ends.unfinished;
  read_fault = ends.read_fault;
  write_fault = ends.write_fault;
  disk_fault = λ four. fault (ends.disk_fault four);
}

-- ---- nothing was read or written

-- the status of a run that ended like this
pub record IsUnread (failed : Type 0) (status : ℕ) : Type 0 where
  pub late : 3 ≤ status
  pub no_write : status ≡ 3 → ⊥
  pub within : status ≡ 5 → ⊥
  pub disk_fault : status ≡ 4 → failed

-- no line was answered
none_first : (over : Course) → over.ran_over [] → (over.told → over.answers [] ≡ []) → (lines : List (List ℕ)) → AnsweredFirst over [] lines
none_first over none silent lines = record {
  answered = [];
  later = lines;
  all = refl;
  replies = λ told. (over.answers [], refl);
  context = inl (none, λ now told. inl ([], ap (λ xs. xs ++ []) (silent told)));
}

module _ {io : Streams} {failed : Type 0} {status : ℕ} (is : IsUnread failed status) (unread : Unread io) where
  -- nothing was taken then
  pub took_none : {limit : ℕ} → TakesBytes limit io.had io.left status
  took_none = record {
    taken = [];
    takes = subst (λ left. Consumes io.had left []) (sym unread.left_is) (Consumes-nil io.had);
    done = λ e. let late = is.late in absurd (omega arith);
    over = λ e. absurd (is.within e);
    bound = omega arith;
    exceeds = λ e. absurd (omega arith);
  }

  pub ends_unread : Ends io failed status
  ends_unread = record {
    finished = λ e. let late = is.late in absurd (omega arith);
    unfinished = λ no finished. sym unread.finished_is ∙ finished;
    read_fault = λ e. let late = is.late in absurd (omega arith);
    write_fault = λ e. absurd (is.no_write e);
    disk_fault = is.disk_fault;
  }

  pub not_begun : {limit : ℕ} (over : Course) → over.ran_over [] → (over.told → over.answers [] ≡ [])
      → IsTrue (is_end status) → AnswersLines over limit io failed status
  unfolding took_none
  not_begun over none silent = answers_of (record {
    took = took_none;
    written = [];
    writes = subst (λ holds. Appends io.held holds []) (sym unread.holds_is) (Appends-nil io.held);
    done = λ e. let late = is.late in absurd (omega arith);
    read_fault = λ e. let late = is.late in absurd (omega arith);
    over = λ e. absurd (is.within e);
    so_far = record {
      of_taken = none_first over none silent [];
      of_all = if_some io.left (λ rest. none_first over none silent (all_lines rest));
      all_replies = if_some io.left (λ rest told. (over.answers (all_lines rest), refl));
    };
  }) ends_unread

-- ---- another course

-- a property with one course is one with another: it has the same replies, if these are revealed, is prompt only if
-- that is, and says no more about the context
pub record Follows (one other : Course) : Type 0 where
  pub told : other.told → one.told
  pub prompt : other.prompt → one.prompt
  pub answers : other.told → (lines : List (List ℕ)) → one.answers lines ≡ other.answers lines
  pub ran_over : (lines : List (List ℕ)) → one.ran_over lines → other.ran_over lines
  pub gave_up_over : (lines : List (List ℕ)) → one.gave_up_over lines → other.gave_up_over lines

module _ {one other : Course} (follows : Follows one other) where
  answered_by : (written : List ℕ) (lines : List (List ℕ)) → Answered one written lines → Answered other written lines
  answered_by written lines answered = (λ told. answered.0 (follows.told told) ∙ follows.answers told lines, follows.ran_over lines answered.1)

  nearly_by : other.told → (written : List ℕ) (lines : List (List ℕ)) → NearlyReplied one.answers written lines → NearlyReplied other.answers written lines
  nearly_by told written lines (inl all) = inl (subst (λ xs. Begins xs written) (follows.answers told lines) all)
  nearly_by told written lines (inr r) = inr (r.0, r.1, r.2, subst (λ xs. Begins xs written) (follows.answers told r.0) r.3)

  carried_by : (written : List ℕ) (over then : List (List ℕ) → Type 0) (lines : List (List ℕ)) → (over lines → then lines)
      → CarriedOut one.told one.prompt one.answers written over lines → CarriedOut other.told other.prompt other.answers written then lines
  carried_by written over then lines f out = (
    f out.0,
    λ now told. nearly_by told written lines (out.1 (follows.prompt now) (follows.told told)),
  )

  ends_within_by : (written : List ℕ) (answered later : List (List ℕ))
      → EndsWithin (CarriedOut one.told one.prompt one.answers written one.ran_over)
      (CarriedOut one.told one.prompt one.answers written one.gave_up_over) answered later
      → EndsWithin (CarriedOut other.told other.prompt other.answers written other.ran_over)
      (CarriedOut other.told other.prompt other.answers written other.gave_up_over) answered later
  ends_within_by written answered later (inl ran) = inl (carried_by written one.ran_over other.ran_over answered (follows.ran_over answered) ran)
  ends_within_by written answered later (inr gave) =
      let all = answered ++ gave.0 ∷ [] in
      inr (gave.0, gave.1, gave.2, carried_by written one.gave_up_over other.gave_up_over all (follows.gave_up_over all) gave.3)

  first_by : (written : List ℕ) (lines : List (List ℕ)) → AnsweredFirst one written lines → AnsweredFirst other written lines
  first_by written lines first = record {
    answered = first.answered;
    later = first.later;
    all = first.all;
    replies = λ told. subst (Begins written) (follows.answers told first.answered) (first.replies (follows.told told));
    context = ends_within_by written first.answered first.later first.context;
  }

  so_far_by : (left : Option (List ℕ)) (taken written : List ℕ) → SoFar one left taken written → SoFar other left taken written
  so_far_by left taken written so_far = record {
    of_taken = first_by written (all_lines taken) so_far.of_taken;
    of_all = if_some_map left so_far.of_all (λ rest first. first_by written (all_lines (taken ++ rest)) first);
    all_replies = if_some_map left so_far.all_replies
        (λ rest begins told. subst (Begins written) (follows.answers told (all_lines (taken ++ rest))) (begins (follows.told told)));
  }

  table_by : {limit : ℕ} {io : Streams} {status : ℕ} → RunTable one limit io status → RunTable other limit io status
  table_by {io = io} t = record {
    took = t.took;
    written = t.written;
    writes = t.writes;
    done = λ is. answered_by t.written _ (t.done is);
    read_fault = λ is. answered_by t.written _ (t.read_fault is);
    over = λ is. answered_by t.written _ (t.over is);
    so_far = so_far_by io.left t.took.taken t.written t.so_far;
  }

  -- the fault of the disk may be a weaker one too
  pub lines_by : {limit : ℕ} {io : Streams} {failed fails : Type 0} {status : ℕ} → (failed → fails)
      → AnswersLines one limit io failed status → AnswersLines other limit io fails status
  lines_by fault lines = answers_of (table_by lines.table) (ends_weaker fault lines.ends) lines.statuses
