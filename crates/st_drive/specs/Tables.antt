-- The end of a run over lines: the status, and by status the bytes taken from its source and written to its sink, and
-- its effect on its context.
use Rattle.std.specs.Io.KnownBytes.{Consumes, Appends, IsAtEnd}
use Rattle.std.specs.Prelude.{◌≡◌, ◌≢◌, ◌==◌, ◌||◌, ◌⊎◌, ⊤, Bool, true, ℕ, ◌+◌, ◌≤◌, List, [], ◌++◌, length, take, Result, Ok, Err, Some, IsTrue, IfSome, ◌∷◌, Contains}
use Rattle.std.specs.declared.option.Option.{Option}
use Rattle.st_io.specs.Past.{FinishesNothing}
use Rattle.st_drive.specs.Lines.{all_lines, whole_lines, GoesWell, Streams}
use Rattle.st_drive.specs.Runs.{Begins, CarriedOut, Course, EndsWithin}
use Rattle.st_drive.specs.declared.machine.Stop.{Stop}
use Rattle.st_drive.specs.declared.machine.Stop.TheVariants.{ReadFault, WriteFault, DeviceFault, OverLimit, WantOfMemory}

-- ---- the status

-- of a run that was stopped for this reason
abbrev pub status_by : Stop → ℕ
status_by ReadFault = 2
status_by WriteFault = 3
status_by DeviceFault = 4
status_by OverLimit = 5
status_by WantOfMemory = 6

-- of a run with this result
abbrev pub status_of : {T : Type 0} → Result T Stop → ℕ
status_of (Ok x) = 0
status_of (Err stop) = status_by stop

-- the statuses of a run over lines
abbrev pub is_end : ℕ → Bool
is_end status = status == 0 || (status == 2 || (status == 3 || (status == 4 || (status == 5 || status == 6))))

-- the end of a run: the sink is finished at status 0, and under every other only if it was before; a fault has its
-- cause
pub record Ends (io : Streams) (disk_failed : Type 0) (status : ℕ) : Type 0 where
  pub finished : status ≡ 0 → io.is_finished ≡ true
  pub unfinished : status ≢ 0 → FinishesNothing io.was_finished io.is_finished
  pub read_fault : status ≡ 2 → io.read_failed
  pub write_fault : status ≡ 3 → io.write_failed
  pub disk_fault : status ≡ 4 → disk_failed

-- ---- the lines that were answered

-- a run with these replies to lines, and with this property of the context after lines; when replies are written
-- isn't said
abbrev pub replying : (answers : List (List ℕ) → List ℕ) → (counts : List (List ℕ) → Type 0) → Course
replying answers counts = record { told = ⊤; prompt = ⊥; answers = answers; ran_over = counts; gave_up_over = counts }

-- exactly these lines were answered: all the replies were written, if they are revealed, and the context is the one
-- after all these lines
abbrev pub Answered : Course → (written : List ℕ) (lines : List (List ℕ)) → Type 0
Answered course written lines = (course.told → written ≡ course.answers lines) × course.ran_over lines

-- a prefix of these lines was answered, and the machine may have given up at the next one
pub record AnsweredFirst (course : Course) (written : List ℕ) (lines : List (List ℕ)) : Type 0 where
  -- the lines that were answered, and the others
  pub answered : List (List ℕ)
  pub later : List (List ℕ)
  pub all : answered ++ later ≡ lines
  -- the written bytes are a prefix of the replies to the answered lines
  pub replies : course.told → Begins written (course.answers answered)
  -- The context is the one after the answered lines, or after the next one too, if the machine gave up there. If it
  -- is prompt, at most the last of these has no written reply.
  pub context : EndsWithin (CarriedOut course.told course.prompt course.answers written course.ran_over)
      (CarriedOut course.told course.prompt course.answers written course.gave_up_over) answered later

-- the properties of a run at its end, for any result
pub record SoFar (course : Course) (left : Option (List ℕ)) (taken written : List ℕ) : Type 0 where
  -- a prefix of the lines of the taken bytes was answered
  pub of_taken : AnsweredFirst course written (all_lines taken)
  -- also of all lines of the source
  pub of_all : IfSome left (λ rest. AnsweredFirst course written (all_lines (taken ++ rest)))
  -- the written bytes are a prefix of the replies to all lines of the source
  pub all_replies : IfSome left (λ rest. course.told → Begins written (course.answers (all_lines (taken ++ rest))))

-- ---- the table of a run

-- the bytes that a run has taken, by its status, for any answers
pub record TakesBytes (limit : ℕ) (had left : Option (List ℕ)) (status : ℕ) : Type 0 where
  pub taken : List ℕ
  pub takes : Consumes had left taken
  -- 0: nothing remains of the source
  pub done : status ≡ 0 → IsAtEnd left × (length taken ≤ limit)
  -- 5: one byte over the limit was taken
  pub over : status ≡ 5 → length taken ≡ limit + 1
  -- at most one byte over the limit is taken, and a run that takes it ends with 5, except for a fault of the sink or
  -- a device and for running out of memory
  pub bound : length taken ≤ limit + 1
  pub exceeds : length taken ≡ limit + 1 → (status ≡ 5) ⊎ (status ≡ 3) ⊎ (status ≡ 4) ⊎ (status ≡ 6)

-- the bytes taken and written and the effect on its context, by its status
pub record RunTable (course : Course) (limit : ℕ) (io : Streams) (status : ℕ) : Type 0 where
  pub took : TakesBytes limit io.had io.left status
  pub written : List ℕ
  pub writes : Appends io.held io.holds written
  -- 0: all lines were answered
  pub done : status ≡ 0 → Answered course written (all_lines took.taken)
  -- 2: the whole lines of the taken bytes were answered
  pub read_fault : status ≡ 2 → Answered course written (whole_lines took.taken)
  -- 5: the whole lines before the limit were answered
  pub over : status ≡ 5 → Answered course written (whole_lines (take limit took.taken))
  -- for any status, a prefix of the lines was answered, and a prefix of the replies is written
  pub so_far : SoFar course io.left took.taken written

-- ---- consequences for a whole input

-- at status 0 the whole input was read, which is within the limit, and the replies to all its lines are written
abbrev pub AnswersInput : Course → (limit : ℕ) → Streams → (status : ℕ) → Type 0
AnswersInput course limit io status = status ≡ 0 → IfSome io.had (λ input.
    (length input ≤ limit) × (io.left ≡ Some []) × Appends io.held io.holds (course.answers (all_lines input)))

-- All properties of a run that answers the lines of a source of at most `limit` bytes. If it uses no disk,
-- `disk_failed` is ⊥, and status 4 never occurs.
pub record AnswersLines (course : Course) (limit : ℕ) (io : Streams) (disk_failed : Type 0) (status : ℕ) : Type 0 where
  -- the bytes taken and written, and the lines that the context follows, by the status
  pub table : RunTable course limit io status
  -- at status 0 the replies to the whole input are written
  pub done : course.told → AnswersInput course limit io status
  -- if nothing fails and the input is within the limit, all is answered, unless memory runs out
  pub complete : GoesWell limit io → ¬ disk_failed → (status ≡ 0) ⊎ (status ≡ 6)
  pub ends : Ends io disk_failed status
  -- 0 and 2 to 6 are the only statuses
  pub statuses : IsTrue (is_end status)

-- ---- Numbers that runs release, such as counters: the properties of one run, and those of any list of runs and stops.

-- none of these appears twice
abbrev pub NoneTwice : List ℕ → Type 0
NoneTwice [] = ⊤
NoneTwice (q ∷ qs) = (Contains qs q → ⊥) × NoneTwice qs

-- A run, by its numbers: the image that it started on, the numbers that it released, and an image that a stop at its
-- end may leave.
pub record Run : Type 0 where
  pub image : List ℕ
  pub released : List ℕ
  pub left : List ℕ

-- The properties of a run. `spent image q` says that a number is spent in an image.
pub record KeepsNumbers (spent : List ℕ → ℕ → Type 0) (run : Run) : Type 0 where
  -- no released number was spent at the start, and no two are equal
  pub fresh : (q : ℕ) → Contains run.released q → spent run.image q → ⊥
  pub once : NoneTwice run.released
  -- each is spent at the end, and so are those spent at the start
  pub durable : (q : ℕ) → Contains run.released q → spent run.left q
  pub stays : (q : ℕ) → spent run.image q → spent run.left q

-- each of these runs has these properties, and starts on the image that the previous one left
abbrev pub AreChained : (spent : List ℕ → ℕ → Type 0) → (image : List ℕ) → List Run → Type 0
AreChained spent image [] = ⊤
AreChained spent image (run ∷ runs) = (run.image ≡ image) × KeepsNumbers spent run × AreChained spent run.left runs

-- all numbers that these runs released
abbrev pub all_released : List Run → List ℕ
all_released [] = []
all_released (run ∷ runs) = run.released ++ all_released runs
