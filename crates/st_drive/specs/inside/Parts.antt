use Rattle.std.proofs.Common.{ap, arith, length-append}
use Rattle.std.proofs.lemmas.List.{take-take}
use Rattle.std.specs.Io.KnownBytes.{Appends}
use Rattle.std.specs.Prelude.{◌≡◌, ℕ, List, [], ◌∷◌, ◌++◌, ◌≤◌, Bool, Result, true, IfErr, IfOk, OnOk, OnErr, ⊤, ◌+◌, refl, ◌%◌, length, take}
use Rattle.std.specs.declared.option.Option.{Option}
use Rattle.st_base.specs.Texts.{HasNo}
use Rattle.st_io.specs.Past.{Rose, FinishesNothing}
use Rattle.st_drive.specs.Lines.{Meaning, Laws, Streams}
use Rattle.st_drive.specs.Runs.{GoesOverCut, StopsOverCut, Turn, Begins, IsAnswerStop}
use Rattle.st_drive.specs.declared.machine.Stop.{Stop}

-- these bytes are one line with its line feed
pub record IsOneLine (bytes : List ℕ) : Type 0 where
  pub line : List ℕ
  pub none : HasNo 10 line
  pub is : bytes ≡ line ++ 10 ∷ []

-- the bytes of a sink and of its buffer before, and now
pub record Outlet : Type 0 where
  pub held : Option (List ℕ)
  pub had : List ℕ
  pub holds : Option (List ℕ)
  pub has : List ℕ

-- an outlet of these four
abbrev pub outlet : Option (List ℕ) → List ℕ → Option (List ℕ) → List ℕ → Outlet
outlet held had holds has = record { held = held; had = had; holds = holds; has = has }

-- of the buffer and then the reply, a part was written and the rest is buffered
pub record Passes (outlet : Outlet) (reply : List ℕ) : Type 0 where
  pub part : List ℕ
  pub all : part ++ outlet.has ≡ outlet.had ++ reply
  pub writes : Appends outlet.held outlet.holds part

-- the same, if a part of the rest is lost
pub record PassesSome (outlet : Outlet) (reply : List ℕ) : Type 0 where
  pub part : List ℕ
  pub front : Begins (part ++ outlet.has) (outlet.had ++ reply)
  pub writes : Appends outlet.held outlet.holds part

-- m executed these lines, and its replies are written or buffered
pub record Gathered {M C : Type 0} (means : Meaning M C) (cap : ℕ)
    (m : M) (c : C) (kept : List (List ℕ)) (n : M) (d : C) (outlet : Outlet) : Type 0 where
  pub reply : List ℕ
  pub went : GoesOverCut means cap m c kept reply n d
  pub passes : Passes outlet reply

-- m was stopped within these lines, and a prefix of its replies is written or buffered; how much isn't known
pub record GatheredSome {M C : Type 0} (means : Meaning M C) (cap : ℕ)
    (m : M) (c : C) (kept : List (List ℕ)) (d : C) (outlet : Outlet) : Type 0 where
  pub reply : List ℕ
  pub stopped : StopsOverCut ⊥ means cap m c kept reply d
  pub passes : PassesSome outlet reply

-- The machine executes these lines, becomes the returned one, and buffers its replies; or it is stopped within them.
pub record Gathers {M C T : Type 0} (by : Turn M C) (kept : List (List ℕ)) (outlet : Outlet) (machine : T → M) (result : Result T Stop) : Type 0 where
  pub ok : IfOk result (λ next. Gathered by.means by.cap by.machine by.context kept (machine next) by.context_now outlet)
  pub err : OnErr result (GatheredSome by.means by.cap by.machine by.context kept by.context_now outlet)

-- The same at the end of a run, which is the only step that finishes the sink.
pub record Ended {T : Type 0} (was is : Bool) (sink device : ℕ × ℕ) (result : Result T Stop) : Type 0 where
  pub finished : OnOk result (is ≡ true)
  pub unfinished : OnErr result (FinishesNothing was is)
  pub later : sink.0 ≤ sink.1
  pub context_later : device.0 ≤ device.1
  pub cause : IfErr result (IsAnswerStop (Rose sink.0 sink.1) (Rose device.0 device.1))

-- each of these is greater than the previous one, and at least this one
abbrev pub Ascend : ℕ → List ℕ → Type 0
Ascend least [] = ⊤
Ascend least (q ∷ qs) = (least ≤ q) × Ascend (q + 1) qs

-- nothing was read, written or finished
pub record Unread (io : Streams) : Type 0 where
  pub left_is : io.left ≡ io.had
  pub holds_is : io.holds ≡ io.held
  pub finished_is : io.is_finished ≡ io.was_finished

-- ---- The machine of the tests. It numbers the lines by one digit and shows the first four bytes of each;
-- its context has an allowance of lines.

-- the digit, the front of the line and a line feed
abbrev pub numbered_reply : ℕ → List ℕ → List ℕ
numbered_reply digit line = (48 + digit) ∷ (take 4 line ++ 10 ∷ [])

-- the replies to lines, numbered by digits from this one on
abbrev pub numbered : ℕ → List (List ℕ) → List ℕ
numbered digit [] = []
numbered digit (line ∷ lines) = numbered_reply digit line ++ numbered ((digit + 1) % 10) lines

-- the lines that may still be answered, and the faults
pub record Allowance : Type 0 where
  pub left : ℕ
  pub faults : ℕ

-- the allowance fell by one a line
pub record Spends (m : ℕ) (c : Allowance × Unit {0}) (lines : List (List ℕ))
    (n : ℕ) (d : Allowance × Unit {0}) : Type 0 where
  pub spent : d.0.left + length lines ≡ c.0.left

-- by one line fewer
pub record SpendsLess (m : ℕ) (c : Allowance × Unit {0}) (lines : List (List ℕ))
    (d : Allowance × Unit {0}) : Type 0 where
  pub spent : d.0.left + length lines ≡ c.0.left + 1

-- the meaning of the machine that numbers its replies
abbrev pub numbered_meaning : Meaning ℕ (Allowance × Unit {0})
numbered_meaning = record { answers = numbered; told = λ c. ⊤; ran = Spends; gave_up = SpendsLess; prompt = ⊥ }

pub numbered_laws : Laws numbered_meaning 4
numbered_laws = record {
  silent = λ m. refl;
  positive = omega arith;
  cut_answers = λ m line more short. ap (λ front. ((48 + m) ∷ (front ++ 10 ∷ [])) ++ numbered ((m + 1) % 10) more) (take-take 4 4 line (omega arith));
  cut_ran = λ m n c d line short p. record { spent = p.spent };
  cut_gave_up = λ m c d line short p. record { spent = p.spent };
  told_stays = λ m n c d lines p told. told;
  ran_none = λ m c. record { spent = omega arith };
  ran_more = λ m n o c d e lines more p q. record { spent = omega (arith, length-append lines more, p.spent, q.spent) };
  gave_up_more = λ m n c d e lines more p q. record { spent = omega (arith, length-append lines more, p.spent, q.spent) };
}
