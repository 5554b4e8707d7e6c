-- Machines that replay restores, and the same with a journal that records the lines that change them.
use Rattle.std.proofs.Common.{◌∙◌, ap, sym, arith}
use Rattle.std.proofs.lemmas.List.{take_all}
use Rattle.std.specs.Prelude.{◌≡◌, ◌⊎◌, ℕ, ◌+◌, ◌≤◌, ◌<◌, ◌^◌, Bool, true, false, List, [], ◌∷◌, length, take, if◌then◌else◌, Result, Ok, refl, ◌*◌, ◌++◌}
use Rattle.st_base.specs.Answers.{◌>>=◌}
use Rattle.st_journal.specs.Opening.{StandFrom}
use Rattle.st_journal.specs.Image.{records, JournalValue, at_end}
use Rattle.st_journal.specs.declared.journal.JournalRefused.{JournalRefused}
use Rattle.st_drive.specs.DiskLaws.{disk_laws}
use Rattle.st_drive.specs.Lines.{Laws}
use Rattle.st_drive.specs.OnDisk.{Effect, EffectLaws, RulesLaws, Store, disk_meaning, Recorder, recorded, recording}
use Rattle.st_drive.specs.Runs.{Begins}

-- a machine of type M with a context of type C that answers lines
pub record Answering (M C : Type 0) : Type 1 where
  -- its reply to a line, and the machine after it
  pub reply : M → List ℕ → List ℕ
  pub next : M → List ℕ → M
  -- a line changes the machine
  pub changes : M → List ℕ → Bool
  -- the possible effects on its context
  pub effect : Effect M C

-- the largest number of bytes of a recorded line
abbrev pub longest_record : ℕ
longest_record = 24000000

-- the laws of a machine that reads the first `cap` bytes of a line
pub record AnsweringLaws {M C : Type 0} (answering : Answering M C) (cap : ℕ) : Type 0 where
  -- a line that changes it can be recorded, and is read completely
  pub whole : longest_record < cap
  pub short : (m : M) (line : List ℕ) → answering.changes m line ≡ true → length line ≤ longest_record
  -- a line that is truncated to its first `cap` bytes has the same effect
  pub cut_reply : (m : M) (line : List ℕ) → length line < 2 ^ 62 → answering.reply m (take cap line) ≡ answering.reply m line
  pub cut_next : (m : M) (line : List ℕ) → length line < 2 ^ 62 → answering.next m (take cap line) ≡ answering.next m line
  pub cut_changes : (m : M) (line : List ℕ) → length line < 2 ^ 62 → answering.changes m (take cap line) ≡ answering.changes m line
  pub effect : EffectLaws answering.effect cap
  -- if it executed a line, it may also give up after it
  pub gave_up_behind : (m n : M) (c d : C) (line : List ℕ) → answering.effect.ran m c (line ∷ []) n d
      → answering.effect.gave_up m c (line ∷ []) d

-- ---- over lines, one after another

-- the machine after these lines
abbrev pub behind : {M C : Type 0} → Answering M C → M → List (List ℕ) → M
behind answering m [] = m
behind answering m (line ∷ lines) = behind answering (answering.next m line) lines

-- after the records of a journal, if it was opened
abbrev pub behind_opened : {M C : Type 0} → Answering M C → M → Result (List (List ℕ)) JournalRefused → Result M JournalRefused
behind_opened answering m opened = do
  records ← opened
  Ok (behind answering m records)

-- it gave up at one of these lines
abbrev pub GaveUpWithin : {M C : Type 0} → Answering M C → M → List (List ℕ) → (c d : C) → Type 0
GaveUpWithin answering m lines c d = (first : List (List ℕ)) × Begins first lines × answering.effect.gave_up m c first d

-- the context is unchanged, or that after these lines, or the machine gave up at one of them
abbrev pub StayedOrWent : {M C : Type 0} → Answering M C → M → List (List ℕ) → (c d : C) → Type 0
StayedOrWent answering m lines c d = (d ≡ c) ⊎ GaveUpWithin answering m lines c d

-- The laws of the machines that replay restores from the start: a line that isn't reported as a change leaves the
-- machine unchanged. This is required only of good machines; the machine starts as one and stays one.
pub record Idles {M C S : Type 0} (answering : Answering M C) (start : S → M) (good : M → Type 0) : Type 0 where
  pub starts : (seed : S) → good (start seed)
  pub stays : (m : M) (line : List ℕ) → good m → good (answering.next m line)
  pub idle : (m : M) (line : List ℕ) → good m → answering.changes m line ≡ false → answering.next m line ≡ m

-- The context is the one after at most the first records of an image from this gate's place on, whatever follows
-- them.
abbrev pub WentOverFrom : {M C : Type 0} → Answering M C → M → (place : ℕ) (image : List ℕ) → (c d : C) → Type 0
WentOverFrom answering m place image c d =
    (first : List (List ℕ)) × (end : ℕ) × StandFrom place first end image × StayedOrWent answering m first c d

-- at most the first records of the image
abbrev pub WentOverFirst : {M C : Type 0} → Answering M C → M → (image : List ℕ) → (c d : C) → Type 0
WentOverFirst answering m image c d = WentOverFrom answering m 0 image c d

-- ---- with its journal

-- the journal after a line that changes the machine, or doesn't
abbrev pub grown : Bool → JournalValue → List ℕ → JournalValue
grown changes journal line = if changes then at_end (journal.end + 5 + length line) else journal

-- the machine with its journal records the lines that change it
abbrev pub recorder_of : {M C : Type 0} → Answering M C → Recorder (M × JournalValue) C
recorder_of answering = record {
  reply = λ m line. answering.reply m.0 line;
  next = λ m line. (answering.next m.0 line, grown (answering.changes m.0 line) m.1 line);
  changes = λ m line. answering.changes m.0 line;
  records = records;
  effect = record {
    ran = λ m c lines n d. answering.effect.ran m.0 c lines n.0 d;
    gave_up = λ m c lines d. answering.effect.gave_up m.0 c lines d;
  };
}

-- ---- The laws of a machine with its journal.

module _ {M C : Type 0} {answering : Answering M C} {cap : ℕ} (laws : AnsweringLaws answering cap) where
  -- a line that changes the machine is not truncated, and another's text doesn't matter
  cut_line : {A : Type 0} (f : Bool → List ℕ → A) → ((line other : List ℕ) → f false line ≡ f false other)
      → (m : M) (line : List ℕ) → length line < 2 ^ 62 → (changes : Bool) → answering.changes m line ≡ changes
      → f (answering.changes m (take cap line)) (take cap line) ≡ f (answering.changes m line) line
  cut_line f same m line short true is =
      let fits : length line ≤ cap = omega (arith, laws.short m line is, laws.whole) in
      ap (λ l. f (answering.changes m l) l) (take_all cap line fits)
  cut_line f same m line short false is =
      ap (λ t. f t (take cap line)) (laws.cut_changes m line short ∙ is) ∙ same (take cap line) line ∙ ap (λ t. f t line) (sym is)

  effect_laws : EffectLaws (recorder_of answering).effect cap
  effect_laws = record {
    cut_ran = λ m n c d line short ran. laws.effect.cut_ran m.0 n.0 c d line short ran;
    cut_gave_up = λ m c d line short gave. laws.effect.cut_gave_up m.0 c d line short gave;
    ran_none = λ m c. laws.effect.ran_none m.0 c;
    ran_more = λ m n o c d e lines more first next. laws.effect.ran_more m.0 n.0 o.0 c d e lines more first next;
    gave_up_more = λ m n c d e lines more first next. laws.effect.gave_up_more m.0 n.0 c d e lines more first next;
  }

  pub rules_laws : RulesLaws (recording (recorder_of answering)) cap
  rules_laws = record {
    positive = omega (arith, laws.whole);
    cut_reply = λ m line short. laws.cut_reply m.0 line short;
    cut_next = λ m line short.
        ap (λ n. (n, grown (answering.changes m.0 (take cap line)) m.1 (take cap line))) (laws.cut_next m.0 line short)
        ∙ ap (λ j. (answering.next m.0 line, j)) (cut_line (λ t l. grown t m.1 l) (λ l o. refl) m.0 line short (answering.changes m.0 line) refl);
    cut_keep = λ m k line short. ap (λ more. k ++ more) (cut_line recorded (λ l o. refl) m.0 line short (answering.changes m.0 line) refl);
    effect = effect_laws;
  }

-- the laws of the machine over any disk
pub machine_laws : {M C D : Type 0} {answering : Answering M C} {cap : ℕ} → AnsweringLaws answering cap → (store : Store D)
    → Laws (disk_meaning (recording (recorder_of answering)) store) cap
machine_laws {answering = answering} laws store = disk_laws (recording (recorder_of answering)) store (rules_laws laws)

pub fits_less : (end many few : ℕ) → few ≤ many → end + 6 * many ≤ 2 ^ 41 → end + 6 * few ≤ 2 ^ 41
fits_less end many few le fits = omega (arith, le, fits)
