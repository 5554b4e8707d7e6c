-- Machines that work on a disk: the images that a stop may leave at each moment of a run, and those at the end. Such
-- a machine is given only by its rules: a reply, a next machine and the state on the disk, for each line.
use Rattle.std.specs.Prelude.{◌≡◌, ◌+◌, ◌≤◌, ◌<◌, ◌^◌, ℕ, List, [], ◌∷◌, ◌++◌, length, take, IsSome, ⊤, ◌⊎◌, Bool, Some, if◌then◌else◌}
use Rattle.std.specs.declared.option.Option.{Option}
use Rattle.st_io.specs.Past.{Past, Images, GoesOn, LeftSinceSync}
use Rattle.st_drive.specs.Lines.{Meaning}
use Rattle.st_drive.specs.Runs.{Begins, NearlyReplied}

-- The possible effects of a machine of type M on its context of type C, whatever its disk reveals, such as a bound on
-- the work that is counted.
pub record Effect (M C : Type 0) : Type 1 where
  -- this machine and context may become that machine and context over these lines
  pub ran : M → C → List (List ℕ) → M → C → Type 0
  -- this machine and context may give up at the last of these lines, and leave that context
  pub gave_up : M → C → List (List ℕ) → C → Type 0

-- a machine with any effect on its context
abbrev pub any_effect : {M C : Type 0} → Effect M C
any_effect = record { ran = λ m c lines n d. ⊤; gave_up = λ m c lines d. ⊤ }

-- the rules of a machine of type M with a context of type C, whose state on its disk is of type K
pub record Rules (M C K : Type 0) : Type 1 where
  -- its reply to a line
  pub reply : M → List ℕ → List ℕ
  -- the machine after a line
  pub next : M → List ℕ → M
  -- the state on the disk after a line, from the one before
  pub keep : M → K → List ℕ → K
  -- an image has this state, such as records or spent counters
  pub holds : K → List ℕ → Type 0
  -- the possible effects on its context
  pub effect : Effect M C

-- ---- the effects of a machine over lines

-- its replies to lines, joined
abbrev pub replies : {M C K : Type 0} → Rules M C K → M → List (List ℕ) → List ℕ
replies rules m [] = []
replies rules m (line ∷ lines) = rules.reply m line ++ replies rules (rules.next m line) lines

-- the machine after lines
abbrev pub after : {M C K : Type 0} → Rules M C K → M → List (List ℕ) → M
after rules m [] = m
after rules m (line ∷ lines) = after rules (rules.next m line) lines

-- the state on the disk after lines
abbrev pub kept : {M C K : Type 0} → Rules M C K → M → K → List (List ℕ) → K
kept rules m k [] = k
kept rules m k (line ∷ lines) = kept rules (rules.next m line) (rules.keep m k line) lines

-- ---- the images that a stop may leave

-- every present image has this state
abbrev pub AllHold : {M C K : Type 0} → Rules M C K → K → Past → Type 0
AllHold rules k past = (image : List ℕ) → Images past image → rules.holds k image

-- an image has the state after a prefix of these lines
abbrev pub HoldsFirst : {M C K : Type 0} → Rules M C K → M → K → List (List ℕ) → List ℕ → Type 0
HoldsFirst rules m k lines image =
    (first : List (List ℕ)) × Begins first lines × rules.holds (kept rules m k first) image

-- the same, if only the last of the lines may be missing
abbrev pub HoldsNearlyAll : {M C K : Type 0} → Rules M C K → M → K → List (List ℕ) → List ℕ → Type 0
HoldsNearlyAll rules m k lines image =
    (first : List (List ℕ)) × Begins first lines × (length lines ≤ length first + 1)
    × rules.holds (kept rules m k first) image

-- Over lines the disk continued from `old` to `new`. At each moment since, an image has the state after a prefix of
-- the lines; now it has the state after all.
pub record Went {M C K : Type 0} (rules : Rules M C K)
    (m : M) (k : K) (lines : List (List ℕ)) (old new : Past) : Type 0 where
  pub goes : GoesOn old new
  pub moments : (image : List ℕ) → new.left_since old.now image → HoldsFirst rules m k lines image
  pub now : AllHold rules (kept rules m k lines) new

-- The same, if the machine gave up at the last of the lines.
pub record GaveUp {M C K : Type 0} (rules : Rules M C K)
    (m : M) (k : K) (lines : List (List ℕ)) (old new : Past) : Type 0 where
  pub goes : GoesOn old new
  pub moments : (image : List ℕ) → new.left_since old.now image → HoldsFirst rules m k lines image
  pub now : (image : List ℕ) → Images new image → HoldsNearlyAll rules m k lines image

-- ---- its meaning for a run

-- a disk of type D, by its contents and the images that a stop may leave
pub record Store (D : Type 0) : Type 1 where
  pub reads : D → Option (List ℕ)
  pub past : D → Past

-- the disk reveals its contents
abbrev pub IsTold : {D : Type 0} → Store D → D → Type 0
IsTold store disk = IsSome (store.reads disk)

-- The context changes by the effect, on every disk. If the disk reveals its contents, it still does afterwards, the
-- machine becomes the one of the rules, and the earlier state of every image changes by the rules.
pub record RanOnDisk {M C K D : Type 0} (rules : Rules M C K) (store : Store D)
    (m : M) (c : C × D) (lines : List (List ℕ)) (n : M) (d : C × D) : Type 0 where
  pub effect : rules.effect.ran m c.0 lines n d.0
  pub told : IsTold store c.1 → IsTold store d.1
  pub came : IsTold store c.1 → n ≡ after rules m lines
  pub disk : IsTold store c.1 → (k : K) → AllHold rules k (store.past c.1)
      → Went rules m k lines (store.past c.1) (store.past d.1)

-- the same, if the machine gave up at the last line
pub record GaveUpOnDisk {M C K D : Type 0} (rules : Rules M C K) (store : Store D)
    (m : M) (c : C × D) (lines : List (List ℕ)) (d : C × D) : Type 0 where
  pub effect : rules.effect.gave_up m c.0 lines d.0
  pub disk : IsTold store c.1 → (k : K) → AllHold rules k (store.past c.1)
      → GaveUp rules m k lines (store.past c.1) (store.past d.1)

-- The meaning of a machine with these rules for a run. It is prompt: the effect of a line on the disk is permanent.
abbrev pub disk_meaning : {M C K D : Type 0} → Rules M C K → Store D → Meaning M (C × D)
disk_meaning rules store = record {
  answers = replies rules;
  told = λ c. IsTold store c.1;
  ran = RanOnDisk rules store;
  gave_up = GaveUpOnDisk rules store;
  prompt = ⊤;
}

-- the laws of an effect, like those of a meaning in `Laws`
pub record EffectLaws {M C : Type 0} (effect : Effect M C) (cap : ℕ) : Type 0 where
  pub cut_ran : (m n : M) (c d : C) (line : List ℕ) → length line < 2 ^ 62
      → effect.ran m c (take cap line ∷ []) n d → effect.ran m c (line ∷ []) n d
  pub cut_gave_up : (m : M) (c d : C) (line : List ℕ) → length line < 2 ^ 62
      → effect.gave_up m c (take cap line ∷ []) d → effect.gave_up m c (line ∷ []) d
  pub ran_none : (m : M) (c : C) → effect.ran m c [] m c
  pub ran_more : (m n o : M) (c d e : C) (lines more : List (List ℕ)) → effect.ran m c lines n d
      → effect.ran n d more o e → effect.ran m c (lines ++ more) o e
  pub gave_up_more : (m n : M) (c d e : C) (lines more : List (List ℕ)) → effect.ran m c lines n d
      → effect.gave_up n d more e → effect.gave_up m c (lines ++ more) e

pub any_effect_laws : {M C : Type 0} (cap : ℕ) → EffectLaws {M = M} {C = C} any_effect cap
any_effect_laws cap = record {
  cut_ran = λ m n c d line short p. tt;
  cut_gave_up = λ m c d line short p. tt;
  ran_none = λ m c. tt;
  ran_more = λ m n o c d e lines more p q. tt;
  gave_up_more = λ m n c d e lines more p q. tt;
}

-- the laws of rules that read the first `cap` bytes of a line
pub record RulesLaws {M C K : Type 0} (rules : Rules M C K) (cap : ℕ) : Type 0 where
  pub positive : 0 < cap
  -- a line that is truncated to its first `cap` bytes has the same effect
  pub cut_reply : (m : M) (line : List ℕ) → length line < 2 ^ 62 → rules.reply m (take cap line) ≡ rules.reply m line
  pub cut_next : (m : M) (line : List ℕ) → length line < 2 ^ 62 → rules.next m (take cap line) ≡ rules.next m line
  pub cut_keep : (m : M) (k : K) (line : List ℕ) → length line < 2 ^ 62
      → rules.keep m k (take cap line) ≡ rules.keep m k line
  pub effect : EffectLaws rules.effect cap

-- ---- a whole run

-- At least one byte of the reply to this line, which follows these lines, was written.
abbrev pub Released : {M C K : Type 0} → Rules M C K → M → (before : List (List ℕ)) → (written : List ℕ) → Type 0
Released rules m before written = length (replies rules m before) < length written

-- each line with a written byte of its reply is in this prefix
abbrev pub HasReleased : {M C K : Type 0} → Rules M C K → M
    → (lines : List (List ℕ)) → (written : List ℕ) → (first : List (List ℕ)) → Type 0
HasReleased rules m lines written first =
    (before : List (List ℕ)) (line : List ℕ) (later : List (List ℕ)) → before ++ line ∷ later ≡ lines
    → Released rules m before written → Begins (before ++ line ∷ []) first

-- ---- Machines that record on their disk each line that changes them, before they reply to it, for example in a journal.

-- a machine of type M with a context of type C that records lines
pub record Recorder (M C : Type 0) : Type 1 where
  -- its reply to a line, and the machine after it
  pub reply : M → List ℕ → List ℕ
  pub next : M → List ℕ → M
  -- a line changes the machine, and is recorded
  pub changes : M → List ℕ → Bool
  -- the records of an image, or none if it is damaged
  pub records : List ℕ → Option (List (List ℕ))
  -- the possible effects on its context
  pub effect : Effect M C

-- this line, if it is recorded
abbrev pub recorded : Bool → List ℕ → List (List ℕ)
recorded changes line = if changes then line ∷ [] else []

-- its rules: its state is the lines that changed it
abbrev pub recording : {M C : Type 0} → Recorder M C → Rules M C (List (List ℕ))
recording recorder = record {
  reply = recorder.reply;
  next = recorder.next;
  keep = λ m r line. r ++ recorded (recorder.changes m line) line;
  holds = λ r image. recorder.records image ≡ Some r;
  effect = recorder.effect;
}

-- those of these lines that change the machine, one after another
abbrev pub changing : {M C : Type 0} → Recorder M C → M → List (List ℕ) → List (List ℕ)
changing recorder m [] = []
changing recorder m (line ∷ lines) =
    recorded (recorder.changes m line) line ++ changing recorder (recorder.next m line) lines

-- ---- a whole run

-- the records of an image are r, and then the changing lines of a prefix of these lines
abbrev pub HasPrefix : {M C : Type 0} → Recorder M C → M → (r lines : List (List ℕ)) → (image : List ℕ) → Type 0
HasPrefix recorder m r lines image =
    (prefix : List (List ℕ)) × Begins prefix lines × (recorder.records image ≡ Some (r ++ changing recorder m prefix))

-- The same for a prefix that has each line with a written byte of its reply. All replies to the prefix are written,
-- or all except the last: a stop leaves at most one record without its reply.
pub record HasRepliedPrefix {M C : Type 0} (recorder : Recorder M C)
    (m : M) (r lines : List (List ℕ)) (written image : List ℕ) : Type 0 where
  pub prefix : List (List ℕ)
  pub begins : Begins prefix lines
  pub released : HasReleased (recording recorder) m lines written prefix
  pub replied : NearlyReplied (replies (recording recorder) m) written prefix
  pub records_are : recorder.records image ≡ Some (r ++ changing recorder m prefix)

-- The images of the disk of a run of such a machine at each moment, which starts as m with the records r.
pub record KeepsPrefixes {M C : Type 0} (recorder : Recorder M C) (m : M) (r lines : List (List ℕ)) (old new : Past) : Type 0 where
  -- at each moment an image is one of the start, or has the records of a prefix
  pub moments : (image : List ℕ) → new.left_since old.now image → Images old image ⊎ HasPrefix recorder m r lines image
  -- from the first successful sync on each has the records of a prefix
  pub synced : (image : List ℕ) → LeftSinceSync new old.now image → HasPrefix recorder m r lines image

-- The images at the end: each is one of the start, if nothing was written, or has the records of such a prefix.
abbrev pub KeepsRecords : {M C : Type 0} → Recorder M C → (m : M) (r lines : List (List ℕ)) (written : List ℕ) (old new : Past) → Type 0
KeepsRecords recorder m r lines written old new =
    (image : List ℕ) → Images new image → (Images old image × (written ≡ [])) ⊎ HasRepliedPrefix recorder m r lines written image

-- Those of a run that opened its disk: each has the records of such a prefix.
abbrev pub EndsReplied : {M C : Type 0} → Recorder M C → (m : M) (r lines : List (List ℕ)) (written : List ℕ) (new : Past) → Type 0
EndsReplied recorder m r lines written new = (image : List ℕ) → Images new image → HasRepliedPrefix recorder m r lines written image
