use Rattle.std.specs.Prelude.{◌≡◌, ◌⊎◌, ℕ, List, [], ◌∷◌, true, ◌++◌, Some, ◌+◌, ◌-◌, ◌≤◌, ◌<◌, length, None}
use Rattle.st_io.specs.Past.{Past, Images, GoesOn, LeftSinceSync, Leaves, KeepsSpent, SpentInAll}
use Rattle.st_drive.specs.OnDisk.{Rules, replies, kept, HoldsFirst, HasReleased, AllHold, Store, IsTold, Recorder, recording}
use Rattle.st_drive.specs.Runs.{Begins, NearlyReplied}
use Rattle.st_drive.specs.Spending.{Spender}

-- an image has the state before this line, or the one after it
abbrev pub HoldsEither : {M C K : Type 0} → Rules M C K → M → K → List ℕ → List ℕ → Type 0
HoldsEither rules m k line image = rules.holds k image ⊎ rules.holds (rules.keep m k line) image

-- An image has the state after a prefix of the lines. That has each line with a written byte of its reply, and the
-- replies to all of it are written, or to all except the last line: a stop loses at most one reply.
pub record HoldsReplied {M C K : Type 0} (rules : Rules M C K)
    (m : M) (k : K) (lines : List (List ℕ)) (written image : List ℕ) : Type 0 where
  pub first : List (List ℕ)
  pub begins : Begins first lines
  pub released : HasReleased rules m lines written first
  pub replied : NearlyReplied (replies rules m) written first
  pub holds : rules.holds (kept rules m k first) image

-- The images of the disk of a run over lines, whatever ended it, at each moment since its start and at the end.
pub record LeavesOnDisk {M C K : Type 0} (rules : Rules M C K)
    (m : M) (k : K) (lines : List (List ℕ)) (written : List ℕ) (old new : Past) : Type 0 where
  pub goes : GoesOn old new
  pub moments : (image : List ℕ) → new.left_since old.now image → HoldsFirst rules m k lines image
  pub end : (image : List ℕ) → Images new image → HoldsReplied rules m k lines written image

-- Opening a disk with the state k: at each moment an image is one of the start or has the state k, and from the first
-- successful sync on each has it.
pub record Opens {M C K : Type 0} (rules : Rules M C K) (k : K) (old new : Past) : Type 0 where
  pub goes : GoesOn old new
  pub moments : (image : List ℕ) → new.left_since old.now image → Images old image ⊎ rules.holds k image
  pub synced : (image : List ℕ) → LeftSinceSync new old.now image → rules.holds k image

-- The images of the disk of a run, from before it is opened, whatever ended the run.
pub record RunLeaves {M C K : Type 0} (rules : Rules M C K)
    (m : M) (k : K) (lines : List (List ℕ)) (written : List ℕ) (old new : Past) : Type 0 where
  pub goes : GoesOn old new
  -- at each moment an image is one of the start, or has the state after a prefix of the lines
  pub moments : (image : List ℕ) → new.left_since old.now image → Images old image ⊎ HoldsFirst rules m k lines image
  -- from the first successful sync on each has that
  pub synced : (image : List ℕ) → LeftSinceSync new old.now image → HoldsFirst rules m k lines image
  -- at the end too, with all lines with a written byte of their reply, and at most one more
  pub end : (image : List ℕ) → Images new image → (Images old image × (written ≡ [])) ⊎ HoldsReplied rules m k lines written image

-- ---- one step

-- these are the records of an image, or these and the line
abbrev pub HasOneMore : {M C : Type 0} → Recorder M C → List (List ℕ) → List ℕ → (image : List ℕ) → Type 0
HasOneMore recorder r line image =
    (recorder.records image ≡ Some r) ⊎ (recorder.records image ≡ Some (r ++ line ∷ []))

-- the disk continued, and at each moment the line is recorded or not yet
abbrev pub LeavesOneMore : {M C : Type 0} → Recorder M C → List ℕ → (old new : Past) → Type 0
LeavesOneMore recorder line old new =
    (r : List (List ℕ)) → AllHold (recording recorder) r old → Leaves (HasOneMore recorder r line) old new

-- The machine has replied to a line that changes it. If the disk reveals its contents, it still does, the machine is
-- the next one, and the line is recorded in every image.
pub record HasRecorded {M C D : Type 0} (recorder : Recorder M C) (store : Store D)
    (m : M) (c : C × D) (line : List ℕ) (n : M) (d : C × D) : Type 0 where
  pub changes : recorder.changes m line ≡ true
  pub effect : recorder.effect.ran m c.0 (line ∷ []) n d.0
  pub told : IsTold store c.1 → IsTold store d.1
  pub came : IsTold store c.1 → n ≡ recorder.next m line
  pub moments : IsTold store c.1 → LeavesOneMore recorder line (store.past c.1) (store.past d.1)
  pub now : IsTold store c.1 → (r : List (List ℕ)) → AllHold (recording recorder) r (store.past c.1)
      → AllHold (recording recorder) (r ++ line ∷ []) (store.past d.1)

-- it gave up at a line that changes it
pub record GaveUpRecording {M C D : Type 0} (recorder : Recorder M C) (store : Store D)
    (m : M) (c : C × D) (line : List ℕ) (d : C × D) : Type 0 where
  pub changes : recorder.changes m line ≡ true
  pub effect : recorder.effect.gave_up m c.0 (line ∷ []) d.0
  pub moments : IsTold store c.1 → LeavesOneMore recorder line (store.past c.1) (store.past d.1)

-- each present image is that of this machine
abbrev pub AllStand : {M C : Type 0} → Spender M C → M → Past → Type 0
AllStand spender m past = (image : List ℕ) → Images past image → spender.stands m image

-- the laws of numbers: each is at least the machine's lowest, which is above it afterwards and never falls
pub record NumberLaws {M C : Type 0} (spender : Spender M C) (lowest : M → ℕ) : Type 0 where
  pub rises : (m : M) (line : List ℕ) → lowest m ≤ lowest (spender.next m line)
  pub given : (m : M) (line : List ℕ) (q : ℕ) → spender.number m line ≡ Some q
      → (lowest m ≤ q) × (q < lowest (spender.next m line))

-- The laws of numbers that are used one after another: a number is the machine's lowest, which then rises by one and
-- else stays; its reply has a byte; and all numbers spent in a machine's image are below the lowest.
pub record NextLaws {M C : Type 0} (spender : Spender M C) (lowest : M → ℕ) : Type 0 where
  pub stays : (m : M) (line : List ℕ) → spender.number m line ≡ None → lowest (spender.next m line) ≡ lowest m
  pub given : (m : M) (line : List ℕ) (q : ℕ) → spender.number m line ≡ Some q
      → (q ≡ lowest m) × (lowest (spender.next m line) ≡ q + 1) × (0 < length (spender.reply m line))
  pub below : (m : M) (image : List ℕ) (q : ℕ) → spender.stands m image → spender.spent image q → q < lowest m

-- ---- one step

-- an image is that of the machine before, or of the next one
abbrev pub StandsForEither : {M C : Type 0} → Spender M C → (before next : M) → List ℕ → Type 0
StandsForEither spender before next image = spender.stands before image ⊎ spender.stands next image

-- The machine has replied to a line. If the disk reveals its contents, it still does, the machine is the next one,
-- spent numbers stay so at each moment, and the number of the reply is spent in every image.
pub record HasSpent {M C D : Type 0} (spender : Spender M C) (store : Store D)
    (m : M) (c : C × D) (line : List ℕ) (n : M) (d : C × D) : Type 0 where
  pub effect : spender.effect.ran m c.0 (line ∷ []) n d.0
  pub told : IsTold store c.1 → IsTold store d.1
  pub came : IsTold store c.1 → n ≡ spender.next m line
  pub stays : IsTold store c.1 → KeepsSpent spender.spent (store.past c.1) (store.past d.1)
  pub given : IsTold store c.1 → (q : ℕ) → spender.number m line ≡ Some q → SpentInAll spender.spent (store.past d.1) q
  -- if each image was that of one machine, each since is that one's or the next one's, and now each is the next one's
  pub moments : IsTold store c.1 → (before : M) → AllStand spender before (store.past c.1)
      → Leaves (StandsForEither spender before (spender.next m line)) (store.past c.1) (store.past d.1)
  pub now : IsTold store c.1 → (before : M) → AllStand spender before (store.past c.1)
      → AllStand spender (spender.next m line) (store.past d.1)

-- it gave up at a line: spent numbers stay so, and each image is that of the machine before it or after it
pub record GaveUpSpending {M C D : Type 0} (spender : Spender M C) (store : Store D)
    (m : M) (c : C × D) (line : List ℕ) (d : C × D) : Type 0 where
  pub effect : spender.effect.gave_up m c.0 (line ∷ []) d.0
  pub stays : IsTold store c.1 → KeepsSpent spender.spent (store.past c.1) (store.past d.1)
  pub moments : IsTold store c.1 → (before : M) → AllStand spender before (store.past c.1)
      → Leaves (StandsForEither spender before (spender.next m line)) (store.past c.1) (store.past d.1)
