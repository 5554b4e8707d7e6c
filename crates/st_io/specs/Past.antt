-- The images that a stop may leave of a disk, at each moment so far.
use Rattle.std.specs.Prelude.{◌≡◌, ◌⊎◌, ◌↔◌, ◌<◌, ◌≤◌, ℕ, List, Option, Bool, true, false, Result, MatchResult, ◌+◌, ◌-◌, ◌^◌, min, IsErrOf, OnErr}

-- An image is a list of bytes that a stop may leave. A past has the moment, a number that doesn't fall; the images at
-- each moment from a stated one on, which are among those from an earlier one on; and whether a successful sync, one
-- that returns Ok, was just at a moment.
pub record Past : Type 1 where
  pub now : ℕ
  pub left_since : ℕ → List ℕ → Type 0
  pub earlier : (s t : ℕ) (c : List ℕ) → s ≤ t → left_since t c → left_since s c
  pub synced : ℕ → Type 0

-- the images at this moment
abbrev pub Images : Past → List ℕ → Type 0
Images past c = past.left_since past.now c

-- the images at each moment from the first successful sync after t on
abbrev pub LeftSinceSync : Past → ℕ → List ℕ → Type 0
LeftSinceSync past t c = (s : ℕ) × (t < s) × past.synced s × past.left_since s c

-- A disk continues: at the old moment the images since a time split into those up to then and those since then, and
-- the successful syncs up to then are the same.
pub record GoesOn (old new : Past) : Type 0 where
  pub later : old.now ≤ new.now
  pub splits : (t : ℕ) (c : List ℕ) → t ≤ old.now → new.left_since t c → old.left_since t c ⊎ new.left_since old.now c
  pub keeps : (t : ℕ) (c : List ℕ) → t ≤ old.now → old.left_since t c → new.left_since t c
  pub syncs : (s : ℕ) → s ≤ old.now → new.synced s ↔ old.synced s

-- there was a successful sync after t
abbrev pub HasSynced : Past → ℕ → Type 0
HasSynced past t = (s : ℕ) × (t < s) × (s ≤ past.now) × past.synced s

-- The images from the first successful sync after t on can also be split at the old moment, if that sync was before
-- it: into those up to then and those since then.
pub record SplitsSinceSync (old new : Past) (t : ℕ) : Type 0 where
  pub splits : (c : List ℕ) → LeftSinceSync new t c → LeftSinceSync old t c ⊎ new.left_since old.now c
  pub keeps : HasSynced old t → (c : List ℕ) → LeftSinceSync old t c ⊎ new.left_since old.now c → LeftSinceSync new t c

-- there was no successful sync since
abbrev pub NoSync : Past → Past → Type 0
NoSync old new = (s : ℕ) → old.now < s → new.synced s → ⊥

-- a successful sync was just at this moment, and at no other since
pub record OneSync (old new : Past) : Type 0 where
  pub later : old.now < new.now
  pub synced : new.synced new.now
  pub no_other : (s : ℕ) → old.now < s → new.synced s → s ≡ new.now

-- no image is added: each image since the old moment was one then
abbrev pub AddsNone : Past → Past → Type 0
AddsNone old new = (c : List ℕ) → new.left_since old.now c → Images old c

-- each image since the old moment is the result of this step on one of then
abbrev pub Follow : (List ℕ → List ℕ → Type 0) → Past → Past → Type 0
Follow step old new = (c : List ℕ) → new.left_since old.now c → (d : List ℕ) × Images old d × step d c

-- a stop leaves this and nothing else
abbrev pub Only : Past → List ℕ → Type 0
Only past xs = (c : List ℕ) → Images past c → c ≡ xs

-- A disk continues, and every image since the old moment has the property P.
pub record Leaves (P : List ℕ → Type 0) (old new : Past) : Type 0 where
  pub goes : GoesOn old new
  pub each : (c : List ℕ) → new.left_since old.now c → P c

-- A disk continues, and every image since the old moment was one then.
pub record AddsNoImage (old new : Past) : Type 0 where
  pub goes : GoesOn old new
  pub none : AddsNone old new

-- the contents are unchanged, and a stop at any moment since leaves only what it might have left before
pub record StaysAsItWas (told now : Option (List ℕ)) (old new : Past) : Type 0 where
  pub reads : now ≡ told
  pub images : AddsNoImage old new

-- ---- Numbers, such as counters, that are spent whatever a stop leaves of a disk.

-- a number is spent in every present image
abbrev pub SpentInAll : (spent : List ℕ → ℕ → Type 0) → Past → ℕ → Type 0
SpentInAll spent past q = (image : List ℕ) → Images past image → spent image q

-- A disk continues, and numbers spent in every image at the old moment are spent in every image at each moment since.
pub record KeepsSpent (spent : List ℕ → ℕ → Type 0) (old new : Past) : Type 0 where
  pub goes : GoesOn old new
  pub stays : (q : ℕ) → SpentInAll spent old q → (image : List ℕ) → new.left_since old.now image → spent image q

-- ---- Whether a sink is finished after a write.

-- a write that appended leaves the sink unfinished; one that appended nothing or failed leaves this unchanged
abbrev pub WriteUnfinishes : {E : Type 0} → Bool → Bool → Result ℕ E → Type 0
WriteUnfinishes old new result =
    MatchResult result (λ n. (0 < n → new ≡ false) × (n ≡ 0 → new ≡ old)) (λ _. new ≡ old)

-- the sink is finished only if it was before
abbrev pub FinishesNothing : Bool → Bool → Type 0
FinishesNothing before now = now ≡ true → before ≡ true

-- ---- Counts of faults. They never fall, and stay at 2^64 - 1 after they get there.

-- the count is greater than before, or at its maximum
abbrev pub Rose : ℕ → ℕ → Type 0
Rose before now = min (before + 1) (2 ^ 64 - 1) ≤ now

-- the count hasn't fallen, and the result is `Err` only if it rose
pub record HasCause {T E : Type 0} (before now : ℕ) (result : Result T E) : Type 0 where
  pub later : before ≤ now
  pub failed : OnErr result (Rose before now)

-- the count hasn't fallen, and the result is this error only if it rose
pub record FaultHasCause {T E : Type 0} (fault : E) (before now : ℕ) (result : Result T E) : Type 0 where
  pub later : before ≤ now
  pub rose : IsErrOf result fault → Rose before now

-- ---- The surroundings of a call that works on a disk: the disk before the call and after it.

-- a disk; its contents are `None` if it doesn't reveal them
pub record Storage : Type 1 where
  -- its contents, before and after
  pub reads : Option (List ℕ)
  pub reads_behind : Option (List ℕ)
  -- the images that a stop may have left by then, and at each moment until the end of the call
  pub before : Past
  pub behind : Past
  -- it failed in this call
  pub failed : Type 0
  -- it is unchanged
  pub kept : Type 0

-- any disk, by what it reveals
abbrev pub storage : {D : Type 0} (reads : D → Option (List ℕ)) (past : D → Past) (faults : D → ℕ) (disk disk_now : D) → Storage
storage reads past faults disk disk_now = record {
  reads = reads disk;
  reads_behind = reads disk_now;
  before = past disk;
  behind = past disk_now;
  failed = Rose (faults disk) (faults disk_now);
  kept = disk_now ≡ disk;
}
