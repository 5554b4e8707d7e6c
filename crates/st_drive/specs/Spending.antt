-- Machines that spend a number on their disk before they release it with a reply, such as counters: which numbers a
-- run has released, and that these are spent.
use Rattle.std.specs.Prelude.{◌≡◌, ◌⊎◌, ◌+◌, ◌-◌, ◌<◌, ℕ, zero, suc, List, [], ◌∷◌, ◌++◌, length, Contains, Option, Some, None}
use Rattle.std.proofs.Common.{inl, inr}
use Rattle.st_io.specs.Past.{Past, Images, LeftSinceSync, SpentInAll}
use Rattle.st_drive.specs.OnDisk.{Effect, Rules, HasReleased, after, replies}
use Rattle.st_drive.specs.Tables.{NoneTwice, Run}
use Rattle.st_drive.specs.Runs.{Begins, NearlyReplied}

-- a machine of type M with a context of type C that spends numbers
pub record Spender (M C : Type 0) : Type 1 where
  -- its reply to a line, and the machine after it
  pub reply : M → List ℕ → List ℕ
  pub next : M → List ℕ → M
  -- the number in its reply to a line
  pub number : M → List ℕ → Option ℕ
  -- a number is spent in an image
  pub spent : List ℕ → ℕ → Type 0
  -- an image is that of this machine: a run that starts on it starts as this machine
  pub stands : M → List ℕ → Type 0
  -- the possible effects on its context
  pub effect : Effect M C

-- a number, or none, as a list
abbrev pub listed : Option ℕ → List ℕ
listed None = []
listed (Some q) = q ∷ []

-- all these numbers are spent in an image
abbrev pub AllSpent : (spent : List ℕ → ℕ → Type 0) → List ℕ → List ℕ → Type 0
AllSpent spent numbers image = (q : ℕ) → Contains numbers q → spent image q

-- the state after a line: the numbers so far and that of its reply, or the next machine
abbrev pub kept_with : {M C : Type 0} → Spender M C → M → (List ℕ ⊎ M) → List ℕ → (List ℕ ⊎ M)
kept_with spender m (inl numbers) line = inl (numbers ++ listed (spender.number m line))
kept_with spender m (inr before) line = inr (spender.next m line)

-- an image has these numbers as spent, or is that of this machine
abbrev pub HoldsKept : {M C : Type 0} → Spender M C → (List ℕ ⊎ M) → List ℕ → Type 0
HoldsKept spender (inl numbers) image = AllSpent spender.spent numbers image
HoldsKept spender (inr m) image = spender.stands m image

-- its rules: its state is the numbers of its replies, and itself
abbrev pub spending : {M C : Type 0} → Spender M C → Rules M C (List ℕ ⊎ M)
spending spender = record {
  reply = spender.reply;
  next = spender.next;
  keep = kept_with spender;
  holds = HoldsKept spender;
  effect = spender.effect;
}

-- the numbers in the replies to these lines
abbrev pub numbers : {M C : Type 0} → Spender M C → M → List (List ℕ) → List ℕ
numbers spender m [] = []
numbers spender m (line ∷ lines) = listed (spender.number m line) ++ numbers spender (spender.next m line) lines

-- the numbers in the replies to these lines at least one byte of which is among the n written ones
abbrev pub released : {M C : Type 0} → Spender M C → M → List (List ℕ) → ℕ → List ℕ
released spender m [] n = []
released spender m (line ∷ lines) zero = []
released spender m (line ∷ lines) (suc n) =
    listed (spender.number m line)
    ++ released spender (spender.next m line) lines (suc n - length (spender.reply m line))

-- ---- a whole run

-- an image is that of the machine after a prefix of these lines
abbrev pub StandsBehind : {M C : Type 0} → Spender M C → M → (lines : List (List ℕ)) → (image : List ℕ) → Type 0
StandsBehind spender m lines image =
    (first : List (List ℕ)) × Begins first lines × spender.stands (after (spending spender) m first) image

-- The same for a prefix that has each line with a written byte of its reply. All replies to it are written, or all
-- except the last: a stop loses at most one.
pub record StandsReplied {M C : Type 0} (spender : Spender M C)
    (m : M) (lines : List (List ℕ)) (written image : List ℕ) : Type 0 where
  pub first : List (List ℕ)
  pub begins : Begins first lines
  pub released : HasReleased (spending spender) m lines written first
  pub replied : NearlyReplied (replies (spending spender) m) written first
  pub stands : spender.stands (after (spending spender) m first) image

-- the images of the disk of a run that starts as m, at each moment
pub record KeepsStanding {M C : Type 0} (spender : Spender M C) (m : M) (lines : List (List ℕ)) (old new : Past) : Type 0 where
  -- at each moment an image is one of the start, or that of the machine after a prefix of the lines
  pub moments : (image : List ℕ) → new.left_since old.now image → Images old image ⊎ StandsBehind spender m lines image
  -- from the first successful sync on it is that of such a machine
  pub synced : (image : List ℕ) → LeftSinceSync new old.now image → StandsBehind spender m lines image

-- The images at the end: each is one of the start, if nothing was written, or that of the machine after such a
-- prefix.
abbrev pub EndsStanding : {M C : Type 0} → Spender M C → (m : M) (lines : List (List ℕ)) (written : List ℕ) (old new : Past) → Type 0
EndsStanding spender m lines written old new =
    (image : List ℕ) → Images new image → (Images old image × (written ≡ [])) ⊎ StandsReplied spender m lines written image

-- Those of a run that opened its disk: each is that of the machine after such a prefix.
abbrev pub EndsOpened : {M C : Type 0} → Spender M C → (m : M) (lines : List (List ℕ)) (written : List ℕ) (new : Past) → Type 0
EndsOpened spender m lines written new = (image : List ℕ) → Images new image → StandsReplied spender m lines written image

-- A number is below the machine's lowest at the start, or was released, or is the one after those: at most one number
-- is spent that the run didn't release.
abbrev pub CostsOne : (lowest : ℕ) → (out : List ℕ) → ℕ → Type 0
CostsOne lowest out q = (q < lowest) ⊎ Contains out q ⊎ (q ≡ lowest + length out)

-- The numbers that a run that starts as m loses: if a byte was written, or the image isn't one of the start, each
-- number that is spent at the end is such a one.
abbrev pub LosesOne : {M C : Type 0} → (spender : Spender M C) → (lowest : M → ℕ) (m : M) (lines : List (List ℕ)) (written : List ℕ)
    (old new : Past) → Type 0
LosesOne spender lowest m lines written old new =
    (image : List ℕ) → Images new image → (Images old image × (written ≡ []))
    ⊎ ((q : ℕ) → spender.spent image q → CostsOne (lowest m) (released spender m lines (length written)) q)

-- Numbers across stops, of a run that starts as m on this image: the released ones are not spent at the start, no two
-- are equal, and each is spent in every image at the end.
pub record KeptNumbers {M C : Type 0} (spender : Spender M C)
    (m : M) (image : List ℕ) (lines : List (List ℕ)) (written : List ℕ) (new : Past) : Type 0 where
  pub fresh : (q : ℕ) → Contains (released spender m lines (length written)) q → spender.spent image q → ⊥
  pub once : NoneTwice (released spender m lines (length written))
  pub durable : (q : ℕ) → Contains (released spender m lines (length written)) q → SpentInAll spender.spent new q

-- such a run, to an image that a stop at its end may leave
abbrev pub run_of : {M C : Type 0} → Spender M C → M → (image : List ℕ) → List (List ℕ) → (written left : List ℕ) → Run
run_of spender m image lines written left =
    record { image = image; released = released spender m lines (length written); left = left }
