-- The effect of a write on the bytes of a disk, and its possible effects if it is interrupted.
use Rattle.std.proofs.Common.{inl, inr, arith, refl, subst}
use Rattle.std.proofs.lemmas.Option.{same_Some}
use Rattle.std.specs.Prelude.{◌≡◌, ℕ, ◌+◌, ◌≤◌, max, List, ◌++◌, length, take, drop, Some, Option, ◌⊎◌, suc, [], ◌∷◌, ◌-◌, replicate, ⊤, ◌^◌, ◌<◌, min, Bool, Contains}
use Rattle.st_io.specs.Past.{Past, Images}
use Rattle.st_io.specs.declared.history.Step.{Step}
use Rattle.st_io.specs.declared.history.Step.TheVariants.{Wrote, Synced}
use Rattle.st_io.specs.declared.history.Written.{Written}
use Rattle.st_io.specs.declared.history.Pick.{Pick}
use Rattle.st_io.specs.declared.history.Pick.TheVariants.{Old, New, Fill}

-- if the disk reveals its contents, they have this property
abbrev pub IfTold : Option (List ℕ) → (List ℕ → Type 0) → Type 0
IfTold told P = (xs : List ℕ) → told ≡ Some xs → P xs

-- the contents are revealed afterwards if and only if they were before, and R relates the two
pub record Turns (old new : Option (List ℕ)) (R : List ℕ → List ℕ → Type 0) : Type 0 where
  pub forward : IfTold old (λ xs. (ys : List ℕ) × (new ≡ Some ys) × R xs ys)
  pub back : IfTold new (λ ys. (xs : List ℕ) × (old ≡ Some xs) × R xs ys)

-- these bytes with others from this place on, also past the end
abbrev pub overwritten : ℕ → List ℕ → List ℕ → List ℕ
overwritten at bytes old = take at old ++ bytes ++ drop (at + length bytes) old

-- new is old with these bytes from this place on
abbrev pub Holds : ℕ → List ℕ → List ℕ → List ℕ → Type 0
Holds at bytes old new = new ≡ overwritten at bytes old

-- n bytes were to be written from this place on: any bytes in the range and past the old end, the same elsewhere; no
-- shorter, and no longer than the range's end
pub record Torn (at n : ℕ) (old new : List ℕ) : Type 0 where
  pub before : take at new ≡ take at old
  pub after : drop (at + n) new ≡ drop (at + n) old
  pub no_shorter : length old ≤ length new
  pub no_longer : length new ≤ max (length old) (at + n)

-- ---- Bytes in memory as a disk: their changes, and the images that a stop may leave.

-- the first bytes, and each write and each successful sync since, the newest first
pub record DiskHistory : Type 0 where
  pub first : List ℕ
  pub steps : List Step

-- the contents after one more step
abbrev pub after_step : Step → List ℕ → List ℕ
after_step (Wrote written) bytes = overwritten written.at written.bytes bytes
after_step Synced bytes = bytes

-- the contents after all steps
abbrev pub reads_after : List ℕ → List Step → List ℕ
reads_after first [] = first
reads_after first (step ∷ earlier) = after_step step (reads_after first earlier)

-- A stop just after these steps may leave this: at first and after a successful sync only the contents; after a write
-- the contents, and each earlier image with the range torn.
abbrev pub IsImage : List ℕ → List Step → List ℕ → Type 0
IsImage first [] c = c ≡ first
IsImage first (Wrote written ∷ earlier) c =
    (c ≡ reads_after first (Wrote written ∷ earlier))
    ⊎ ((d : List ℕ) × IsImage first earlier d × Torn written.at (length written.bytes) d c)
IsImage first (Synced ∷ earlier) c = c ≡ reads_after first earlier

-- an image of the present, or of an earlier moment from t on; a moment is a number of steps
abbrev pub WasLeft : List ℕ → List Step → ℕ → List ℕ → Type 0
WasLeft first [] t c = IsImage first [] c
WasLeft first (step ∷ earlier) t c =
    IsImage first (step ∷ earlier) c ⊎ ((t ≤ length earlier) × WasLeft first earlier t c)

-- a successful sync was just at this moment
abbrev pub WasSynced : List Step → ℕ → Type 0
WasSynced [] s = ⊥
WasSynced (Wrote written ∷ earlier) s = WasSynced earlier s
WasSynced (Synced ∷ earlier) s = (s ≡ suc (length earlier)) ⊎ WasSynced earlier s

-- an image since a moment is one since an earlier moment
pub was_earlier : (first : List ℕ) (steps : List Step) (s t : ℕ) (c : List ℕ) → s ≤ t → WasLeft first steps t c → WasLeft first steps s c
was_earlier first [] s t c le left = left
was_earlier first (step ∷ earlier) s t c le (inl now) = inl now
was_earlier first (step ∷ earlier) s t c le (inr was) = inr (omega (arith, le, was.0), was_earlier first earlier s t c le was.1)

-- the images that a stop may leave, at each moment so far
abbrev pub past_of : DiskHistory → Past
past_of history = record {
  now = length history.steps;
  left_since = WasLeft history.first history.steps;
  earlier = was_earlier history.first history.steps;
  synced = WasSynced history.steps;
}

-- the contents
abbrev pub reads_of : DiskHistory → List ℕ
reads_of history = reads_after history.first history.steps

-- the history with one more step
abbrev pub with_step : Step → DiskHistory → DiskHistory
with_step step history = record { first = history.first; steps = step ∷ history.steps }

-- the history with one more write
abbrev pub with_write : ℕ → List ℕ → DiskHistory → DiskHistory
with_write at bytes = with_step (Wrote (record { at = at; bytes = bytes }))

image_now : (first : List ℕ) (steps : List Step) → IsImage first steps (reads_after first steps)
image_now first [] = refl
image_now first (Wrote written ∷ earlier) = inl refl
image_now first (Synced ∷ earlier) = refl

pub left_now : (first : List ℕ) (steps : List Step) (t : ℕ) → WasLeft first steps t (reads_after first steps)
left_now first [] t = refl
left_now first (step ∷ earlier) t = inl (image_now first (step ∷ earlier))

-- the contents are one of their images
pub reads_is_image : (history : DiskHistory) → IfTold (Some (reads_of history)) (Images (past_of history))
reads_is_image history xs told =
    subst (Images (past_of history)) (same_Some (reads_of history) xs told) (left_now history.first history.steps (length history.steps))

-- ---- One image of a disk in memory, chosen by the value of each written byte that no successful sync has made durable.

-- an image after a write: the old bytes, and 0 past the old end; the new bytes; or this byte in the whole range
abbrev pub torn_by : Pick → Written → List ℕ → List ℕ
torn_by Old written image = image ++ replicate (written.at + length written.bytes - length image) 0
torn_by New written image = overwritten written.at written.bytes image
torn_by (Fill byte) written image = overwritten written.at (replicate (length written.bytes) byte) image

-- after one more step, given the contents before it
abbrev pub crash_step : Pick → Step → List ℕ → List ℕ → List ℕ
crash_step pick (Wrote written) reads image = torn_by pick written image
crash_step pick Synced reads image = reads

-- after all steps
abbrev pub crashed : Pick → List ℕ → List Step → List ℕ
crashed pick first [] = first
crashed pick first (step ∷ earlier) = crash_step pick step (reads_after first earlier) (crashed pick first earlier)

-- ---- A disk that doesn't reveal its contents.

-- a stop may leave anything, and no sync is known to be successful
abbrev pub untold_past : Past
untold_past = record {
  now = 0;
  left_since = λ t c. ⊤;
  earlier = λ s t c le left. left;
  synced = λ s. ⊥;
}

-- ---- Devices in memory that fail at listed calls; sources and sinks move small pieces.

-- the number of the next call after this many; it stays at 2^64 - 1
abbrev pub next_call : ℕ → ℕ
next_call calls = min (calls + 1) (2 ^ 64 - 1)

-- a source: the remaining bytes, the most bytes per call, the calls that fail, the number of calls, and of faults
pub record SourceScript : Type 0 where
  pub left : List ℕ
  pub piece : ℕ
  pub failing : List ℕ
  pub calls : ℕ
  pub faults : ℕ

-- a sink: the written bytes, the most bytes per call, the calls that fail, the number of calls, whether it is
-- finished, and the number of faults
pub record SinkScript : Type 0 where
  pub written : List ℕ
  pub piece : ℕ
  pub failing : List ℕ
  pub calls : ℕ
  pub finished : Bool
  pub faults : ℕ

-- a disk: its history, the calls that fail, the last call that may succeed, the number of calls, and of faults
pub record DiskScript : Type 0 where
  pub history : DiskHistory
  pub failing : List ℕ
  pub last : ℕ
  pub calls : ℕ
  pub faults : ℕ

-- the call with this number fails: it is listed, or is after the last that may succeed
abbrev pub Fails : List ℕ → ℕ → ℕ → Type 0
Fails failing last call = Contains failing call ⊎ (last < call)

-- the next call fails by the script
abbrev pub FailsNext : DiskScript → Type 0
FailsNext disk = Fails disk.failing disk.last (next_call disk.calls)

-- one more call was counted, and the script is the same
pub record CountsCall (old new : DiskScript) : Type 0 where
  pub calls : new.calls ≡ next_call old.calls
  pub failing : new.failing ≡ old.failing
  pub last : new.last ≡ old.last
