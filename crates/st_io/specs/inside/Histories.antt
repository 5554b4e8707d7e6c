use Rattle.std.specs.Prelude.{ℕ, ◌-◌, ◌≤◌, ⊤, List, length, ◌≡◌, [], ◌∷◌, Some, None, Option}
use Rattle.st_io.specs.Histories.{reads_after}
use Rattle.st_io.specs.declared.history.Step.{Step}
use Rattle.st_io.specs.declared.history.Step.TheVariants.{Wrote, Synced}

-- a write starts within both, or at their ends
abbrev pub BeginsWithin : Step → List ℕ → List ℕ → Type 0
BeginsWithin (Wrote written) reads image = (written.at ≤ length reads) × (written.at ≤ length image)
BeginsWithin Synced reads image = ⊤

-- each write started within the contents at that time, or at their end
abbrev pub AllBeganWithin : List ℕ → List Step → Type 0
AllBeganWithin first [] = ⊤
AllBeganWithin first (Wrote written ∷ earlier) = (written.at ≤ length (reads_after first earlier)) × AllBeganWithin first earlier
AllBeganWithin first (Synced ∷ earlier) = AllBeganWithin first earlier

-- the stored bytes are those of the history
pub record IsKept (first : List ℕ) (steps : List Step) (now : List ℕ) : Type 0 where
  pub reads : now ≡ reads_after first steps
  pub within : AllBeganWithin first steps

-- the copy of the first bytes, or the present ones if no copy was needed yet
abbrev pub first_of : Option (List ℕ) → List ℕ → List ℕ
first_of None now = now
first_of (Some first) now = first
