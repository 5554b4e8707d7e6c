-- The plan in the words of a workload.
use Rattle.std.specs.Io.KnownBytes.{Appends}
use Rattle.std.specs.Prelude.{ℕ, ◌-◌, ◌^◌, List, [], ◌∷◌, nat_le, Option, Some, None, ◌==◌, ◌||◌, Bool}
use Rattle.st_base.specs.Options.{◌>>=◌, ◌>>◌}
use Rattle.st_base.specs.Texts.{number_of}
use Rattle.st_drive.specs.Runs.{Begins}
use Rattle.st_generate.specs.declared.plan.Plan.{Plan}

-- the largest number of identifiers of a workload
abbrev pub most_dids : ℕ
most_dids = 200

-- the largest number of rounds in which each of them is updated
abbrev pub most_rounds : ℕ
most_rounds = 30

-- a seed, a number of identifiers, which is at least 1, and a number of rounds, each in decimal
abbrev pub plan_with : List ℕ → List ℕ → List ℕ → Option Plan
plan_with seed dids rounds = do
  seed ← number_of (2 ^ 64 - 1) seed
  dids ← number_of most_dids dids
  nat_le 1 dids
  rounds ← number_of most_rounds rounds
  Some (record { seed = seed; dids = dids; rounds = rounds })

-- three words, and no more
abbrev pub plan_of : List (List ℕ) → Option Plan
plan_of (seed ∷ dids ∷ rounds ∷ []) = plan_with seed dids rounds
plan_of words = None

-- ---- A run that writes a summary.

-- the statuses of such a run: the summary is complete, the sink failed, or memory ran out
abbrev pub is_generate_end : ℕ → Bool
is_generate_end status = status == 0 || (status == 3 || status == 6)

-- a prefix of the text follows what was written before
abbrev pub WritesFront : (text : List ℕ) (held holds : Option (List ℕ)) → Type 0
WritesFront text held holds = (front : List ℕ) × Begins front text × Appends held holds front
