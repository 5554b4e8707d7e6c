-- The first bytes from a gate on, as they are read.
use Rattle.std.specs.Prelude.{◌≡◌, ◌≢◌, ⊤, true, false, ℕ, List, drop, slice_index, Option, Some, None, Result, Ok, Err, ◌+◌, [], ◌∷◌, ◌++◌, length, Bool, ◌&&◌, nat_le}
use Rattle.st_journal.specs.Image.{open_gate, body_length, is_enough, Found}
use Rattle.st_journal.specs.declared.journal.JournalRefused.{JournalRefused}
use Rattle.st_journal.specs.declared.journal.JournalRefused.TheVariants.{TooLong, Damaged, DiskFault, WantOfMemory}
use Rattle.st_journal.specs.declared.window.Window.{Window}

-- an open gate before a body of this length
pub record IsOpenHead (n : ℕ) (from : List ℕ) : Type 0 where
  pub gate : slice_index from 0 ≡ open_gate
  pub enough : is_enough (drop 1 from) ≡ true
  pub long : body_length (drop 1 from) ≡ n

-- an open gate that too few bytes follow
pub record IsDamagedHead (from : List ℕ) : Type 0 where
  pub gate : slice_index from 0 ≡ open_gate
  pub few : is_enough (drop 1 from) ≡ false

-- a closed gate has no body; an open one has the length of its body, or is damaged
abbrev pub HeadIs : List ℕ → Result (Option ℕ) JournalRefused → Type 0
HeadIs from (Ok None) = slice_index from 0 ≢ open_gate
HeadIs from (Ok (Some n)) = IsOpenHead n from
HeadIs from (Err Damaged) = IsDamagedHead from
HeadIs from (Err TooLong) = ⊥
HeadIs from (Err DiskFault) = ⊤
HeadIs from (Err WantOfMemory) = ⊤

-- there is room for a body of this length and the next gate
abbrev pub IfBody : Result (Option ℕ) JournalRefused → (ℕ → Type 0) → Type 0
IfBody (Ok (Some n)) P = P n
IfBody (Ok None) P = ⊤
IfBody (Err refused) P = ⊤

-- one more body after everything found
abbrev pub put_last : List ℕ → Found → Found
put_last body found = record { bodies = found.bodies ++ body ∷ []; end = found.end + 5 + length body }

-- the window has this many bytes from a place on
abbrev pub is_within : Window → ℕ → ℕ → Bool
is_within window at n = nat_le window.start at && nat_le (at + n) (window.start + window.filled)
