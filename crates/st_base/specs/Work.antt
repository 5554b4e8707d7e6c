-- Counters of work: adding one of each kind, and bounds on the counts.
use Rattle.std.specs.Prelude.{◌≡◌, ℕ, ◌+◌, ◌-◌, ◌^◌, ◌≤◌, min, max}

-- the work of each kind: files read, signed texts opened, operations applied
pub record WorkValue : Type 0 where
  pub files : ℕ
  pub proofs : ℕ
  pub applies : ℕ

-- no work yet
abbrev pub no_work : WorkValue
no_work = record { files = 0; proofs = 0; applies = 0 }

-- one more, if there is room for one more, and never fewer
abbrev pub counted : ℕ → ℕ
counted n = max n (min (n + 1) (2 ^ 64 - 1))

-- one more file was read, and nothing else was counted
abbrev pub one_file : WorkValue → WorkValue
one_file work = record work { files = counted work.files }

-- one more signed text was opened
abbrev pub one_proof : WorkValue → WorkValue
one_proof work = record work { proofs = counted work.proofs }

-- one more operation was applied
abbrev pub one_apply : WorkValue → WorkValue
one_apply work = record work { applies = counted work.applies }

-- at most this many signed texts were opened, the count did not fall, and nothing else was counted
pub record ProofsAtMost (most : ℕ) (old new : WorkValue) : Type 0 where
  pub files : new.files ≡ old.files
  pub least : old.proofs ≤ new.proofs
  pub proofs : new.proofs ≤ old.proofs + most
  pub applies : new.applies ≡ old.applies

-- at most this many operations were applied, the count did not fall, and nothing else was counted
pub record AppliesAtMost (most : ℕ) (old new : WorkValue) : Type 0 where
  pub files : new.files ≡ old.files
  pub proofs : new.proofs ≡ old.proofs
  pub least : old.applies ≤ new.applies
  pub applies : new.applies ≤ old.applies + most
