-- The result of opening an image.
use Rattle.std.specs.Prelude.{◌≡◌, ℕ, List, Option, Some, None, Result, Ok, Err, ◌⊎◌, ◌<◌, IsSome, suc, Contains}
use Rattle.st_base.specs.Answers.{◌>>=◌}
use Rattle.st_io.specs.Past.{Rose, Past, Images, Leaves, Only, KeepsSpent, SpentInAll, Storage}
use Rattle.st_io.specs.Histories.{IfTold}
use Rattle.st_lms.specs.Tree.{SecretKey}
use Rattle.st_vault.specs.Image.{Kind, kind_of, next_counter, IsSpent, VaultValue, left_of, vault_after, counter_of}
use Rattle.st_vault.specs.Image.Kind.{Blank, Damaged, Whole}
use Rattle.st_vault.specs.declared.counter.Counter.{Counter}
use Rattle.st_vault.specs.declared.opening.OpenRefused.{OpenRefused}
use Rattle.st_vault.specs.declared.opening.OpenRefused.TheVariants as refused
use Rattle.st_vault.specs.declared.vault.ReserveRefused.{ReserveRefused}
use Rattle.st_vault.specs.declared.vault.ReserveRefused.TheVariants.{Exhausted, DiskFault}
use Rattle.st_vault.specs.declared.vault.Vault.{Vault}

-- the key of a vault, or why there is none
abbrev pub key_by_kind : Kind → Result SecretKey OpenRefused
key_by_kind Blank = Err refused.Blank
key_by_kind Damaged = Err refused.Damaged
key_by_kind (Whole key map) = Ok key

-- the key of the vault in an image, or why there is none
unfoldable pub key_of : List ℕ → Result SecretKey OpenRefused
key_of image = key_by_kind (kind_of image)

-- the vault in an image, or why there is none
unfoldable pub opened : List ℕ → Result VaultValue OpenRefused
opened image = do
  key ← key_of image
  Ok (record { key = key; next = next_counter image })

-- the refusal of an error, if it is one
abbrev pub refusal_of : OpenRefused → Option OpenRefused
refusal_of refused.Blank = Some refused.Blank
refusal_of refused.Damaged = Some refused.Damaged
refusal_of refused.DiskFault = None

-- each present image opens with this result
abbrev pub AllOpenAs : Result VaultValue OpenRefused → Past → Type 0
AllOpenAs found past = (image : List ℕ) → Images past image → opened image ≡ found

-- a disk's contents are this vault, if it reveals them
abbrev pub ReadsAs : Option (List ℕ) → VaultValue → Type 0
ReadsAs told vault = IfTold told (λ image. opened image ≡ Ok vault)

-- ---- The answer of `reserve`, and what a call that spends the next counter of a vault leaves on its disk.

-- the vault after its next counter, and that counter; the vault itself if and only if none is left; a fault only if
-- the disk's count of faults rose
abbrev pub ReserveGives : Vault → ℕ → ℕ → Result (Vault × Counter) ReserveRefused → Type 0
ReserveGives vault before now (Ok given) =
    (0 < left_of vault) × (given.0 ≡ vault_after vault) × (given.1 ≡ counter_of vault)
ReserveGives vault before now (Err (Exhausted back)) = (left_of vault ≡ 0) × (back ≡ vault)
ReserveGives vault before now (Err DiskFault) = (0 < left_of vault) × Rose before now

-- an image is the vault, before its next counter was spent or after
abbrev pub IsBeforeOrAfter : VaultValue → List ℕ → Type 0
IsBeforeOrAfter vault image = (opened image ≡ Ok vault) ⊎ (opened image ≡ Ok (vault_after vault))

-- A call that spends the next counter of a vault, if one is left, whatever its result.
pub record MaySpend (vault : VaultValue) (disk : Storage) : Type 0 where
  -- if no counter is left, the disk is unchanged
  pub untouched : left_of vault ≡ 0 → disk.kept
  -- if a stop before the call leaves the vault, a stop at any moment of the call leaves the vault before its next
  -- counter was spent, or after
  pub moments : AllOpenAs (Ok vault) disk.before → Leaves (IsBeforeOrAfter vault) disk.before disk.behind
  -- counters that were spent in every image stay so at each moment of the call
  pub stays : IfTold disk.reads (λ image. KeepsSpent IsSpent disk.before disk.behind)

-- Such a call has spent the counter, and returned this vault.
pub record HasSpent (vault given : VaultValue) (disk : Storage) : Type 0 where
  -- the counter was not spent
  pub unspent : IfTold disk.reads (λ image. IsSpent image vault.next → ⊥)
  -- the contents are the returned vault, also after a stop
  pub reads : ReadsAs disk.reads_behind given
  pub told : IfTold disk.reads (λ image. IsSome disk.reads_behind)
  pub durable : IfTold disk.reads_behind (Only disk.behind)
  -- and the counter is spent in every image
  pub spent : IfTold disk.reads (λ image. SpentInAll IsSpent disk.behind vault.next)

-- ---- Runs of vaults on one disk, one after another, each stopped somewhere.

-- runs: the disk at the start and at the stop of each, and the counters that each released
pub record Runs (Device : Type 0) : Type 0 where
  pub start : ℕ → Device
  pub stop : ℕ → Device
  pub released : ℕ → List ℕ

-- A run keeps the counters spent in every image; each counter that it releases is spent in every image at its stop,
-- and wasn't at its start.
pub record SpendsFirst {Device : Type 0} (past : Device → Past) (runs : Runs Device) (n : ℕ) : Type 0 where
  pub keeps : KeepsSpent IsSpent (past (runs.start n)) (past (runs.stop n))
  pub spent : (q : ℕ) → Contains (runs.released n) q → SpentInAll IsSpent (past (runs.stop n)) q
  pub new : (q : ℕ) → Contains (runs.released n) q → SpentInAll IsSpent (past (runs.start n)) q → ⊥

-- the next run starts only from what a stop of this one may leave
abbrev pub GoesOnFrom : {Device : Type 0} → (Device → Past) → Runs Device → ℕ → Type 0
GoesOnFrom past runs n = (image : List ℕ) → Images (past (runs.start (suc n))) image → Images (past (runs.stop n)) image

-- In such runs no counter is released by two of them.
abbrev pub NoneTwice : {Device : Type 0} → (Device → Past) → Type 0
NoneTwice {Device} past = (runs : Runs Device) → ((n : ℕ) → SpendsFirst past runs n) → ((n : ℕ) → GoesOnFrom past runs n)
    → (i j q : ℕ) → i < j → Contains (runs.released i) q → Contains (runs.released j) q → ⊥
