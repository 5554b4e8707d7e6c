-- Formatting a disk: the gate is shut, everything after it is written, the gate is opened.
use Rattle.std.specs.Prelude.{◌≡◌, ◌⊎◌, ℕ, ◌+◌, not, List, [], ◌∷◌, ◌++◌, drop, replicate, Option, Some, None, Result, Ok, Err}
use Rattle.st_base.specs.Answers.{◌>>◌, holds_or}
use Rattle.st_lms.specs.Tree.{SecretKey}
use Rattle.st_vault.specs.Image.{header_of, kind_of, is_formatted, open_gate, spent, VaultValue, count_of, new_vault}
use Rattle.st_vault.specs.Image.Kind.{Blank}
use Rattle.st_vault.specs.Vault.{opened}
use Rattle.st_vault.specs.declared.formatting.FormatRefused.{FormatRefused}
use Rattle.st_vault.specs.declared.formatting.FormatRefused.TheVariants.{Formatted, DiskFault}
use Rattle.st_vault.specs.declared.opening.OpenRefused.TheVariants as open_refused

-- a disk may be formatted if it is not yet
abbrev pub unformatted : List ℕ → Result (Unit {0}) FormatRefused
unformatted image = holds_or (not (is_formatted image)) Formatted

-- it becomes a new vault of the key
abbrev pub formatted : SecretKey → List ℕ → Result VaultValue FormatRefused
formatted key image = do
  unformatted image
  Ok (new_vault key)

-- the refusal of an error, if it is one
abbrev pub refusal_of : FormatRefused → Option FormatRefused
refusal_of Formatted = Some Formatted
refusal_of DiskFault = None

-- this many zero bytes
unfoldable pub zeros : ℕ → List ℕ
zeros n = replicate n 0

-- the bytes after the gate of a new vault on a disk with these contents: the header, zeros up to the end of the map,
-- and then the earlier bytes
abbrev pub behind_gate : SecretKey → List ℕ → List ℕ
behind_gate key old = (header_of key ++ zeros (7 + count_of key)) ++ drop (64 + count_of key) old

-- the contents after formatting a disk with these contents: an open gate, and those bytes
abbrev pub formatted_image : SecretKey → List ℕ → List ℕ
formatted_image key old = open_gate ∷ behind_gate key old

-- a vault of this key with no spent counter
pub record IsNew (key : SecretKey) (image : List ℕ) : Type 0 where
  pub opens : opened image ≡ Ok (new_vault key)
  pub unspent : spent image ≡ []

-- blank, or a vault of this key with no spent counter
abbrev pub IsFresh : SecretKey → List ℕ → Type 0
IsFresh key image = (kind_of image ≡ Blank) ⊎ IsNew key image

-- it opens as blank, or as the new vault of this key
abbrev pub IsBlankOrNew : SecretKey → List ℕ → Type 0
IsBlankOrNew key image = (opened image ≡ Err open_refused.Blank) ⊎ (opened image ≡ Ok (new_vault key))

-- the possible images after formatting a disk with these contents: the same, or fresh ones if they were blank
abbrev pub IsOldOrFresh : SecretKey → List ℕ → List ℕ → Type 0
IsOldOrFresh key old image = (image ≡ old) ⊎ ((kind_of old ≡ Blank) × IsFresh key image)
