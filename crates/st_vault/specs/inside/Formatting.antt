use Rattle.std.specs.Prelude.{◌≡◌, ◌≢◌, ◌⊎◌, ℕ, ◌+◌, ◌≤◌, List, length, slice_index, true, ◌<◌}
use Rattle.st_lms.specs.Tree.{SecretKey, IsSecretKey}
use Rattle.st_vault.specs.Formatting.{zeros, IsNew}
use Rattle.st_vault.specs.Image.{kind_of, open_gate, key_in, map_in, is_formatted, count_of}
use Rattle.st_vault.specs.Image.Kind.{Blank}
use Rattle.st_vault.specs.declared.formatting.Start.{Start}
use Rattle.st_vault.specs.declared.formatting.Start.TheVariants.{Formatted, Short, Shut}

-- ---- between the steps

-- the possible images after shutting the gate
abbrev pub IsOldOrBlank : List ℕ → List ℕ → Type 0
IsOldOrBlank old image = (image ≡ old) ⊎ ((kind_of old ≡ Blank) × (kind_of image ≡ Blank))

-- there is a gate, and it is shut
pub record IsShut (image : List ℕ) : Type 0 where
  pub there : 1 ≤ length image
  pub gate : slice_index image 0 ≢ open_gate

-- everything after the gate is that of a new vault
pub record IsFilled (key : SecretKey) (image : List ℕ) : Type 0 where
  pub known : IsSecretKey key
  pub long : 64 + count_of key ≤ length image
  pub key_is : key_in image ≡ key
  pub map_is : map_in (count_of key) image ≡ zeros (count_of key)

-- opening the gate makes a new vault of the filled image
abbrev pub OpensTo : List ℕ → List ℕ → Type 0
OpensTo old image = (key : SecretKey) → IsFilled key old → IsNew key image

-- ---- The state of a disk before it is formatted.

-- formatted; too few bytes; or a shut gate
abbrev pub Begins : Start → List ℕ → Type 0
Begins Formatted image = is_formatted image ≡ true
Begins Short image = length image < 64
Begins Shut image = IsShut image
