use Rattle.std.specs.Prelude.{◌≡◌, Option, Some, None}
use Rattle.st_vault.specs.Image.{VaultValue}
use Rattle.st_jws.specs.Signing.{signing_input}
use Rattle.st_wallet.specs.declared.draft.Draft.{Draft}
use Rattle.st_wallet.specs.declared.draft.DraftRefused.{DraftRefused}
use Rattle.st_wallet.specs.declared.draft.DraftRefused.TheVariants.{WantOfMemory}
use Rattle.st_wallet.specs.declared.signing_vault.VaultLevels.{VaultLevels}
use Rattle.st_wallet.specs.declared.signing_vault.VaultLevels.TheVariants.{OneLevel, TwoLevels}

-- the input of the signature is that of the payload
abbrev pub HasInput : Draft → Type 0
HasInput draft = draft.input ≡ signing_input draft.payload

-- ---- refusals

-- the refusal of an error, if it is one
abbrev pub refusal_of : DraftRefused → Option DraftRefused
refusal_of WantOfMemory = None
refusal_of refusal = Some refusal

-- ---- The vault of a wallet, alone or with the data stored for signatures of two levels.

-- it is the same vault
abbrev pub vault_of_levels : VaultLevels → VaultValue
vault_of_levels (OneLevel vault) = vault
vault_of_levels (TwoLevels vault) = vault
