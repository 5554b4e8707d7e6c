use Rattle.std.specs.Prelude.{◌≡◌, ⊤, ℕ, List, [], ◌∷◌, Option, Some, None}
use Rattle.st_vault.specs.Image.{VaultValue}
use Rattle.st_wallet.specs.Drafts.{Found}
use Rattle.st_wallet.specs.Machine.{answered}
use Rattle.st_wallet.specs.declared.command.LineCause.{LineCause}
use Rattle.st_wallet.specs.declared.command.LineCause.TheVariants as cause
use Rattle.st_wallet.specs.declared.command.LineRefused.{LineRefused}
use Rattle.st_wallet.specs.declared.command.LineRefused.TheVariants.{BadLine, WantOfMemory}
use Rattle.st_wallet.specs.declared.planning.Plan.{Plan}
use Rattle.st_wallet.specs.declared.planning.Plan.TheVariants.{Tell, Sign, SignMessage}
use Rattle.st_wallet.specs.inside.Drafts.{HasInput}

-- the signed input of an operation is its payload, and two levels require a vault with 1,024 counters
abbrev pub IsReady : VaultValue → Plan → Type 0
IsReady vault (Tell text) = ⊤
IsReady vault (Sign draft) = HasInput draft
IsReady vault (SignMessage message) = vault.key.tree ≡ 6

-- the state after these lines
abbrev pub after : Found → List (List ℕ) → Found
after found [] = found
after found (line ∷ lines) = after (answered found line).next lines

-- the cause of an error, if it has one
abbrev pub cause_of : LineRefused → Option LineCause
cause_of (BadLine cause) = Some cause
cause_of WantOfMemory = None
