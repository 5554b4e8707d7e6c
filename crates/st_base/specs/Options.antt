-- The ? of definitions that give an option, for a `do` block of a module that imports it.
use Rattle.std.specs.Prelude.{Bool, if◌then◌else◌, Option, None, option_and_then}

infixl 10 ◌>>=◌
-- the second step, if the first gave a value
abbrev pub ◌>>=◌ : {A B : Type 0} → Option A → (A → Option B) → Option B
found >>= f = option_and_then f found

infixl 10 ◌>>◌
-- the second step, if a test holds
abbrev pub ◌>>◌ : {B : Type 0} → Bool → Option B → Option B
test >> next = if test then next else None
