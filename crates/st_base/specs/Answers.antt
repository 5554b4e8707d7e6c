-- The answer of a call: the value of its definition, or the refusal that the definition gives, or an out-of-memory
-- error, which no definition mentions.
use Rattle.std.specs.Prelude.{◌≡◌, Bool, true, false, Option, IfSome, Result, Ok, Err}

infixl 10 ◌>>=◌
-- the ? of definitions: the second step, if the first gave a value
abbrev pub ◌>>=◌ : {A B E : Type 0} → Result A E → (A → Result B E) → Result B E
Ok x >>= f = f x
Err refusal >>= f = Err refusal

infixl 10 ◌>>◌
-- the same after a step without a value, such as a test
abbrev pub ◌>>◌ : {B E : Type 0} → Result (Unit {0}) E → Result B E → Result B E
Ok _ >> next = next
Err refusal >> next = Err refusal

-- a step that passes if a test holds, and else gives this refusal
abbrev pub holds_or : {E : Type 0} → Bool → E → Result (Unit {0}) E
holds_or true refusal = Ok tt
holds_or false refusal = Err refusal

-- The answer agrees with the definition: its value, seen by `view`, or the error's refusal. An error that is no
-- refusal means out of memory, and is always allowed.
abbrev pub GivesAs : {Found Value Error Refusal : Type 0} → (Found → Value) → (Error → Option Refusal)
    → Result Value Refusal → Result Found Error → Type 0
GivesAs view refusal_of says (Ok found) = says ≡ Ok (view found)
GivesAs view refusal_of says (Err error) = IfSome (refusal_of error) (λ refusal. says ≡ Err refusal)

-- the same for a value that definitions see unchanged
abbrev pub Gives : {Value Error Refusal : Type 0} → (Error → Option Refusal)
    → Result Value Refusal → Result Value Error → Type 0
Gives refusal_of says answer = GivesAs (λ found. found) refusal_of says answer
