-- The canonical text (RFC 8785) of the next value among the tokens of a text, if its numbers are whole.
use Rattle.std.specs.Prelude.{◌≡◌, ◌==◌, ⊤, ℕ, List, ◌++◌, length, false, Option, Some, None}
use Rattle.json.specs.Json.{items, members, value}
use Rattle.json.specs.Token.{Token}
use Rattle.serde_json.specs.Data.{Data, Num, Items, Members, no_members}
use Rattle.serde_json.specs.Read.{converted, number_of, of_items, of_json, of_members}
use Rattle.std.specs.List.{AllByRecursion}
use Rattle.st_plain.specs.Plain.{canonical, canonical_items, canonical_members, IsWhole, whole, IsProper, ItemsAreProper, MembersAreProper}
use Rattle.st_plain.specs.Shapes.{whole_items, whole_members, whole_number, whole_value}
use Rattle.st_plain.specs.declared.respelling.ReadRefused.{ReadRefused}
use Rattle.st_plain.specs.declared.respelling.ReadRefused.TheVariants.{NotJson, NotWhole, WantOfMemory}

-- written for a number that is not whole: a byte that no text has
abbrev pub mark : ℕ
mark = 255

-- a text has no mark
abbrev pub HasNoMark : List ℕ → Type 0
HasNoMark text = AllByRecursion (λ byte. (byte == mark) ≡ false) text

-- the text of a proper value, or if there is no value, a text with a mark
abbrev pub Spells : {P : Type 0} → (P → Type 0) → (P → List ℕ) → Option P → List ℕ → Type 0
Spells proper text None added = HasNoMark added → ⊥
Spells proper text (Some p) added = proper p × (added ≡ text p)

-- such a text was added
abbrev pub IsWritten : {P : Type 0} → (P → Type 0) → (P → List ℕ) → Option P → List ℕ → List ℕ → Type 0
IsWritten proper text there before after = (added : List ℕ) × (after ≡ before ++ added) × Spells proper text there added

-- A refusal means this claim, unless memory ran out; it is never about numbers.
abbrev pub IsNoJson : Type 0 → ReadRefused → Type 0
IsNoJson claim NotJson = claim
IsNoJson claim NotWhole = ⊥
IsNoJson claim WantOfMemory = ⊤

-- a number was read and written
pub record IsNumberWritten (digits before after : List ℕ) : Type 0 where
  pub is : Num
  pub read : number_of digits ≡ Some is
  pub written : IsWritten IsWhole (λ z. canonical (whole z)) (whole_number is) before after

-- Lists and objects may nest `depth` deep. `old` and `new` are the tokens before and after reading, `before` and
-- `after` the bytes before and after writing.
module _ (depth : ℕ) (old new : List Token) (before after : List ℕ) where
  -- a value was read and written
  pub record IsRespelled : Type 0 where
    pub is : Data
    pub read : converted of_json (value depth old) ≡ Some (is, new)
    pub written : IsWritten IsProper canonical (whole_value is) before after

  -- the same for the items of a list and its closing bracket, whose text is not added
  pub record ItemsAreRespelled : Type 0 where
    pub are : Items
    pub read : converted of_items (items (value depth) (length old) old) ≡ Some (are, new)
    pub written : IsWritten ItemsAreProper (canonical_items false) (whole_items are) before after

  -- the same for the members of an object and its closing brace
  pub record MembersAreRespelled : Type 0 where
    pub are : Members
    pub read : converted (λ ms. of_members ms no_members) (members (value depth) (length old) old) ≡ Some (are, new)
    pub written : IsWritten MembersAreProper (canonical_members false) (whole_members are) before after
