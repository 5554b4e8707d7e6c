-- The canonical text of a value, which is read as that value again.
use Rattle.std.specs.Prelude.{◌≡◌, ℕ, List, Result, Ok, Err, ◌+◌, ◌-◌, [], ◌∷◌, ◌++◌, Bool, true, false, ◌||◌, ◌==◌}
use Rattle.st_plain.specs.Plain.{canonical, Plain, null, IsProper}
use Rattle.st_plain.specs.Shapes.{json_of}
use Rattle.st_plain.specs.declared.respelling.ReadRefused.{ReadRefused}

-- the value that was read, or null
abbrev pub value_read : Result Plain ReadRefused → Plain
value_read (Ok value) = value
value_read (Err refusal) = null

-- the text is the canonical text of a proper value, and is read as that value
abbrev pub IsReadAgain : List ℕ → Type 0
IsReadAgain text =
    IsProper (value_read (json_of text))
    × (json_of text ≡ Ok (value_read (json_of text)))
    × (canonical (value_read (json_of text)) ≡ text)

-- ---- Where a value ends when other text follows: a text at its closing quotation mark, a list or an object at its
-- closing bracket, a number or a literal before a byte that may follow a value.

-- an opening bracket or brace
abbrev pub opens : ℕ → Bool
opens b = b == 91 || b == 123

-- a closing bracket or brace
abbrev pub closes : ℕ → Bool
closes b = b == 93 || b == 125

-- a byte that may follow a value or a name
abbrev pub follows : ℕ → Bool
follows b = b == 44 || (b == 58 || closes b)

-- nothing, or a byte that may follow a value
abbrev pub can_follow : List ℕ → Bool
can_follow [] = true
can_follow (b ∷ bs) = follows b

-- if the text is a canonical text and something that may follow one, these are the two
abbrev pub Splits : List ℕ → List ℕ → List ℕ → Type 0
Splits text first others =
    (value : Plain) (rest : List ℕ) → IsProper value → text ≡ canonical value ++ rest → can_follow rest ≡ true
    → (first ≡ canonical value) × (others ≡ rest)

-- whether this is the first byte
abbrev pub starts : ℕ → List ℕ → Bool
starts byte [] = false
starts byte (b ∷ bs) = b == byte

-- without the first byte
abbrev pub behind_first : List ℕ → List ℕ
behind_first [] = []
behind_first (b ∷ bs) = bs
