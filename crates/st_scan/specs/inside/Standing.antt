use Rattle.std.specs.Prelude.{◌≡◌, ℕ, ◌<◌, List, ◌∷◌, length}
use Rattle.std.specs.Str.{IsUtf8}
use Rattle.st_plain.specs.Plain.{quoted, member}
use Rattle.st_scan.specs.Standing.{value_of, IsText, entries_left, members_left}

-- the text of the first remaining entry, and the rest after it
pub record IsNextEntry (left entry rest : List ℕ) : Type 0 where
  pub first : IsText entry
  pub others : IsText (91 ∷ rest)
  pub listed : entries_left left ≡ value_of entry ∷ entries_left rest
  pub shorter : length rest < length left

-- the texts of the name and of the value of the first remaining member, and the rest after it
pub record IsNextMember (left name value rest : List ℕ) : Type 0 where
  pub word : List ℕ
  pub utf8 : IsUtf8 word
  pub named : name ≡ quoted word
  pub first : IsText value
  pub others : IsText (123 ∷ rest)
  pub listed : members_left left ≡ member word (value_of value) (members_left rest)
  pub shorter : length rest < length left
