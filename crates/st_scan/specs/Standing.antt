-- Objects whose members are lists. `None` is a missing value.
use Rattle.std.specs.List.{list_all}
use Rattle.std.specs.Prelude.{ℕ, Bool, true, ◌&&◌, List, Option, Some, None, ◌≡◌, ◌≤◌, ◌∷◌, unwrap_or}
use Rattle.st_plain.specs.Plain.{canonical, Plain, Members, no_members, IsProper}
use Rattle.st_plain.specs.Measures.{nests}
use Rattle.st_plain.specs.Objects.{members_in}
use Rattle.st_plain.specs.ReadAgain.{value_read}
use Rattle.st_plain.specs.Shapes.{json_of, is_list_if_there, is_object_of, member_in, entries_in}

-- an object whose members all have one of these names and are lists
abbrev pub is_object_of_lists : List (List ℕ) → Option Plain → Bool
is_object_of_lists names there =
    is_object_of names there && list_all (λ name. is_list_if_there (member_in name there)) names

-- the same, or no value
abbrev pub is_object_of_lists_if_there : List (List ℕ) → Option Plain → Bool
is_object_of_lists_if_there names None = true
is_object_of_lists_if_there names (Some value) = is_object_of_lists names (Some value)

-- ---- The value that a canonical text represents, and the entries or members that remain for a cursor over it.

-- the value of the text
unfoldable pub value_of : List ℕ → Plain
value_of text = value_read (json_of text)

-- the text is the canonical text of this value, which is shallow enough to be read
pub record IsTextOf (text : List ℕ) (value : Plain) : Type 0 where
  pub proper : IsProper value
  pub shallow : nests value ≤ 127
  pub spelled : canonical value ≡ text

-- the text is the canonical text of its value
abbrev pub IsText : List ℕ → Type 0
IsText text = IsTextOf text (value_of text)

-- the entries of the list that these bytes are with a bracket in front
unfoldable pub entries_left : List ℕ → List Plain
entries_left left = entries_in (Some (value_of (91 ∷ left)))

-- the members of the object that these bytes are with a brace in front
unfoldable pub members_left : List ℕ → Members
members_left left = unwrap_or (members_in (value_of (123 ∷ left))) no_members
