-- A canonical text (RFC 8785) at the front of other text.
use Rattle.std.specs.Prelude.{◌≡◌, ℕ, ◌≤◌, ◌<◌, List, ◌∷◌, ◌++◌, drop, false, ◌+◌, ◌-◌, [], length, Bool, true, not, ◌&&◌, ◌||◌, ◌==◌, if◌then◌else◌, ◌^◌, min, nat_le, Option, Some, None, is_some, option_and_then}
use Rattle.std.specs.Str.{IsUtf8}
use Rattle.st_plain.specs.Plain.{canonical, canonical_items, canonical_members, escape, quoted, Plain, Items, Members, IsProper, ItemsAreProper, MembersAreProper}
use Rattle.st_plain.specs.Measures.{nests, items_nest, members_nest}
use Rattle.st_plain.specs.Objects.{name_in, list_in, members_in}
use Rattle.st_plain.specs.Shapes.{member_in}
use Rattle.st_plain.specs.ReadAgain.{opens, closes, follows}

-- Lists and objects nest at most `depth` deep. `text` is the whole, and `rest` what follows the value.
module _ (depth : ℕ) (text rest : List ℕ) where
  -- a value
  pub record IsInFront : Type 0 where
    pub is : Plain
    pub proper : IsProper is
    pub shallow : nests is ≤ depth
    pub spelled : text ≡ canonical is ++ rest

  -- the items of a list and the bracket that closes it
  pub record ItemsAreInFront : Type 0 where
    pub are : Items
    pub proper : ItemsAreProper are
    pub shallow : items_nest are ≤ depth
    pub spelled : text ≡ canonical_items false are ++ 93 ∷ rest

  -- the members of an object and the brace that closes it
  pub record MembersAreInFront : Type 0 where
    pub are : Members
    pub proper : MembersAreProper are
    pub shallow : members_nest are ≤ depth
    pub spelled : text ≡ canonical_members false are ++ 125 ∷ rest

-- a byte of ASCII as it is escaped
pub record IsEscapeInFront (text rest : List ℕ) : Type 0 where
  pub byte : ℕ
  pub ascii : byte < 128
  pub spelled : text ≡ escape byte ++ rest

-- a text between quotation marks
pub record IsTextInFront (text rest : List ℕ) : Type 0 where
  pub word : List ℕ
  pub utf8 : IsUtf8 word
  pub spelled : text ≡ quoted word ++ rest

-- the name of the first string, escaped in the text
abbrev pub name_of : List ℕ → List ℕ
name_of text = name_in (drop 1 text)

-- The rest after the closing quotation mark, from inside a text. The byte after a backslash is escaped.
unfoldable pub behind_text : Bool → List ℕ → List ℕ
behind_text escaped [] = []
behind_text escaped (b ∷ bs) =
    if not escaped && b == 34 then bs else behind_text (not escaped && b == 92) bs

-- these bytes follow this quotation mark or backslash, and nothing before it ends a text
pub record IsNextMark (bytes : List ℕ) (mark : ℕ) (behind : List ℕ) : Type 0 where
  pub passed : behind_text false bytes ≡ behind_text false (mark ∷ behind)
  pub is : (mark == 34 || mark == 92) ≡ true
  pub shorter : length behind < length bytes

-- Where a byte is: outside all texts, or in one, after an escaping backslash or not.
pub data Place : Type 0 where
  outside : Place
  in_text : Bool → Place

-- The rest after the bracket that closes this one, at this depth inside it. Brackets in a text do not count.
unfoldable pub behind_brackets : ℕ → Place → List ℕ → List ℕ
behind_brackets depth place [] = []
behind_brackets depth (in_text escaped) (b ∷ bs) =
    if not escaped && b == 34 then behind_brackets depth outside bs else
    behind_brackets depth (in_text (not escaped && b == 92)) bs
behind_brackets depth outside (b ∷ bs) =
    if b == 34 then behind_brackets depth (in_text false) bs else
    if opens b then behind_brackets (depth + 1) outside bs else
    if closes b then (if depth == 0 then bs else behind_brackets (depth - 1) outside bs) else
    behind_brackets depth outside bs

-- from the first byte on that may follow a value
unfoldable pub behind_scalar : List ℕ → List ℕ
behind_scalar [] = []
behind_scalar (b ∷ bs) = if follows b then b ∷ bs else behind_scalar bs

-- the rest after the first value
unfoldable pub behind_value : List ℕ → List ℕ
behind_value [] = []
behind_value (b ∷ bs) =
    if b == 34 then behind_text false bs else
    if opens b then behind_brackets 0 outside bs else
    behind_scalar (b ∷ bs)

-- without the first byte if it is a comma
abbrev pub behind_comma : List ℕ → List ℕ
behind_comma [] = []
behind_comma (b ∷ bs) = if b == 44 then bs else b ∷ bs

-- ---- counting

-- the number, or the largest that 64 bits hold
abbrev pub saturated : ℕ → ℕ
saturated n = min n (2 ^ 64 - 1)

-- the room that remains after a text of this size
abbrev pub less : ℕ → ℕ → Option ℕ
less room size = if nat_le size room then Some (room - size) else None

-- the same, if the text nests no deeper than allowed
abbrev pub room_after : ℕ → ℕ → ℕ → ℕ → Option ℕ
room_after max_depth room depth size = if nat_le depth max_depth then less room size else None

-- the entries of the list that is the member of this name
abbrev pub list_at : List ℕ → Option Plain → Option (List Plain)
list_at name there = option_and_then list_in (member_in name there)

-- an object, or no value at all
abbrev pub is_object_if_there : Option Plain → Bool
is_object_if_there None = true
is_object_if_there (Some value) = is_some (members_in value)
