-- The parts of a plain value.
use Rattle.std.specs.List.{list_any}
use Rattle.std.specs.Ordering.{match_ordering}
use Rattle.std.specs.Prelude.{ℕ, List, [], ◌∷◌, Option, Some, None, option_map, ◌≡◌, ◌≢◌, Bool, true, ◌&&◌, if◌then◌else◌, false, ◌++◌, ◌+◌, ◌-◌, ◌*◌, ◌%◌, nat_lt, ◌==◌}
use Rattle.std.specs.Str.{IsUtf8}
use Rattle.st_plain.specs.Plain.{canonical, Plain, text, list, object, Items, no_items, item, Members, no_members, member}
use Rattle.st_plain.specs.Names.{name_cmp, is_name}

-- the items, as a list
abbrev pub entries : Items → List Plain
entries no_items = []
entries (item p ps) = p ∷ entries ps

-- the bytes of a text
abbrev pub text_in : Plain → Option (List ℕ)
text_in (text bytes) = Some bytes
text_in other = None

-- the items of a list
abbrev pub items_in : Plain → Option Items
items_in (list ps) = Some ps
items_in other = None

-- the entries of a list
abbrev pub list_in : Plain → Option (List Plain)
list_in p = option_map entries (items_in p)

-- the members of an object
abbrev pub members_in : Plain → Option Members
members_in (object ms) = Some ms
members_in other = None

-- values as the items of a list
abbrev pub items_of : List Plain → Items
items_of [] = no_items
items_of (p ∷ ps) = item p (items_of ps)

-- pairs of a name and a value as the members of an object
abbrev pub members_of : List (List ℕ × Plain) → Members
members_of [] = no_members
members_of (m ∷ ms) = member m.0 m.1 (members_of ms)

-- ---- What an object has by name, before and after a member is put or removed.

-- the value of the member of this name
abbrev pub member_at : List ℕ → Members → Option Plain
member_at name no_members = None
member_at name (member n p ms) = if is_name name n then Some p else member_at name ms

-- The members with this one, at its place in the order of names.
abbrev pub put : List ℕ → Plain → Members → Members
put name value no_members = member name value no_members
put name value (member n p ms) =
    match_ordering (name_cmp name n) (member name value (member n p ms)) (member name value ms) (member n p (put name value ms))

-- the members without the one of this name
abbrev pub without : List ℕ → Members → Members
without name no_members = no_members
without name (member n p ms) = if is_name name n then without name ms else member n p (without name ms)

-- under every other name the members are unchanged
abbrev pub OthersStay : List ℕ → Members → Members → Type 0
OthersStay name old new = (other : List ℕ) → IsUtf8 other → other ≢ name → member_at other new ≡ member_at other old

-- each member has one of these names
abbrev pub has_only : List (List ℕ) → Members → Bool
has_only names no_members = true
has_only names (member n p ms) = list_any (is_name n) names && has_only names ms

-- ---- Objects, given by a list of members in any order.

-- ---- members that are all there

-- the members with these put among them, one after another
abbrev pub with_members : List (List ℕ × Plain) → Members → Members
with_members [] others = others
with_members (pair ∷ pairs) others = with_members pairs (put pair.0 pair.1 others)

-- these members, in the order of names; the last of several with one name
abbrev pub members_listed : List (List ℕ × Plain) → Members
members_listed pairs = with_members pairs no_members

-- the object of these members
abbrev pub object_of : List (List ℕ × Plain) → Plain
object_of pairs = object (members_listed pairs)

-- ---- optional members

-- the members with this one, if it has a value
unfoldable pub put_some : List ℕ → Option Plain → Members → Members
put_some name None others = others
put_some name (Some value) others = put name value others

-- the members with each of the pairs that has a value
abbrev pub with_some : List (List ℕ × Option Plain) → Members → Members
with_some [] others = others
with_some (pair ∷ pairs) others = with_some pairs (put_some pair.0 pair.1 others)

-- those of these members that have a value
abbrev pub some_listed : List (List ℕ × Option Plain) → Members
some_listed pairs = with_some pairs no_members

-- the object of those of these members that have a value
abbrev pub object_of_some : List (List ℕ × Option Plain) → Plain
object_of_some pairs = object (some_listed pairs)

-- a list, or nothing if it is empty
unfoldable pub some_list : List Plain → Option Plain
some_list [] = None
some_list (entry ∷ entries) = Some (list (items_of (entry ∷ entries)))

-- there are no members
abbrev pub is_empty : Members → Bool
is_empty no_members = true
is_empty (member name value others) = false

-- an object, or nothing if it is empty
unfoldable pub some_object : Members → Option Plain
some_object members = if is_empty members then None else Some (object members)

-- ---- The text of an object that is given by a list of members, sorted by name.

-- the canonical text of a value between these texts; empty if there is no value
abbrev pub text_there : List ℕ → Option Plain → List ℕ → List ℕ
text_there front None back = []
text_there front (Some value) back = front ++ (canonical value ++ back)

-- ---- Members of an object in a text, each between two places: a name as a JSON string, a colon and a value.

-- ---- names

-- the byte that a backslash and this one mean
abbrev pub meant : ℕ → ℕ
meant b = if b == 98 then 8 else
    if b == 116 then 9 else
    if b == 110 then 10 else
    if b == 102 then 12 else
    if b == 114 then 13 else b

-- the value of a lower-case digit in base 16
abbrev pub digit_of : ℕ → ℕ
digit_of b = if nat_lt b 58 then b % 16 else b % 16 + 9

-- The name in front of a quotation mark, as a canonical text escapes it; the same after a backslash, and after `\u`.
abbrev mutual
  pub name_in : List ℕ → List ℕ
  name_in [] = []
  name_in (b ∷ bs) = if b == 34 then [] else if b == 92 then escaped_in bs else b ∷ name_in bs

  pub escaped_in : List ℕ → List ℕ
  escaped_in [] = []
  escaped_in (b ∷ bs) = if b == 117 then control_in bs else meant b ∷ name_in bs

  pub control_in : List ℕ → List ℕ
  control_in [] = []
  control_in (a ∷ []) = []
  control_in (a ∷ b ∷ []) = []
  control_in (a ∷ b ∷ h ∷ []) = []
  control_in (a ∷ b ∷ h ∷ l ∷ bs) = ((h % 2) * 16 + digit_of l) ∷ name_in bs
