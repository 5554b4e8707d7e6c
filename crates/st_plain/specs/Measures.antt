-- How deep a plain value nests: a scalar, an empty list and an empty object have depth 1.
use Rattle.std.specs.List.{count_by}
use Rattle.std.specs.Prelude.{ℕ, ◌+◌, max, List, ◌-◌, Bool, ◌&&◌, nat_le, length, bytes_eq}
use Rattle.st_plain.specs.Plain.{canonical, Plain, null, boolean, whole, text, list, object, Items, no_items, item, Members, no_members, member}
use Rattle.st_plain.specs.ReadAgain.{opens}

abbrev mutual
  pub depth_of : Plain → ℕ
  depth_of null = 1
  depth_of (boolean b) = 1
  depth_of (whole z) = 1
  depth_of (text t) = 1
  depth_of (list ps) = items_depth ps + 1
  depth_of (object ms) = members_depth ms + 1

  pub items_depth : Items → ℕ
  items_depth no_items = 0
  items_depth (item p ps) = max (depth_of p) (items_depth ps)

  pub members_depth : Members → ℕ
  members_depth no_members = 0
  members_depth (member k p ms) = max (depth_of p) (members_depth ms)

-- How many levels of lists and objects a plain value has: a scalar has none.
abbrev mutual
  pub nests : Plain → ℕ
  nests null = 0
  nests (boolean b) = 0
  nests (whole z) = 0
  nests (text t) = 0
  nests (list ps) = items_nest ps + 1
  nests (object ms) = members_nest ms + 1

  pub items_nest : Items → ℕ
  items_nest no_items = 0
  items_nest (item p ps) = max (nests p) (items_nest ps)

  pub members_nest : Members → ℕ
  members_nest no_members = 0
  members_nest (member k p ms) = max (nests p) (members_nest ms)

-- ---- a bound by the text alone

-- how many opening brackets and braces a text has, those inside its strings included
abbrev pub opening_count : List ℕ → ℕ
opening_count bytes = count_by opens bytes

-- ---- How large a plain value is: the length of its canonical text, and how deep it nests.

-- the number of bytes of its canonical text
abbrev pub size_of : Plain → ℕ
size_of p = length (canonical p)

-- the value nests at most this deep, and its canonical text is at most this long
abbrev pub fits : ℕ → ℕ → Plain → Bool
fits max_depth max_size p = nat_le (depth_of p) max_depth && nat_le (size_of p) max_size

-- the canonical texts of two values are equal
abbrev pub is_equal : Plain → Plain → Bool
is_equal p q = bytes_eq (canonical p) (canonical q)
