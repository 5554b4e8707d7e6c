-- A value with one entry changed: the last token of a path acts on its parent, and above that only the selected entry
-- changes.
use Rattle.std.specs.Prelude.{ℕ, nat_le, List, [], ◌∷◌, length, bytes_eq, codes, insert, remove, slice_set, if◌then◌else◌, Option, Some, None, option_map, option_and_then}
use Rattle.std.specs.Option.{option_map_or}
use Rattle.st_plain.specs.Objects.{entries, member_at, put, without, items_of}
use Rattle.st_plain.specs.Plain.{Plain, list, object, Items, Members}
use Rattle.st_jsonpatch.specs.Pointer.{index_of, item_at}

-- the effect of a token on its parent
pub data Act : Type 0 where
  -- this value is a new entry
  put_new : Plain → Act
  -- the entry is removed
  take_out : Act
  -- the entry becomes this value
  set_to : Plain → Act

-- ---- lists

-- the number, if it is at most this large
abbrev pub at_most : ℕ → ℕ → Option ℕ
at_most most n = if nat_le n most then Some n else None

-- the place of an item in a list of this length: an index up to it, or last for `-`
abbrev pub place_in : ℕ → List ℕ → Option ℕ
place_in length token =
    if bytes_eq token (codes "-") then Some length else option_and_then (at_most length) (index_of token)

-- the items with this one inserted: those before, the new one, those after
abbrev pub inserted : List ℕ → Plain → Items → Option Items
inserted token new items = option_map (λ place. items_of (insert (entries items) place new)) (place_in (length (entries items)) token)

-- the items without the one at the index
abbrev pub without_item : List ℕ → Items → Items
without_item token items = option_map_or (λ index. items_of (remove (entries items) index)) (index_of token) items

-- the items with this one instead of the one at the index
abbrev pub with_item : List ℕ → Plain → Items → Items
with_item token new items = option_map_or (λ index. items_of (slice_set (entries items) index new)) (index_of token) items

-- a list after the act at one of its places
abbrev pub items_after : Act → List ℕ → Items → Option Items
items_after (put_new new) token items = inserted token new items
items_after take_out token items = option_map (λ _. without_item token items) (item_at token items)
items_after (set_to new) token items = option_map (λ _. with_item token new items) (item_at token items)

-- ---- objects

-- putting a member adds or replaces it
abbrev pub members_after : Act → List ℕ → Members → Option Members
members_after (put_new new) token members = Some (put token new members)
members_after take_out token members = option_map (λ _. without token members) (member_at token members)
members_after (set_to new) token members = option_map (λ _. put token new members) (member_at token members)

-- ---- values

-- a scalar has no entries
abbrev pub parent_after : Act → List ℕ → Plain → Option Plain
parent_after act token (list items) = option_map list (items_after act token items)
parent_after act token (object members) = option_map object (members_after act token members)
parent_after act token scalar = None

-- the entry, changed and put back
abbrev pub put_back : {Parent : Type 0} → (Plain → Parent) → (Plain → Option Plain) → Option Plain → Option Parent
put_back back change there = option_and_then (λ entry. option_map back (change entry)) there

-- a list with one of its items changed
abbrev pub items_inside : List ℕ → (Plain → Option Plain) → Items → Option Items
items_inside token change items = put_back (λ new. with_item token new items) change (item_at token items)

-- an object with one of its members changed
abbrev pub members_inside : List ℕ → (Plain → Option Plain) → Members → Option Members
members_inside token change members = put_back (λ new. put token new members) change (member_at token members)

-- a list or an object with the entry of the token changed; other values have no entries
abbrev pub inside : List ℕ → (Plain → Option Plain) → Plain → Option Plain
inside token change (list items) = option_map list (items_inside token change items)
inside token change (object members) = option_map object (members_inside token change members)
inside token change scalar = None

-- the value after the act at a path, given by its first token and the rest
abbrev pub edited : Act → List ℕ → List (List ℕ) → Plain → Option Plain
edited act token [] value = parent_after act token value
edited act token (next ∷ path) value = inside token (edited act next path) value
