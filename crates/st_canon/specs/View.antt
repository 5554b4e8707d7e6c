-- The plain value that a `Json` represents.
use Rattle.std.specs.Borrow.{Fml, MutBor, LendsIf}
use Rattle.std.specs.Prelude.{ℕ, List, map, Option}
use Rattle.st_base.specs.contracts.list.List.{the_row as list_row}
use Rattle.st_plain.specs.Objects.{items_of, members_of}
use Rattle.st_plain.specs.Plain.{Plain, null, boolean, whole, text, list, object, Items, Members}
use Rattle.st_canon.specs.contracts.object.Members.{the_row as members_row}
use Rattle.st_canon.specs.contracts.value.Json.{the_row}
use Rattle.st_canon.specs.declared.value.Json.{Json, fold-Json}
use Rattle.st_canon.specs.declared.value.Json as value
use Rattle.st_canon.specs.declared.value.Json.TheOpen.{Json-F}

-- one level, after each value inside is plain
abbrev pub plain_step : Json-F Plain → Plain
plain_step Json-F.Null = null
plain_step (Json-F.Bool b) = boolean b
plain_step (Json-F.Whole z) = whole z
plain_step (Json-F.Text t) = text t
plain_step (Json-F.List ps) = list (items_of ps)
plain_step (Json-F.Object ms) = object (members_of ms)

-- the plain value that a `Json` represents
abbrev pub plain : Json → Plain
plain = fold-Json Plain plain_step

-- the items that the values of a list represent
abbrev pub plain_items : List Json → Items
plain_items values = items_of (map plain values)

-- the members that the pairs of an object represent
abbrev pub plain_members : List (List ℕ × Json) → Members
plain_members pairs = members_of (map (λ e. (e.0, plain e.1)) pairs)

-- ---- The state of a value after a `&mut` to a part of it has ended.

-- a list is lent: the value ends as the list that was last written; every other value stays unchanged
abbrev pub LendsList : MutBor Json → Option (MutBor (List Json)) → Fml
LendsList json r = LendsIf the_row (list_row the_row) json r value.List json.now

-- the same for the members of an object
abbrev pub LendsObject : MutBor Json → Option (MutBor (List (List ℕ × Json))) → Fml
LendsObject json r = LendsIf the_row (members_row the_row) json r value.Object json.now
