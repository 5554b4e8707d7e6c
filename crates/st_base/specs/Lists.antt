-- Items that are read one by one, each of which may be refused.
use Rattle.std.specs.Borrow.{Fml, RattleType, MutBor, Lends, LendsIf}
use Rattle.std.specs.List.{filter_map, list_all, list_any}
use Rattle.std.specs.Prelude.{Bool, List, if◌then◌else◌, Option, Some, None, is_some, false, ◌||◌, [], ◌∷◌, ℕ, slice_set}
use Rattle.st_base.specs.contracts.pointers.Boxed as boxed
use Rattle.st_base.specs.contracts.list.List.{the_row}

-- each item is read
abbrev pub each_is : {Item Read : Type 0} → (Item → Option Read) → List Item → Bool
each_is read items = list_all (λ item. is_some (read item)) items

-- the results of reading the items, if each is read
abbrev pub each_of : {Item Read : Type 0} → (Item → Option Read) → List Item → Option (List Read)
each_of read items = if each_is read items then Some (filter_map read items) else None

-- ---- Items that appear twice, or in two lists, by a test for the same item.

-- one of the items appears twice
abbrev pub has_twice : {Item : Type 0} → (Item → Item → Bool) → List Item → Bool
has_twice same [] = false
has_twice same (item ∷ later) = list_any (same item) later || has_twice same later

-- one of the items is among the others too
abbrev pub shares_one : {Item : Type 0} → (Item → Item → Bool) → List Item → List Item → Bool
shares_one same items others = list_any (λ item. list_any (same item) others) items

-- ---- The state of a list after a `&mut` to one of its items has ended, and of a box after one to its value has.

-- the item at this place is the last value that was written, and a list without such a place stays unchanged
abbrev pub lends_item : (T : RattleType) → MutBor (List T.Denot) → ℕ → Option (MutBor T.Denot) → Fml
lends_item T s at r = LendsIf (the_row T) T s r (slice_set s.now at) s.now

-- the value is the last one that was written
abbrev pub lends_value : (T : RattleType) → MutBor T.Denot → MutBor T.Denot → Fml
lends_value T s r = Lends (boxed.the_row T) T s r (λ value. value)
