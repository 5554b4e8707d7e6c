-- Items at places, and the state they fold to.
use Rattle.std.specs.BTreeMap.{is_at}
use Rattle.std.specs.List.{AllByRecursion, list_any, sum_by}
use Rattle.std.specs.Map.{lookup}
use Rattle.std.specs.Ordering.{nat_cmp, ordering_then}
use Rattle.std.specs.Prelude.{◌≡◌, ℕ, List, [], ◌∷◌, ◌++◌, Bool, ◌<◌, nat_lt, nat_le, length, filter, fold, ◌+◌, ◌&&◌, IsTrue, unwrap_or, if◌then◌else◌, ◌-◌, ◌*◌, ◌/◌, ◌≤◌, ◌⊎◌, take, slice_index_or, ◌==◌, false, map, IfSome, option_map}
use Rattle.std.specs.declared.cmp.Ordering.{Ordering}
use Rattle.st_opindex.specs.declared.row.Row.{Row}

-- an item with its place
abbrev pub Held : Type 0 → Type 0
Held Item = ℕ × Item

-- the state after these items, in their order
abbrev pub folded : {State Item : Type 0} → (State → Item → State) → State → List (Held Item) → State
folded next start items = fold (λ state held. next state held.1) start items

-- the places ascend strictly
abbrev pub Ascend : {Item : Type 0} → List (Held Item) → Type 0
Ascend [] = Unit {0}
Ascend (held ∷ items) = AllByRecursion (λ later. held.0 < later.0) items × Ascend items

module _ {Item : Type 0} (place : ℕ) where
  -- the items before this place
  abbrev pub before : List (Held Item) → List (Held Item)
  before items = filter (λ held. nat_lt held.0 place) items

  -- the items at this place or later
  abbrev pub from : List (Held Item) → List (Held Item)
  from items = filter (λ held. nat_le place held.0) items

  -- the items after this place
  abbrev pub after : List (Held Item) → List (Held Item)
  after items = filter (λ held. nat_lt place held.0) items

  -- some item is at this place or later
  abbrev pub reaches : List (Held Item) → Bool
  reaches items = list_any (λ held. nat_le place held.0) items

  -- the items with this one at its place, replacing the one there, if any
  abbrev pub with_item : Item → List (Held Item) → List (Held Item)
  with_item item items = before items ++ (place, item) ∷ after items

  -- the items ascend, and this many of them are before this place
  pub record SplitsAt (items : List (Held Item)) (at : ℕ) : Type 0 where
    pub ascends : Ascend items
    pub count : at ≡ length (before items)

-- ---- Items by key and place, and the cost of changes to them.

-- keys, each with its items in order of place
abbrev pub ByKey : Type 0 → Type 0 → Type 0
ByKey K Item = List (K × List (Held Item))

-- what contracts see of an index: its folder, the items, and the key and place of each pending change
pub record Indexed (K Folder Item : Type 0) : Type 0 where
  pub folder : Folder
  pub items : ByKey K Item
  pub changes : List (K × ℕ)

module _ {K : Type 0} (cmp : K → K → Ordering) where
  -- a name has the key of this change, and its place or an earlier one
  abbrev pub Covers : List (K × ℕ) → K × ℕ → Type 0
  Covers names change = IsTrue (list_any (λ name. is_at (cmp change.0) name.0 && nat_le name.1 change.1) names)

  module _ {Item : Type 0} where
    -- the items of a key: none if the key is not there
    abbrev pub items_at : K → ByKey K Item → List (Held Item)
    items_at key items = unwrap_or (lookup (is_at (cmp key)) items) []

    -- the items of this key change this way, and those of any other stay
    abbrev pub ChangesAt : K → (List (Held Item) → List (Held Item)) → ByKey K Item → ByKey K Item → Type 0
    ChangesAt key change old new =
        (other : K) → items_at other new ≡ (if is_at (cmp key) other then change (items_at other old) else items_at other old)

    -- the items of these keys at this place or later are dropped, and all others stay
    pub record AreCut (place : ℕ) (keys : List K) (old new : ByKey K Item) : Type 0 where
      pub each : (key : K) → items_at key new
          ≡ (if list_any (λ taken. is_at (cmp taken) key) keys then before place (items_at key old) else items_at key old)

    -- these names cover each key that has an item at this place or later
    abbrev pub CoversLosing : List (K × ℕ) → ℕ → ByKey K Item → Type 0
    CoversLosing names place items = (key : K) → IsTrue (reaches place (items_at key items)) → Covers names (key, place)

    -- the bound on folding by these names: for each 7, and one for each of its key's items at its place or later
    abbrev pub cover_cost : ByKey K Item → List (K × ℕ) → ℕ
    cover_cost items names = sum_by (λ name. 7 + length (from name.1 (items_at name.0 items))) names

-- ---- The states stored for one key.

module _ {State Item : Type 0} (next : State → Item → State) (start : State) where
  -- the stored states, after the first `done` items are folded: the state after every eighth item, and the one after
  -- all of these
  pub record Reached (items : List (Held Item)) (done : ℕ) (kept : List State) (last : State) : Type 0 where
    pub count : length kept ≡ done / 8
    pub each : (i : ℕ) (d : State) → i < length kept → slice_index_or kept i d ≡ folded next start (take (8 * (i + 1)) items)
    pub now : last ≡ folded next start (take done items)

  -- the state after every eighth of the first `at` items is stored
  pub record IsKeptBefore (items : List (Held Item)) (at : ℕ) (kept : List State) : Type 0 where
    pub enough : at / 8 ≤ length kept
    pub each : (i : ℕ) (d : State) → i < at / 8 → slice_index_or kept i d ≡ folded next start (take (8 * (i + 1)) items)

  -- the items of a row ascend, and its states are those of its first `done` items
  pub record IsRow (row : Row Item State) : Type 0 where
    pub ascends : Ascend row.items.items
    pub within : row.done ≤ length row.items.items
    pub reached : Reached row.items.items row.done row.kept.items row.last

  -- a row with ascending items whose stored states are right for its first `at` items
  pub record IsRowUpTo (at : ℕ) (row : Row Item State) : Type 0 where
    pub ascends : Ascend row.items.items
    pub within : at ≤ length row.items.items
    pub reached : row.done ≤ at → Reached row.items.items row.done row.kept.items row.last
    pub kept : at ≤ row.done → IsKeptBefore row.items.items at row.kept.items

module _ {State Item : Type 0} where
  -- how many items of a row are not yet folded
  abbrev pub left_of : Row Item State → ℕ
  left_of row = length row.items.items - row.done

  -- The number of items to fold grows by the items that were added, or is at most seven plus those at this place or
  -- later.
  abbrev pub LeavesOf : ℕ → Row Item State → Row Item State → Type 0
  LeavesOf place old new =
      (left_of new + length old.items.items ≤ left_of old + length new.items.items) ⊎ (left_of new ≤ 7 + length (from place new.items.items))

-- ---- The places of items, with their keys.

module _ {K : Type 0} (cmp : K → K → Ordering) where
  -- the order of places, and of keys at one place
  abbrev pub placed_cmp : ℕ × K → ℕ × K → Ordering
  placed_cmp first second = ordering_then (nat_cmp first.0 second.0) (cmp first.1 second.1)

  -- the entries have this place of this key
  abbrev pub IsPlaced : List (ℕ × K) → ℕ → K → Type 0
  IsPlaced placed place key = IsTrue (list_any (is_at (placed_cmp (place, key))) placed)

-- the entries have each item of each key
pub record AllPlaced {K Item : Type 0} (cmp : K → K → Ordering) (placed : List (ℕ × K)) (items : ByKey K Item) : Type 0 where
  pub each : (key : K) → AllByRecursion (λ held. IsPlaced cmp placed held.0 key) (items_at cmp key items)

-- ---- The representation of an index, and what contracts see of it.

-- each key with its items
abbrev pub seen_items : {K State Item : Type 0} → List (K × Row Item State) → ByKey K Item
seen_items entries = map (λ entry. (entry.0, entry.1.items.items)) entries

-- a change of this key allows this many of these items to be unfolded: seven, and those at its place or later
pub record IsOwed {K Item : Type 0} (cmp : K → K → Ordering) (changes : List (K × ℕ)) (key : K) (left : ℕ) (items : List (Held Item)) : Type 0 where
  pub place : ℕ
  pub changed : IsTrue (list_any (λ change. is_at (cmp change.0) key && (change.1 == place)) changes)
  pub few : left ≤ 7 + length (from place items)

module _ {K State Item : Type 0} (cmp : K → K → Ordering) where
  -- each row has this property
  pub record EachRow (P : Row Item State → Type 0) (entries : List (K × Row Item State)) : Type 0 where
    pub each : (key : K) → IfSome (lookup (is_at (cmp key)) entries) P

  -- each key has items in order of place, and the states of the first of them
  abbrev pub AreRows : (State → Item → State) → State → List (K × Row Item State) → Type 0
  AreRows next start entries = EachRow (IsRow next start) entries

  -- how many of a key's items are not yet folded
  abbrev pub left_at : K → List (K × Row Item State) → ℕ
  left_at key entries = unwrap_or (option_map left_of (lookup (is_at (cmp key)) entries)) 0

  -- all items of this key are folded, and of any other key as many as before
  abbrev pub FoldsKey : K → List (K × Row Item State) → List (K × Row Item State) → Type 0
  FoldsKey key old new = (other : K) → left_at other new ≡ (if is_at (cmp key) other then 0 else left_at other old)

  -- An item is added to a key at this place, or its items there and later are dropped. The number of its items to
  -- fold grows by the items that were added, or is at most seven plus those at the place or later. That of any other
  -- key stays.
  pub record LeavesMore (key : K) (place : ℕ) (old new : List (K × Row Item State)) : Type 0 where
    pub own : (left_at key new + length (items_at cmp key (seen_items old)) ≤ left_at key old + length (items_at cmp key (seen_items new)))
        ⊎ (left_at key new ≤ 7 + length (from place (items_at cmp key (seen_items new))))
    pub others : (other : K) → is_at (cmp key) other ≡ false → left_at other new ≡ left_at other old

  -- if items of a key remain to be folded, they are the same as before
  pub record LeavesNoMore (old new : List (K × Row Item State)) : Type 0 where
    pub left : (key : K) → 0 < left_at key new → left_at key new ≡ left_at key old
    pub items : (key : K) → 0 < left_at key new → items_at cmp key (seen_items new) ≡ items_at cmp key (seen_items old)

  -- if items of a key remain to be folded, a pending change allows them
  pub record AreOwed (changes : List (K × ℕ)) (entries : List (K × Row Item State)) : Type 0 where
    pub each : (key : K) → 0 < left_at key entries → IsOwed cmp changes key (left_at key entries) (items_at cmp key (seen_items entries))

-- The representation of an index: the state of a key without items, correct rows, and the place of each item. Items
-- may remain to be folded if a pending change allows them.
pub record IsIndex {K State Item : Type 0} (cmp : K → K → Ordering) (next : State → Item → State) (first start : State)
    (entries : List (K × Row Item State)) (places : List (ℕ × K)) (changes : List (K × ℕ)) : Type 0 where
  pub none : start ≡ first
  pub rows : AreRows cmp next first entries
  pub placed : AllPlaced cmp places (seen_items entries)
  pub owed : AreOwed cmp changes entries
