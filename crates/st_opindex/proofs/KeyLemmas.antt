-- Items whose places ascend.
use Rattle.std.proofs.Common.{◌≡◌, ◌∙◌, ℕ, zero, suc, ◌<◌, ◌≤◌, Bool, true, false, ltb, leb, List, [], ◌∷◌, length, take, drop, get_or, filter, sym, ap, refl, arith, inl, inr, ◌⊎◌, ◌+◌, cond, Option, Some, unwrap_or, Ordering}
use Rattle.std.proofs.lemmas.Bool.{lt-ltb, le-ltb, le-leb, lt-leb, cases_lt, cases_eq, cond_both, ltb-true, cases_Bool}
use Rattle.std.proofs.lemmas.List.Elements.{All-from_recursion}
use Rattle.std.proofs.lemmas.Map.Made.{lookup-map_values}
use Rattle.std.proofs.lemmas.Option.{MatchOption-at_some}
use Rattle.std.specs.BTreeMap.{is_at}
use Rattle.std.specs.Cmp.{IsTotalOrder, eq_by_cmp_equiv}
use Rattle.std.specs.List.{AllByRecursion}
use Rattle.std.specs.List.Sorted.{IsNonDecreasingBy}
use Rattle.std.specs.Map.{lookup}
use Rattle.std.specs.Option.{option_map, IfSome}
use Rattle.st_base.proofs.ListLemmas.{each-weaker, each-filter, each-take, each-passes, filter_all, filter_none, any_none}
use Rattle.st_opindex.specs.Items.{ByKey, items_at, ChangesAt, Held, Ascend, before, from, after, reaches, left_of, EachRow, FoldsKey, LeavesMore, LeavesNoMore, left_at, seen_items}
use Rattle.st_opindex.specs.declared.row.Row.{Row}

-- less implies at most
pub le_of_lt : (a b : ℕ) → a < b → a ≤ b
le_of_lt a b lt = omega arith

-- ---- filters of ascending items

module _ {Item : Type 0} where
  -- those that pass a test ascend
  pub Ascend-filter : (test : Held Item → Bool) (items : List (Held Item)) → Ascend items → Ascend (filter test items)
  Ascend-filter test [] ascends = tt
  Ascend-filter test (held ∷ items) ascends =
      let rest = Ascend-filter test items ascends.1 in
      cond_both (test held) (held ∷ filter test items) (filter test items) Ascend (λ _. (each-filter (λ later. held.0 < later.0) test items ascends.0, rest)) (λ _. rest)

  -- the first of ascending items ascend
  pub Ascend-take : (n : ℕ) (items : List (Held Item)) → Ascend items → Ascend (take n items)
  Ascend-take zero items ascends = tt
  Ascend-take (suc n) [] ascends = tt
  Ascend-take (suc n) (held ∷ items) ascends = (each-take (λ later. held.0 < later.0) n items ascends.0, Ascend-take n items ascends.1)

  -- items after one at this place or later are later still
  pub later_all : (place : ℕ) (held : Held Item) (items : List (Held Item)) → place ≤ held.0
      → AllByRecursion (λ later. held.0 < later.0) items → AllByRecursion (λ later. place < later.0) items
  later_all place held items late all =
      each-weaker (λ later. held.0 < later.0) (λ later. place < later.0) (λ later lt. omega arith) items all

  module _ (place : ℕ) where
    -- if all items are after this place, none is before it, and all are from it on and after it
    pub none_before : (items : List (Held Item)) → AllByRecursion (λ held. place < held.0) items → before place items ≡ []
    none_before items all =
        filter_none (λ held. ltb held.0 place) items
        (each-weaker (λ held. place < held.0) (λ held. ltb held.0 place ≡ false) (λ held late. le-ltb held.0 place (omega arith)) items all)

    all_from : (items : List (Held Item)) → AllByRecursion (λ held. place < held.0) items → from place items ≡ items
    all_from items all =
        filter_all (λ held. leb place held.0) items
        (each-weaker (λ held. place < held.0) (λ held. leb place held.0 ≡ true) (λ held late. le-leb place held.0 (omega arith)) items all)

    all_after : (items : List (Held Item)) → AllByRecursion (λ held. place < held.0) items → after place items ≡ items
    all_after items all =
        filter_all (λ held. ltb place held.0) items
        (each-weaker (λ held. place < held.0) (λ held. ltb place held.0 ≡ true) (λ held late. lt-ltb place held.0 late) items all)

    -- the first of ascending items are those before a place
    pub take-before : (items : List (Held Item)) → Ascend items → take (length (before place items)) items ≡ before place items
    take-before [] ascends = refl
    take-before (held ∷ items) ascends = elim (cases_lt held.0 place) [
      | inl lt ↦ rw (lt-ltb held.0 place lt) (ap (λ front. held ∷ front) (take-before items ascends.1))
      | inr le ↦ rw (le-ltb held.0 place le, none_before items (later_all place held items le ascends.0)) refl
    ]

    -- so the others are those from it on
    pub drop-before : (items : List (Held Item)) → Ascend items → drop (length (before place items)) items ≡ from place items
    drop-before [] ascends = refl
    drop-before (held ∷ items) ascends = elim (cases_lt held.0 place) [
      | inl lt ↦ rw (lt-ltb held.0 place lt, lt-leb place held.0 lt) (drop-before items ascends.1)
      | inr le ↦
          let all = later_all place held items le ascends.0 in
          rw (le-ltb held.0 place le, le-leb place held.0 le, none_before items all, all_from items all) refl
    ]

    -- if the first of these items from a place on is at the place, the others are after it
    pub after_found : (held : Held Item) (items rest : List (Held Item)) → Ascend items → from place items ≡ held ∷ rest
        → held.0 ≡ place → after place items ≡ rest
    after_found held [] rest ascends starts is = cc
    after_found held (first ∷ items) rest ascends starts is = elim (cases_lt first.0 place) [
      | inl lt ↦
          let tail : from place items ≡ held ∷ rest = rw (lt-leb place first.0 lt) at starts in
          rw (le-ltb place first.0 (le_of_lt first.0 place lt)) (after_found held items rest ascends.1 tail is)
      | inr le ↦
          let all = later_all place first items le ascends.0 in
          let whole : first ∷ from place items ≡ held ∷ rest = rw (le-leb place first.0 le) at starts in
          let same : first.0 ≡ held.0 = ap (λ xs. (get_or xs 0 held).0) whole in
          let tail : from place items ≡ rest = ap (drop 1) whole in
          let upto : first.0 ≤ place = omega arith in
          rw (le-ltb place first.0 upto) (all_after items all ∙ sym (all_from items all) ∙ tail)
    ]

    -- if no item is at the place, those from it on are after it
    pub after_missing : (items : List (Held Item)) → Ascend items
        → ((held : Held Item) (rest : List (Held Item)) → from place items ≡ held ∷ rest → held.0 ≡ place → ⊥)
        → after place items ≡ from place items
    after_missing [] ascends missing = refl
    after_missing (first ∷ items) ascends missing = elim (cases_lt first.0 place) [
      | inl lt ↦
          let same : from place (first ∷ items) ≡ from place items = rw (lt-leb place first.0 lt) refl in
          let rest = after_missing items ascends.1 (λ held rest starts is. missing held rest (same ∙ starts) is) in
          rw (lt-leb place first.0 lt, le-ltb place first.0 (le_of_lt first.0 place lt)) rest
      | inr le ↦
          let starts : from place (first ∷ items) ≡ first ∷ from place items = rw (le-leb place first.0 le) refl in
          let apart : first.0 ≡ place → ⊥ = missing first (from place items) starts in
          let lt : place < first.0 = omega (arith, apart) in
          let all = later_all place first items le ascends.0 in
          rw (le-leb place first.0 le, lt-ltb place first.0 lt) (ap (λ front. first ∷ front) (all_after items all ∙ sym (all_from items all)))
    ]

-- ---- the items before a place

module _ {Item : Type 0} (place : ℕ) (items : List (Held Item)) where
  -- a second filter changes nothing
  pub before-before : before place (before place items) ≡ before place items
  before-before = filter_all (λ held. ltb held.0 place) (before place items) (each-passes (λ held. ltb held.0 place) items)

  -- none of them is at the place or later
  pub reaches-before : reaches place (before place items) ≡ false
  reaches-before =
      any_none (λ held. leb place held.0) (before place items)
      (each-weaker (λ held. ltb held.0 place ≡ true) (λ held. leb place held.0 ≡ false) (λ held is. lt-leb place held.0 (ltb-true held.0 place is)) (before place items)
      (each-passes (λ held. ltb held.0 place) items))

-- ---- items by their place in the list

module _ {Item : Type 0} where
  -- an earlier item has an earlier place
  pub Ascend-apart : (items : List (Held Item)) → Ascend items → (i j : ℕ) (d : Held Item) → i < j → j < length items → (get_or items i d).0 < (get_or items j d).0
  Ascend-apart [] ascends i j d lt inside = absurd (omega arith)
  Ascend-apart (held ∷ items) ascends i zero d lt inside = absurd (omega arith)
  Ascend-apart (held ∷ items) ascends zero (suc j) d lt inside = All-from_recursion (λ later. held.0 < later.0) items ascends.0 j d (omega arith)
  Ascend-apart (held ∷ items) ascends (suc i) (suc j) d lt inside = Ascend-apart items ascends.1 i j d (omega arith) (omega arith)

  -- the places never fall
  pub Ascend-rises : (items : List (Held Item)) → Ascend items → IsNonDecreasingBy (λ held. held.0) items
  Ascend-rises items ascends i j d le inside = elim (cases_eq i j) [
    | inl same ↦ rw same (omega arith)
    | inr apart ↦ le_of_lt (get_or items i d).0 (get_or items j d).0 (Ascend-apart items ascends i j d (omega (arith, apart)) inside)
  ]

-- ---- Rows by key, and what contracts see of them.

-- two tests that agree find the same
lookup_alike : {K X : Type 0} (test other : K → Bool) → ((k : K) → test k ≡ other k) → (entries : List (K × X)) → lookup test entries ≡ lookup other entries
lookup_alike test other same [] = refl
lookup_alike test other same (entry ∷ entries) = rw (same entry.0, lookup_alike test other same entries) refl

-- a choice over a choice by the same test
cond-cond : {X : Type 0} (b : Bool) (x y z : X) → cond b x (cond b y z) ≡ cond b x z
cond-cond true x y z = refl
cond-cond false x y z = refl

-- a choice between values that agree if the test holds
cond_along : {X : Type 0} (b : Bool) (x y z : X) → (b ≡ true → x ≡ y) → cond b x z ≡ cond b y z
cond_along true x y z same = same refl
cond_along false x y z same = refl

-- a choice that changes nothing
cond_itself : {X : Type 0} (b : Bool) (x z : X) → (b ≡ true → x ≡ z) → z ≡ cond b x z
cond_itself true x z same = sym (same refl)
cond_itself false x z same = refl

-- how many items of a row, if any, remain to be folded
abbrev pub left_in : {State Item : Type 0} → Option (Row Item State) → ℕ
left_in row = unwrap_or (option_map left_of row) 0

module _ {K Item : Type 0} {cmp : K → K → Ordering} (order : IsTotalOrder cmp) (key other : K) where
  -- equal keys have the same items
  pub items_at-same : (items : ByKey K Item) → is_at (cmp key) other ≡ true → items_at cmp key items ≡ items_at cmp other items
  items_at-same items same =
      ap (λ found. unwrap_or found []) (lookup_alike (is_at (cmp key)) (is_at (cmp other)) (λ k. (eq_by_cmp_equiv order).congr key other k same) items)

  -- and as many of them remain to be folded
  pub left_at-same : {State : Type 0} (entries : List (K × Row Item State)) → is_at (cmp key) other ≡ true → left_at cmp key entries ≡ left_at cmp other entries
  left_at-same entries same =
      ap left_in (lookup_alike (is_at (cmp key)) (is_at (cmp other)) (λ k. (eq_by_cmp_equiv order).congr key other k same) entries)

-- the items of a row, if any
abbrev pub items_in : {State Item : Type 0} → Option (Row Item State) → List (Held Item)
items_in row = unwrap_or (option_map (λ row. row.items.items) row) []

module _ {K State Item : Type 0} (cmp : K → K → Ordering) (key : K) where
  -- one key now has this row or none, and the others are unchanged, in the form of std's maps
  pub record IsUpdated (row : Option (Row Item State)) (old new : List (K × Row Item State)) : Type 0 where
    pub each : (other : K) → lookup (is_at (cmp other)) new ≡ cond (is_at (cmp key) other) row (lookup (is_at (cmp other)) old)

  -- a key's items are those in its row
  pub seen_found : (entries : List (K × Row Item State)) (row : Option (Row Item State)) → row ≡ lookup (is_at (cmp key)) entries
      → items_at cmp key (seen_items entries) ≡ items_in row
  seen_found entries row found =
      ap (λ found. unwrap_or found []) (lookup-map_values (λ row. row.items.items) (is_at (cmp key)) entries) ∙ ap items_in (sym found)

module _ {K State Item : Type 0} {cmp : K → K → Ordering} {key : K} where
  -- rows none of which is changed
  pub updated_by_itself : IsTotalOrder cmp → {row : Option (Row Item State)} {rows : List (K × Row Item State)} → row ≡ lookup (is_at (cmp key)) rows
      → IsUpdated cmp key row rows rows
  updated_by_itself order {row} {rows} found = record {
    each = λ other. cond_itself (is_at (cmp key) other) row (lookup (is_at (cmp other)) rows)
        (λ same. found ∙ lookup_alike (is_at (cmp key)) (is_at (cmp other)) (λ k. (eq_by_cmp_equiv order).congr key other k same) rows);
  }

  -- rows equal to changed ones
  pub updated_as : {row : Option (Row Item State)} {old written new : List (K × Row Item State)} → IsUpdated cmp key row old written → new ≡ written
      → IsUpdated cmp key row old new
  updated_as updates same = record { each = λ other. ap (lookup (is_at (cmp other))) same ∙ updates.each other }

  -- a row that is changed twice
  pub updated_twice : {first second : Option (Row Item State)} {old between new : List (K × Row Item State)}
      → IsUpdated cmp key first old between → IsUpdated cmp key second between new → IsUpdated cmp key second old new
  updated_twice {first} {second} {old} once again = record {
    each = λ other. again.each other ∙ ap (cond (is_at (cmp key) other) second) (once.each other)
        ∙ cond-cond (is_at (cmp key) other) second first (lookup (is_at (cmp other)) old);
  }

module _ {K State Item : Type 0} {cmp : K → K → Ordering} {P : Row Item State → Type 0} {old : List (K × Row Item State)}
    (rows : EachRow cmp P old) where
  -- the row that a lookup finds
  pub row_found : (key : K) (row : Row Item State) → Some row ≡ lookup (is_at (cmp key)) old → P row
  row_found key row found = MatchOption-at_some _ P row (sym found) (rows.each key)

  -- rows one of which is changed
  pub rows_updated : {key : K} {row : Option (Row Item State)} {new : List (K × Row Item State)} → IsUpdated cmp key row old new → IfSome row P
      → EachRow cmp P new
  rows_updated {key} {row} updates one = record {
    each = λ other. rw (updates.each other)
        (cond_both (is_at (cmp key) other) row (lookup (is_at (cmp other)) old) (λ found. IfSome found P) (λ _. one) (λ _. rows.each other));
  }

-- after a change of one key's row
module _ {K State Item : Type 0} {cmp : K → K → Ordering} {key : K} {row : Option (Row Item State)} {old new : List (K × Row Item State)}
    (updates : IsUpdated cmp key row old new) where
  -- the key's items are those in the row,
  seen_updated : (other : K) → items_at cmp other (seen_items new) ≡ cond (is_at (cmp key) other) (items_in row) (items_at cmp other (seen_items old))
  seen_updated other =
      seen_found cmp other new (lookup (is_at (cmp other)) new) refl ∙ ap items_in (updates.each other)
      ∙ inside (is_at (cmp key) other) (lookup (is_at (cmp other)) old)
      ∙ ap (λ items. cond (is_at (cmp key) other) (items_in row) items) (sym (seen_found cmp other old (lookup (is_at (cmp other)) old) refl))
    where
      inside : (b : Bool) (found : Option (Row Item State)) → items_in (cond b row found) ≡ cond b (items_in row) (items_in found)
      inside true found = refl
      inside false found = refl

  -- so they change as the row does,
  pub seen_changed : IsTotalOrder cmp → (change : List (Held Item) → List (Held Item)) → {was : Option (Row Item State)} → was ≡ lookup (is_at (cmp key)) old
      → items_in row ≡ change (items_in was) → ChangesAt cmp key change (seen_items old) (seen_items new)
  seen_changed order change {was} found changed other =
      seen_updated other
      ∙ cond_along (is_at (cmp key) other) _ _ _
      (λ same. changed ∙ ap change (sym (seen_found cmp key old was found) ∙ items_at-same order key other (seen_items old) same))

  -- and its items to fold are those of the row:
  left_updated : (other : K) → left_at cmp other new ≡ cond (is_at (cmp key) other) (left_in row) (left_at cmp other old)
  left_updated other = ap left_in (updates.each other) ∙ inside (is_at (cmp key) other) (lookup (is_at (cmp other)) old)
    where
      inside : (b : Bool) (found : Option (Row Item State)) → left_in (cond b row found) ≡ cond b (left_in row) (left_in found)
      inside true found = refl
      inside false found = refl

  -- nothing,
  pub left_folded : left_in row ≡ 0 → FoldsKey cmp key old new
  left_folded none other = left_updated other ∙ ap (λ left. cond (is_at (cmp key) other) left (left_at cmp other old)) none

  -- or some more
  pub left_more : IsTotalOrder cmp → (place : ℕ) → {was : Option (Row Item State)} → was ≡ lookup (is_at (cmp key)) old
      → (left_in row + length (items_in was) ≤ left_in was + length (items_in row)) ⊎ (left_in row ≤ 7 + length (from place (items_in row)))
      → LeavesMore cmp key place old new
  left_more order place {was} found more = record {
    own = rw (own_left, own_items, sym found, seen_found cmp key old was found) more;
    others = λ other apart. left_updated other ∙ rw apart refl;
  }
    where
      itself : is_at (cmp key) key ≡ true
      itself = (eq_by_cmp_equiv order).refl key

      own_left : left_at cmp key new ≡ left_in row
      own_left = left_updated key ∙ rw itself refl

      own_items : items_at cmp key (seen_items new) ≡ items_in row
      own_items = seen_updated key ∙ rw itself refl

  -- or as many as before, if the row has none to fold, or is the one that was there
  pub left_none : IsTotalOrder cmp → {was : Option (Row Item State)} → was ≡ lookup (is_at (cmp key)) old → (row ≡ was) ⊎ (left_in row ≡ 0)
      → LeavesNoMore cmp old new
  left_none order {was} found none = record {
    left = λ other some. elim (cases_Bool (is_at (cmp key) other)) [
      | inr apart ↦ left_updated other ∙ rw apart refl
      | inl same ↦
          let is : left_at cmp other new ≡ left_in row = left_updated other ∙ rw same refl in
          elim none [
            | inl kept ↦ is ∙ ap left_in (kept ∙ found) ∙ left_at-same order key other old same
            | inr gone ↦ absurd (omega (arith, is, gone, some))
          ]
    ];
    items = λ other some. elim (cases_Bool (is_at (cmp key) other)) [
      | inr apart ↦ seen_updated other ∙ rw apart refl
      | inl same ↦
          let is : items_at cmp other (seen_items new) ≡ items_in row = seen_updated other ∙ rw same refl in
          let left : left_at cmp other new ≡ left_in row = left_updated other ∙ rw same refl in
          elim none [
            | inl kept ↦ is ∙ ap items_in kept ∙ sym (seen_found cmp key old was found) ∙ items_at-same order key other (seen_items old) same
            | inr gone ↦ absurd (omega (arith, left, gone, some))
          ]
    ];
  }
