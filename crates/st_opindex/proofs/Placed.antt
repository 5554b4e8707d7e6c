-- An item put at its place. For crates above: the items after a put, and how many of them its bound counts.
use Rattle.std.proofs.Common.{◌≡◌, ◌∙◌, ℕ, ◌<◌, true, false, ltb, leb, List, [], ◌∷◌, ap, arith, inl, inr, ◌⊎◌, ◌≤◌, ◌++◌, Bool, cond, sym, subst, refl, Ordering, suc, ◌+◌, length, take, drop, get_or, set, insert, add-zero, drop-cons, length-append, length-drop, get_or-drop}
use Rattle.std.proofs.lemmas.Bool.{lt-ltb, le-ltb, le-leb, lt-leb, cases_lt, ltb-true, eq-eqb, ne_eqb, false≢true, cases_Bool, cases_order, true_from_ne_false}
use Rattle.std.proofs.lemmas.List.{set_split, take_all, take_at}
use Rattle.std.proofs.lemmas.List.Elements.{filter-append}
use Rattle.std.proofs.lemmas.List.Sums.{length-filter, count_by-le-length}
use Rattle.std.specs.BTreeMap.{is_at}
use Rattle.std.specs.List.{AllByRecursion, list_any}
use Rattle.std.specs.Ordering.{nat_cmp, is_eq, is_lt, ordering_then}
use Rattle.std.specs.declared.cmp.Ordering.TheVariants.{Equal}
use Rattle.st_base.proofs.ListLemmas.{each-weaker, each-filter, each-append, each-passes, filter_all, filter_none, any_before, any_last, filter_not_any}
use Rattle.st_opindex.proofs.KeyLemmas.{le_of_lt, later_all, none_before, Ascend-filter, take-before, drop-before, after_found, after_missing}
use Rattle.st_opindex.specs.Items.{ByKey, items_at, ChangesAt, Held, Ascend, before, from, after, with_item, SplitsAt, reaches, placed_cmp, IsPlaced, AllPlaced}

module _ {Item : Type 0} (place : ℕ) where
  -- the items from its place on are this one and those after it
  pub from-with_item : (item : Item) (items : List (Held Item)) → from place (with_item place item items) ≡ (place, item) ∷ after place items
  from-with_item item items =
      let front : from place (before place items) ≡ [] =
      filter_none (λ held. leb place held.0) (before place items)
      (each-weaker (λ held. ltb held.0 place ≡ true) (λ held. leb place held.0 ≡ false) (λ held is. lt-leb place held.0 (ltb-true held.0 place is)) (before place items)
      (each-passes (λ held. ltb held.0 place) items)) in
      let back : from place (after place items) ≡ after place items =
      filter_all (λ held. leb place held.0) (after place items)
      (each-weaker (λ held. ltb place held.0 ≡ true) (λ held. leb place held.0 ≡ true) (λ held is. le-leb place held.0 (le_of_lt place held.0 (ltb-true place held.0 is))) (after place items)
      (each-passes (λ held. ltb place held.0) items)) in
      filter-append (λ held. leb place held.0) (before place items) ((place, item) ∷ after place items)
      ∙ rw (front, le-leb place place (omega arith)) (ap (λ rest. (place, item) ∷ rest) back)

  -- a property of each item and of this one is one of each
  pub each-with_item : (P : Held Item → Type 0) (item : Item) (items : List (Held Item)) → P (place, item) → AllByRecursion P items
      → AllByRecursion P (with_item place item items)
  each-with_item P item items one all =
      each-append P (before place items) ((place, item) ∷ after place items)
      (each-filter P (λ held. ltb held.0 place) items all) (one, each-filter P (λ held. ltb place held.0) items all)

  -- the items ascend as before
  pub Ascend-with_item : (item : Item) (items : List (Held Item)) → Ascend items → Ascend (with_item place item items)
  Ascend-with_item item [] ascends = (tt, tt)
  Ascend-with_item item (held ∷ items) ascends = elim (cases_lt held.0 place) [
    | inl lt ↦
        rw (lt-ltb held.0 place lt, le-ltb place held.0 (le_of_lt held.0 place lt))
        (each-with_item (λ later. held.0 < later.0) item items lt ascends.0, Ascend-with_item item items ascends.1)
    | inr le ↦
        let behind : AllByRecursion (λ later. place < later.0) (after place (held ∷ items)) =
        each-weaker (λ later. ltb place later.0 ≡ true) (λ later. place < later.0) (λ later is. ltb-true place later.0 is) (after place (held ∷ items))
        (each-passes (λ later. ltb place later.0) (held ∷ items)) in
        let rest = Ascend-filter (λ later. ltb place later.0) (held ∷ items) ascends in
        let none : before place (held ∷ items) ≡ [] = rw (le-ltb held.0 place le) (none_before place items (later_all place held items le ascends.0)) in
        rw none (behind, rest)
  ]

-- ---- The entries of places, after a change.

below : {a b : ℕ} → a < b → b ≤ a → ⊥
below lt le = omega arith

nat_cmp-same : (n : ℕ) → nat_cmp n n ≡ Equal
nat_cmp-same n = rw (le-ltb n n (omega arith), eq-eqb n n refl) refl

-- at one place keys are compared
here : {K : Type 0} (cmp : K → K → Ordering) (place : ℕ) (key other : K) → is_at (placed_cmp cmp (place, key)) (place, other) ≡ is_at (cmp key) other
here cmp place key other = ap (λ o. is_eq (ordering_then o (cmp key other))) (nat_cmp-same place)

cond_true : (b c : Bool) → c ≡ true → cond b true c ≡ true
cond_true true c is = refl
cond_true false c is = is

-- the item put has an entry, and the others keep theirs
module _ {K Item : Type 0} {cmp : K → K → Ordering} {old : List (ℕ × K)} {items : ByKey K Item} (placed : AllPlaced cmp old items)
    (place : ℕ) (key : K) (item : Item) where
  pub placed_put : (put : ByKey K Item) → ChangesAt cmp key (with_item place item) items put
      → (new : List (ℕ × K))
      → ((x : ℕ × K) → list_any (is_at (placed_cmp cmp x)) new ≡ cond (is_at (placed_cmp cmp (place, key)) x) true (list_any (is_at (placed_cmp cmp x)) old))
      → AllPlaced cmp new put
  placed_put put changes new adds = record { each = each }
    where
      each : (other : K) → AllByRecursion (λ held. IsPlaced cmp new held.0 other) (items_at cmp other put)
      each other =
          let rest : AllByRecursion (λ held. IsPlaced cmp new held.0 other) (items_at cmp other items) =
          each-weaker (λ held. IsPlaced cmp old held.0 other) (λ held. IsPlaced cmp new held.0 other) (λ held was. adds (held.0, other) ∙ cond_true _ _ was) (items_at cmp other items) (placed.each other) in
          elim (cases_Bool (is_at (cmp key) other)) [
            | inl same ↦
                let one : IsPlaced cmp new place other = adds (place, other) ∙ rw (here cmp place key other, same) refl in
                rw (changes other, same) (each-with_item place (λ held. IsPlaced cmp new held.0 other) item (items_at cmp other items) one rest)
            | inr apart ↦ rw (changes other, apart) rest
          ]

-- if each key has the same items, the entries are still complete
pub placed_alike : {K Item : Type 0} {cmp : K → K → Ordering} {places : List (ℕ × K)} {old : ByKey K Item} → AllPlaced cmp places old
    → (new : ByKey K Item) → ((key : K) → items_at cmp key new ≡ items_at cmp key old) → AllPlaced cmp places new
placed_alike placed new same = record { each = λ key. rw (same key) (placed.each key) }

-- ---- entries taken from the end

-- equal entries have the same place and equal keys
pub placed_same : {K : Type 0} (cmp : K → K → Ordering) (place at : ℕ) (key other : K) → is_at (placed_cmp cmp (place, key)) (at, other) ≡ true
    → (place ≡ at) × (is_at (cmp key) other ≡ true)
placed_same cmp place at key other same = elim (cases_order place at) [
  | inl is ↦
      let whole = subst (λ n. is_at (placed_cmp cmp (place, key)) (n, other) ≡ true) (sym is) same in
      (is, sym (here cmp place key other) ∙ whole)
  | inr apart ↦ elim apart [
    | inl lt ↦ absurd (false≢true (rw (lt-ltb place at lt) at same))
    | inr gt ↦ absurd (false≢true (rw (le-ltb place at (omega arith), ne_eqb place at (omega arith)) at same))
  ]
]

-- no entry is later than the last
pub not_later : {K : Type 0} (cmp : K → K → Ordering) (place at : ℕ) (key other : K) → is_lt (placed_cmp cmp (place, key) (at, other)) ≡ false → at ≤ place
not_later cmp place at key other least = elim (cases_lt place at) [
  | inl lt ↦ absurd (false≢true (sym least ∙ rw (lt-ltb place at lt) refl))
  | inr le ↦ le
]

-- on the way: an entry is still there, or was taken, and then its place is this one or later
pub record IsTakenApart {K : Type 0} (cmp : K → K → Ordering) (place : ℕ) (old now : List (ℕ × K)) (late : List K) : Type 0 where
  pub each : (at : ℕ) (key : K) → IsPlaced cmp old at key
      → IsPlaced cmp now at key ⊎ ((place ≤ at) × (list_any (λ taken. is_at (cmp taken) key) late ≡ true))

module _ {K : Type 0} {cmp : K → K → Ordering} {place : ℕ} {old now : List (ℕ × K)} {late : List K} (apart : IsTakenApart cmp place old now late) where
  -- the last is taken
  pub taken_more : (new : List (ℕ × K)) (at : ℕ) (key : K) → place ≤ at
      → ((x : ℕ × K) → list_any (is_at (placed_cmp cmp x)) new ≡ cond (is_at (placed_cmp cmp (at, key)) x) false (list_any (is_at (placed_cmp cmp x)) now))
      → IsTakenApart cmp place old new (late ++ key ∷ [])
  taken_more new at key le takes = record {
    each = λ spot other was. elim (apart.each spot other was) [
      | inr taken ↦ inr (taken.0, any_before (λ taken. is_at (cmp taken) other) late key taken.1)
      | inl still ↦ elim (cases_Bool (is_at (placed_cmp cmp (at, key)) (spot, other))) [
        | inl same ↦
            let parts = placed_same cmp at spot key other same in
            let here : place ≤ spot = omega arith in
            inr (here, any_last (λ taken. is_at (cmp taken) other) late key parts.1)
        | inr other_one ↦ inl (takes (spot, other) ∙ rw other_one still)
      ]
    ];
  }

  -- entries before the place are not taken
  pub taken_rest : (at : ℕ) (key : K) → at < place → IsPlaced cmp old at key → IsPlaced cmp now at key
  taken_rest at key early was = elim (apart.each at key was) [
    | inl still ↦ still
    | inr taken ↦ absurd (below early taken.0)
  ]

  -- if all remaining entries are before the place, the others are taken
  pub taken_late : ((at : ℕ) (key : K) → IsPlaced cmp now at key → at < place)
      → (at : ℕ) (key : K) → place ≤ at → IsPlaced cmp old at key → list_any (λ taken. is_at (cmp taken) key) late ≡ true
  taken_late early at key le was = elim (apart.each at key was) [
    | inl still ↦ absurd (below (early at key still) le)
    | inr taken ↦ taken.1
  ]

-- ---- The end of a search among ascending items.

module _ {Item : Type 0} {place : ℕ} {items : List (Held Item)} {at : ℕ} (splits : SplitsAt place items at) where
  -- it ends within the items
  pub split-within : at ≤ length items
  split-within =
      omega (arith, splits.count, length-filter (λ held. ltb held.0 place) items, count_by-le-length (λ held. ltb held.0 place) items)

  -- the items before it are before the place
  pub split-front : take at items ≡ before place items
  split-front = rw splits.count (take-before place items splits.ascends)

  -- and those after it are not
  pub split-back : drop at items ≡ from place items
  split-back = rw splits.count (drop-before place items splits.ascends)

  -- if all are before the place, all stay
  pub split-all : at ≡ length items → items ≡ before place items
  split-all full = sym (take_all (length items) items (omega arith)) ∙ ap (λ n. take n items) (sym full) ∙ split-front

  -- if some are not, one is at the place or later
  pub split-reaches : at < length items → reaches place items ≡ true
  split-reaches more = true_from_ne_false (reaches place items) (λ none.
      let gone : drop at items ≡ [] = split-back ∙ filter_not_any (λ held. leb place held.0) items none in
      let left : length (drop at items) ≡ 0 = ap length gone in
      omega (arith, left, length-drop at items))

  module _ (item : Item) where
    -- an item written over the one at its place
    pub split-set : (held : Held Item) → at < length items → held ≡ get_or items at held → held.0 ≡ place
        → set items at (place, item) ≡ with_item place item items
    split-set held inside read found =
        let starts : from place items ≡ held ∷ drop (suc at) items = sym split-back ∙ drop-cons items at held inside ∙ ap (λ first. first ∷ drop (suc at) items) (sym read) in
        let behind : after place items ≡ drop (suc at) items = after_found place held items (drop (suc at) items) splits.ascends starts found in
        set_split items at (place, item) inside ∙ rw (split-front, behind) refl

    -- an item put between those before its place and those after it
    pub split-insert : ((held : Held Item) → at < length items → held ≡ get_or items at held → held.0 ≡ place → ⊥)
        → insert items at (place, item) ≡ with_item place item items
    split-insert missing =
        let none : after place items ≡ from place items =
        after_missing place items splits.ascends (λ held rest starts found.
        let drops : drop at items ≡ held ∷ rest = split-back ∙ starts in
        let some : length (drop at items) ≡ suc (length rest) = ap length drops in
        let inside : at < length items = omega (arith, some, length-drop at items) in
        let read : held ≡ get_or items at held = sym (ap (λ xs. get_or xs 0 held) drops) ∙ get_or-drop at items 0 held ∙ rw add-zero refl in
        missing held inside read found) in
        rw (split-front, split-back, none) refl

    -- the items before the place are unchanged
    pub split-alike : take at (with_item place item items) ≡ take at items
    split-alike = take_at (before place items) ((place, item) ∷ after place items) at (sym splits.count) ∙ sym split-front

    -- this many are before the place, and then those from it on
    pub split-length : length (with_item place item items) ≡ at + length (from place (with_item place item items))
    split-length = rw (from-with_item place item items) (length-append (before place items) ((place, item) ∷ after place items) ∙ rw (← splits.count) refl)
