-- States stored while items are folded.
use Rattle.std.proofs.Common.{◌≡◌, ◌∙◌, ℕ, ◌+◌, ◌-◌, ◌*◌, ◌/◌, ◌<◌, ◌≤◌, List, length, take, get_or, sym, ap, refl, arith, ⊎_elim, length-take, get_or-take, true, cond, ltb, [], ◌∷◌, ◌++◌, Ordering, inl, inr}
use Rattle.std.proofs.lemmas.Bool.{cases_lt, ltb-true, ltb-false, false≢true, true_from_ne_false, cases_Bool}
use Rattle.std.proofs.lemmas.List.{take-take, take_all}
use Rattle.std.specs.BTreeMap.{is_at}
use Rattle.std.specs.Cmp.{IsTotalOrder}
use Rattle.std.specs.List.{AllByRecursion, list_any}
use Rattle.st_base.proofs.ListLemmas.{each-weaker, each-both, each-filter, each-passes, filter_all, any_push}
use Rattle.st_opindex.proofs.KeyLemmas.{before-before, reaches-before}
use Rattle.st_opindex.specs.Items.{ByKey, items_at, ChangesAt, AreCut, Held, folded, before, reaches, IsKeptBefore, IsRow, Reached, left_of, IsPlaced, AllPlaced}
use Rattle.st_opindex.specs.declared.row.Row.{Row}

-- lists with a common prefix have the same first items
take_alike : {X : Type 0} (items other : List X) (n at : ℕ) → n ≤ at → take at other ≡ take at items → take n items ≡ take n other
take_alike items other n at within alike = sym (take-take n at items within) ∙ ap (take n) (sym alike) ∙ take-take n at other within

module _ {State Item : Type 0} {next : State → Item → State} {start : State} where
  -- the stored states are those of any list with the same prefix
  pub reached_alike : {items : List (Held Item)} {done : ℕ} {kept : List State} {last : State} (other : List (Held Item))
      → take done other ≡ take done items → Reached next start items done kept last → Reached next start other done kept last
  reached_alike {items} {done} other alike reached = record {
    count = reached.count;
    each = λ i d inside. reached.each i d inside ∙ ap (folded next start) (take_alike items other (8 * (i + 1)) done (omega (arith, reached.count)) alike);
    now = reached.now ∙ ap (folded next start) (take_alike items other done done (omega arith) alike);
  }

  -- the states of a row are those of any list with the same prefix
  pub row_alike : {row : Row Item State} → IsRow next start row → (other : List (Held Item)) (at : ℕ) → row.done ≤ at → take at other ≡ take at row.items.items
      → Reached next start other row.done row.kept.items row.last
  row_alike {row} is other at within alike = reached_alike other (sym (take_alike row.items.items other row.done at within alike)) is.reached

  pub row_folds : {row : Row Item State} → IsRow next start row → left_of row ≡ 0 → row.last ≡ folded next start row.items.items
  row_folds {row} is none = is.reached.now ∙ ap (folded next start) (take_all row.done row.items.items (omega (arith, is.within, none)))

  -- the states of a row are stored before a place in any list with the same prefix
  pub kept_before : {row : Row Item State} → IsRow next start row
      → (other : List (Held Item)) (at : ℕ) → at ≤ row.done → take at other ≡ take at row.items.items → IsKeptBefore next start other at row.kept.items
  kept_before {row} is other at within alike = record {
    enough = omega (arith, is.reached.count, within);
    each = λ i d below. is.reached.each i d (omega (arith, is.reached.count, below, within))
        ∙ ap (folded next start) (take_alike row.items.items other (8 * (i + 1)) at (omega (arith, below)) alike);
  }

  -- the last of these states is that of the items up to it
  pub reached_before : {items : List (Held Item)} {at : ℕ} {kept : List State} → IsKeptBefore next start items at kept
      → (last : State) → (length (take (at / 8) kept) ≡ 0 → last ≡ start)
      → (0 < length (take (at / 8) kept) → last ≡ get_or (take (at / 8) kept) (length (take (at / 8) kept) - 1) last)
      → Reached next start items (at / 8 * 8) (take (at / 8) kept) last
  reached_before {items} {at} {kept} is last none some = record {
    count = omega (arith, count);
    each = each;
    now = ⊎_elim at_kept (λ zero. at_start (omega (arith, zero))) (cases_lt 0 (at / 8));
  }
    where
      count : length (take (at / 8) kept) ≡ at / 8
      count = omega (arith, length-take (at / 8) kept, is.enough)

      each : (i : ℕ) (d : State) → i < length (take (at / 8) kept) → get_or (take (at / 8) kept) i d ≡ folded next start (take (8 * (i + 1)) items)
      each i d below = get_or-take (at / 8) kept i d (omega (arith, count, below)) ∙ is.each i d (omega (arith, count, below))

      at_start : at / 8 ≡ 0 → last ≡ folded next start (take (at / 8 * 8) items)
      at_start zero = none (omega (arith, count, zero)) ∙ rw zero refl

      at_kept : 0 < at / 8 → last ≡ folded next start (take (at / 8 * 8) items)
      at_kept more =
          let eight : 8 * (length (take (at / 8) kept) - 1 + 1) ≡ at / 8 * 8 = omega (arith, count, more) in
          some (omega (arith, count, more))
          ∙ each (length (take (at / 8) kept) - 1) last (omega (arith, count, more))
          ∙ ap (λ n. folded next start (take n items)) eight

-- ---- Keys that are cut at a place one after another.

-- the keys so far are cut, and now one key more
module _ {K Item : Type 0} {cmp : K → K → Ordering} (order : IsTotalOrder cmp) {place : ℕ} {keys : List K} {old rows : ByKey K Item}
    (cut : AreCut cmp place keys old rows) (key : K) where
  -- a key that reaches the place now did so at the start
  pub reached_first : reaches place (items_at cmp key rows) ≡ true → reaches place (items_at cmp key old) ≡ true
  reached_first reached = elim (cases_Bool (list_any (λ taken. is_at (cmp taken) key) keys)) [
    | inl was ↦ absurd (false≢true (sym (reaches-before place (items_at cmp key old)) ∙ sym (ap (reaches place) (cut.each key ∙ rw was refl)) ∙ reached))
    | inr was ↦ ap (reaches place) (sym (cut.each key ∙ rw was refl)) ∙ reached
  ]

  module _ (new : ByKey K Item) (cuts : ChangesAt cmp key (before place) rows new) where
    pub cut_more : AreCut cmp place (keys ++ key ∷ []) old new
    cut_more = record { each = each }
      where
        each : (other : K) → items_at cmp other new
            ≡ cond (list_any (λ taken. is_at (cmp taken) other) (keys ++ key ∷ [])) (before place (items_at cmp other old)) (items_at cmp other old)
        each other = elim (cases_Bool (is_at (cmp key) other)) [
          | inl same ↦
              let here : items_at cmp other new ≡ before place (items_at cmp other rows) = cuts other ∙ rw same refl in
              elim (cases_Bool (list_any (λ taken. is_at (cmp taken) other) keys)) [
                | inl was ↦ rw (any_push (λ taken. is_at (cmp taken) other) keys key, was) (here ∙ ap (before place) (cut.each other ∙ rw was refl) ∙ before-before place (items_at cmp other old))
                | inr was ↦ rw (any_push (λ taken. is_at (cmp taken) other) keys key, was, same) (here ∙ ap (before place) (cut.each other ∙ rw was refl))
              ]
          | inr apart ↦
              let here : items_at cmp other new ≡ items_at cmp other rows = cuts other ∙ rw apart refl in
              elim (cases_Bool (list_any (λ taken. is_at (cmp taken) other) keys)) [
                | inl was ↦ rw (any_push (λ taken. is_at (cmp taken) other) keys key, was) (here ∙ cut.each other ∙ rw was refl)
                | inr was ↦ rw (any_push (λ taken. is_at (cmp taken) other) keys key, was, apart) (here ∙ cut.each other ∙ rw was refl)
              ]
        ]

-- the keys of all late entries are cut
module _ {K Item : Type 0} {cmp : K → K → Ordering} {place : ℕ} {placed : List (ℕ × K)} {late : List K} {old new : ByKey K Item}
    (all : AllPlaced cmp placed old)
    (found : (at : ℕ) (key : K) → place ≤ at → IsPlaced cmp placed at key → list_any (λ taken. is_at (cmp taken) key) late ≡ true)
    (cut : AreCut cmp place late old new) where
  -- a key that is not among those cut has no item to lose
  pub all_cut : (key : K) → items_at cmp key new ≡ before place (items_at cmp key old)
  all_cut key = elim (cases_Bool (list_any (λ taken. is_at (cmp taken) key) late)) [
    | inl was ↦ cut.each key ∙ rw was refl
    | inr missing ↦
        let early : AllByRecursion (λ held. ltb held.0 place ≡ true) (items_at cmp key old) =
        each-weaker (λ held. IsPlaced cmp placed held.0 key) (λ held. ltb held.0 place ≡ true) (λ held is.
        true_from_ne_false (ltb held.0 place) (λ not_before. false≢true (sym missing ∙ found held.0 key (ltb-false held.0 place not_before) is)))
        (items_at cmp key old) (all.each key) in
        cut.each key ∙ rw missing (sym (filter_all (λ held. ltb held.0 place) (items_at cmp key old) early))
  ]

  -- each remaining item still has its entry
  pub placed_cut : (below : List (ℕ × K)) → ((at : ℕ) (key : K) → at < place → IsPlaced cmp placed at key → IsPlaced cmp below at key) → AllPlaced cmp below new
  placed_cut below rest = record {
    each = λ key. rw (all_cut key)
        (each-both (λ held. IsPlaced cmp placed held.0 key) (λ held. ltb held.0 place ≡ true) (λ held. IsPlaced cmp below held.0 key)
        (λ held was is. rest held.0 key (ltb-true held.0 place is) was) (before place (items_at cmp key old))
        (each-filter (λ held. IsPlaced cmp placed held.0 key) (λ held. ltb held.0 place) (items_at cmp key old) (all.each key))
        (each-passes (λ held. ltb held.0 place) (items_at cmp key old)));
  }
