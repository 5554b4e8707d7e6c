-- Items are put into an index or cut: pending changes allow those that remain to be folded.
use Rattle.std.proofs.Common.{◌==◌, ◌≡◌, ◌∙◌, ◌+◌, ◌≤◌, ℕ, true, false, not, ltb, leb, List, [], ◌∷◌, ◌++◌, ◌&&◌, length, ap, refl, arith, Ordering, inl, inr, ◌<◌, Bool, cond, min, sym}
use Rattle.std.proofs.lemmas.Bool.{cases_Bool, cases_lt, eq-eqb, le-leb, le-ltb, leb-true, lt-leb, lt-ltb, ltb-true, and_parts, eqb-true, false≢true, or_cases, or_left, or_right}
use Rattle.std.proofs.lemmas.List.Elements.{filter-append}
use Rattle.std.proofs.lemmas.List.Filters.{length-filter_both}
use Rattle.std.proofs.lemmas.List.Sums.{length-filter, sum_by-cons, sum_by-le-sum_by}
use Rattle.std.specs.BTreeMap.{is_at}
use Rattle.std.specs.Cmp.{IsTotalOrder, eq_by_cmp_equiv}
use Rattle.std.specs.List.{AllByRecursion, list_any, sum_by}
use Rattle.st_base.proofs.ListLemmas.{count_by-le, any_before, any_last, each-passes, each-weaker, filter_none, any_push}
use Rattle.st_base.specs.Work.{AppliesAtMost, WorkValue}
use Rattle.st_opindex.proofs.KeyLemmas.{le_of_lt, items_at-same, left_at-same}
use Rattle.st_opindex.specs.Items.{ChangesAt, items_at, ByKey, Covers, cover_cost, Held, after, before, from, with_item, AreOwed, IsOwed, LeavesMore, LeavesNoMore, left_at, seen_items, FoldsKey}
use Rattle.st_opindex.specs.declared.row.Row.{Row}

module _ {Item : Type 0} where
  parts : (place : ℕ) (items : List (Held Item)) → length (before place items) + length (from place items) ≡ length items
  parts place items = length-filter_both (λ held. ltb held.0 place) (λ held. leb place held.0) (λ held. one held.0) items
    where
      one : (n : ℕ) → leb place n ≡ not (ltb n place)
      one n = elim (cases_lt n place) [
        | inl lt ↦ rw (lt-ltb n place lt, lt-leb place n lt) refl
        | inr le ↦ rw (le-ltb n place le, le-leb place n le) refl
      ]

  pub from-falls : (place later : ℕ) (items : List (Held Item)) → place ≤ later → length (from later items) ≤ length (from place items)
  from-falls place later items le =
      omega (
        arith,
        length-filter (λ held. leb place held.0) items,
        length-filter (λ held. leb later held.0) items,
        count_by-le (λ held. leb place held.0) (λ held. leb later held.0) (λ held is. le-leb place held.0 (omega (arith, le, leb-true later held.0 is))) items,
      )

  module _ (early place : ℕ) (le : early ≤ place) where
    before-early : (items : List (Held Item)) → before early (before place items) ≡ before early items
    before-early [] = refl
    before-early (held ∷ items) = elim (cases_lt held.0 early) [
      | inl lt ↦ rw (lt-ltb held.0 place (omega (arith, lt, le)), lt-ltb held.0 early lt) (ap (λ front. held ∷ front) (before-early items))
      | inr late ↦ elim (cases_lt held.0 place) [
        | inl lt ↦ rw (lt-ltb held.0 place lt, le-ltb held.0 early late) (before-early items)
        | inr past ↦ rw (le-ltb held.0 place past, le-ltb held.0 early late) (before-early items)
      ]
    ]

    -- a put keeps the items before an earlier place,
    before-put : (item : Item) (items : List (Held Item)) → before early (with_item place item items) ≡ before early items
    before-put item items =
        let back : before early (after place items) ≡ [] =
        filter_none (λ held. ltb held.0 early) (after place items)
        (each-weaker (λ held. ltb place held.0 ≡ true) (λ held. ltb held.0 early ≡ false)
        (λ held is. le-ltb held.0 early (omega (arith, le, ltb-true place held.0 is))) (after place items)
        (each-passes (λ held. ltb place held.0) items)) in
        filter-append (λ held. ltb held.0 early) (before place items) ((place, item) ∷ after place items)
        ∙ rw (before-early items, le-ltb place early le, back) (no_more (before early items))
      where
        no_more : (front : List (Held Item)) → front ++ [] ≡ front
        no_more [] = refl
        no_more (held ∷ front) = ap (λ rest. held ∷ rest) (no_more front)

    -- and adds the item to those from it on
    from-put : (item : Item) (items : List (Held Item))
        → length (from early (with_item place item items)) + length items ≡ length (from early items) + length (with_item place item items)
    from-put item items =
        omega (arith, parts early items, parts early (with_item place item items), ap length (before-put item items))

    -- a cut keeps those before an earlier place, and takes its items from those from it on
    from-cut : (items : List (Held Item))
        → length (from early (before place items)) + length items ≡ length (from early items) + length (before place items)
    from-cut items = omega (arith, parts early items, parts early (before place items), ap length (before-early items))

  -- a change of the items at a place and later that keeps those before it
  abbrev pub CountsChange : ℕ → (List (Held Item) → List (Held Item)) → Type 0
  CountsChange place change = (early : ℕ) → early ≤ place → (items : List (Held Item))
      → length (from early (change items)) + length items ≡ length (from early items) + length (change items)

  -- a put is one, and so is a cut
  pub put_counts : (place : ℕ) (item : Item) → CountsChange place (with_item place item)
  put_counts place item early le items = from-put early place le item items

  pub cut_counts : (place : ℕ) → CountsChange place (before place)
  cut_counts place early le items = from-cut early place le items

module _ {K : Type 0} {cmp : K → K → Ordering} where
  -- an allowance stays after one more change
  owed_still : {Item : Type 0} {changes : List (K × ℕ)} {key : K} {left : ℕ} {items : List (Held Item)} (change : K × ℕ)
      → IsOwed cmp changes key left items → IsOwed cmp (changes ++ change ∷ []) key left items
  owed_still {changes = changes} {key = key} change owed = record {
    place = owed.place;
    changed = any_before (λ change. is_at (cmp change.0) key && (change.1 == owed.place)) changes change owed.changed;
    few = owed.few;
  }

  module _ {State Item : Type 0} (order : IsTotalOrder cmp) {changes : List (K × ℕ)} {old new : List (K × Row Item State)} (owed : AreOwed cmp changes old)
      (key : K) (place : ℕ) (change : List (Held Item) → List (Held Item)) (counts : CountsChange place change)
      (puts : ChangesAt cmp key change (seen_items old) (seen_items new)) (more : LeavesMore cmp key place old new) where
    -- the change of this place allows the remaining items of its key,
    here : (other : K) → is_at (cmp key) other ≡ true → left_at cmp other new ≤ 7 + length (from place (items_at cmp other (seen_items new)))
        → IsOwed cmp (changes ++ (key, place) ∷ []) other (left_at cmp other new) (items_at cmp other (seen_items new))
    here other same few = record {
      place = place;
      changed = any_last (λ change. is_at (cmp change.0) other && (change.1 == place)) changes (key, place) (rw (same, eq-eqb place place refl) refl);
      few = few;
    }

    -- or an earlier change does
    own : (other : K) → is_at (cmp key) other ≡ true
        → IsOwed cmp (changes ++ (key, place) ∷ []) other (left_at cmp other new) (items_at cmp other (seen_items new))
    unfolding owed_still
    own other same =
        let was : List (Held Item) = items_at cmp other (seen_items old) in
        let now : List (Held Item) = items_at cmp other (seen_items new) in
        let is : now ≡ change was = puts other ∙ rw same refl in
        let left : left_at cmp key new ≡ left_at cmp other new = left_at-same order key other new same in
        let before_left : left_at cmp key old ≡ left_at cmp other old = left_at-same order key other old same in
        let items : items_at cmp key (seen_items new) ≡ now = items_at-same order key other (seen_items new) same in
        let before_items : items_at cmp key (seen_items old) ≡ was = items_at-same order key other (seen_items old) same in
        let at_place : length (from place now) + length was ≡ length (from place was) + length now =
        rw is (counts place (omega arith) was) in
        elim more.own [
          | inr few ↦ here other same (omega (arith, few, left, ap (λ xs. length (from place xs)) items))
          | inl grows ↦
              let many : left_at cmp other new + length was ≤ left_at cmp other old + length now =
              omega (arith, grows, left, before_left, ap length items, ap length before_items) in
              elim (cases_lt 0 (left_at cmp other old)) [
                | inr none ↦ here other same (omega (arith, many, none, at_place))
                | inl some ↦
                    let account = owed.each other some in
                    elim (cases_lt place account.place) [
                      | inl lt ↦
                          let falls = from-falls place account.place was (le_of_lt place account.place lt) in
                          here other same (omega (arith, many, account.few, falls, at_place))
                      | inr le ↦
                          let at_other : length (from account.place now) + length was ≡ length (from account.place was) + length now =
                          rw is (counts account.place le was) in
                          record {
                            place = account.place;
                            changed = (owed_still (key, place) account).changed;
                            few = omega (arith, many, account.few, at_other);
                          }
                    ]
              ]
        ]

    -- so after the change the remaining items are allowed
    pub owed_more : AreOwed cmp (changes ++ (key, place) ∷ []) new
    owed_more = record {
      each = λ other some. elim (cases_Bool (is_at (cmp key) other)) [
        | inl same ↦ own other same
        | inr apart ↦
            let left : left_at cmp other new ≡ left_at cmp other old = more.others other apart in
            let items : items_at cmp other (seen_items new) ≡ items_at cmp other (seen_items old) = puts other ∙ rw apart refl in
            rw (left, items) (owed_still (key, place) (owed.each other (omega (arith, left, some))))
      ];
    }

  -- and if no more remain, that stays
  pub owed_same : {State Item : Type 0} {changes : List (K × ℕ)} {old new : List (K × Row Item State)} → AreOwed cmp changes old → LeavesNoMore cmp old new
      → AreOwed cmp changes new
  owed_same owed leaves = record {
    each = λ key some. rw (leaves.left key some, leaves.items key some) (owed.each key (omega (arith, leaves.left key some, some)));
  }

-- ---- Changed keys are folded one after another.

module _ {K State Item : Type 0} {cmp : K → K → Ordering} {entries : List (K × Row Item State)} where
  -- if no change is pending, nothing remains,
  pub nothing_left : AreOwed cmp [] entries → (key : K) → left_at cmp key entries ≡ 0
  nothing_left owed key = elim (cases_lt 0 (left_at cmp key entries)) [
    | inl some ↦ absurd (false≢true (owed.each key some).changed)
    | inr none ↦ omega (arith, none)
  ]

  -- and conversely
  pub nothing_owed : ((key : K) → left_at cmp key entries ≡ 0) → AreOwed cmp [] entries
  nothing_owed none = record { each = λ key some. absurd (omega (arith, none key, some)) }

-- ---- sums

-- a property of each item is one of some item that passes a test
some_item : {X : Type 0} (P : X → Type 0) (test : X → Bool) (xs : List X) → AllByRecursion P xs → list_any test xs ≡ true → (x : X) × P x × (test x ≡ true)
some_item P test [] all any = absurd (false≢true any)
some_item P test (x ∷ xs) all any = elim (or_cases (test x) (list_any test xs) any) [
  | inl here ↦ (x, all.0, here)
  | inr later ↦ some_item P test xs all.1 later
]

-- ---- on the way

-- all items of the keys of these changes are folded, and of any other key as many as at first
pub record IsFolding {K State Item : Type 0} (cmp : K → K → Ordering) (changes : List (K × ℕ)) (old now : List (K × Row Item State)) : Type 0 where
  pub left : (key : K) → left_at cmp key now ≡ cond (list_any (λ change. is_at (cmp change.0) key) changes) 0 (left_at cmp key old)
  pub items : (key : K) → items_at cmp key (seen_items now) ≡ items_at cmp key (seen_items old)

-- what a name may pay for
abbrev name_cost : {K Item : Type 0} → (K → K → Ordering) → ByKey K Item → K × ℕ → ℕ
name_cost cmp items name = 7 + length (from name.1 (items_at cmp name.0 items))

module _ {K State Item : Type 0} (cmp : K → K → Ordering) where
  -- what names still pay for
  abbrev pub owing : ByKey K Item → List (K × Row Item State) → List (K × ℕ) → ℕ
  owing items now names = sum_by (λ name. min (left_at cmp name.0 now) (name_cost cmp items name)) names

  -- at most as many operations were applied as the names have paid for, and each was counted
  pub record HasPaid (names : List (K × ℕ)) (old now : List (K × Row Item State)) (first work : WorkValue) : Type 0 where
    pub files : work.files ≡ first.files
    pub proofs : work.proofs ≡ first.proofs
    pub least : first.applies ≤ work.applies
    pub applies : work.applies + owing (seen_items old) now names ≤ first.applies + cover_cost cmp (seen_items old) names

module _ {K State Item : Type 0} {cmp : K → K → Ordering} where
  pub folding_start : (old : List (K × Row Item State)) → IsFolding cmp [] old old
  folding_start old = record { left = λ key. refl; items = λ key. refl }

  pub paid_start : (names : List (K × ℕ)) (old : List (K × Row Item State)) (first : WorkValue) → HasPaid cmp names old old first first
  paid_start names old first = record {
    files = refl;
    proofs = refl;
    least = omega arith;
    applies = omega (
      arith,
      sum_by-le-sum_by (λ name. min (left_at cmp name.0 old) (name_cost cmp (seen_items old) name)) (name_cost cmp (seen_items old)) names
          (λ name. omega arith),
    );
  }

  pub paid_folded : {names : List (K × ℕ)} {old now : List (K × Row Item State)} {first work : WorkValue} → HasPaid cmp names old now first work
      → AppliesAtMost (cover_cost cmp (seen_items old) names) first work
  paid_folded paid = record { files = paid.files; proofs = paid.proofs; least = paid.least; applies = omega (arith, paid.applies) }

-- the next key is folded
module _ {K State Item : Type 0} {cmp : K → K → Ordering} (order : IsTotalOrder cmp) {taken : List (K × ℕ)} {old now : List (K × Row Item State)}
    (folding : IsFolding cmp taken old now) (key : K) where
  module _ {all : List (K × ℕ)} (owed : AreOwed cmp all old) (names : List (K × ℕ)) (named : AllByRecursion (Covers cmp names) all) where
    -- its remaining items remained at the start
    left_first : 0 < left_at cmp key now → left_at cmp key now ≡ left_at cmp key old
    left_first some = elim (cases_Bool (list_any (λ change. is_at (cmp change.0) key) taken)) [
      | inl was ↦ let none : left_at cmp key now ≡ 0 = folding.left key ∙ rw was refl in absurd (omega (arith, none, some))
      | inr not ↦ folding.left key ∙ rw not refl
    ]

    -- a name pays for it
    pays : (rest : K × ℕ → ℕ) → ((name : K × ℕ) → rest name ≤ min (left_at cmp name.0 now) (name_cost cmp (seen_items old) name))
        → ((name : K × ℕ) → is_at (cmp key) name.0 ≡ true → rest name ≡ 0)
        → sum_by rest names + left_at cmp key now ≤ owing cmp (seen_items old) now names
    pays rest fewer gone = elim (cases_lt 0 (left_at cmp key now)) [
      | inr none ↦ omega (arith, none, sum_by-le-sum_by rest (λ name. min (left_at cmp name.0 now) (name_cost cmp (seen_items old) name)) names fewer)
      | inl some ↦
          let first = left_first some in
          let account = owed.each key (omega (arith, first, some)) in
          let change = some_item _ (λ change. is_at (cmp change.0) key && (change.1 == account.place)) all named account.changed in
          let parts = and_parts (is_at (cmp change.0.0) key) (change.0.1 == account.place) change.2 in
          let place = eqb-true change.0.1 account.place parts.1 in
          falls (λ name. is_at (cmp change.0.0) name.0 && leb name.1 change.0.1)
          (λ name is.
          let halves = and_parts (is_at (cmp change.0.0) name.0) (leb name.1 change.0.1) is in
          let same : is_at (cmp key) name.0 ≡ true = sym ((eq_by_cmp_equiv order).congr change.0.0 key name.0 parts.0) ∙ halves.0 in
          let upto : name.1 ≤ account.place = omega (arith, leb-true name.1 change.0.1 halves.1, place) in
          omega (
            arith,
            gone name same,
            left_at-same order key name.0 now same,
            ap (λ items. length (from name.1 items)) (items_at-same order key name.0 (seen_items old) same),
            from-falls name.1 account.place (items_at cmp key (seen_items old)) upto,
            account.few,
            first,
          ))
          names change.1
    ]
      where
        paid : K × ℕ → ℕ
        paid name = min (left_at cmp name.0 now) (name_cost cmp (seen_items old) name)

        -- no term grows: if some term falls by this much, so does the sum
        falls : (some : K × ℕ → Bool) → ((name : K × ℕ) → some name ≡ true → rest name + left_at cmp key now ≤ paid name)
            → (all : List (K × ℕ)) → list_any some all ≡ true → sum_by rest all + left_at cmp key now ≤ sum_by paid all
        falls some apart [] any = absurd (false≢true any)
        falls some apart (name ∷ all) any = elim (or_cases (some name) (list_any some all) any) [
          | inl here ↦ omega (arith, sum_by-cons paid name all, sum_by-cons rest name all, apart name here, sum_by-le-sum_by rest paid all fewer)
          | inr later ↦ omega (arith, sum_by-cons paid name all, sum_by-cons rest name all, fewer name, falls some apart all later)
        ]

    module _ {first work after : WorkValue} (paid : HasPaid cmp names old now first work) (step : AppliesAtMost (left_at cmp key now) work after) where
      -- if memory runs out on the way
      pub fold_stopped : AppliesAtMost (cover_cost cmp (seen_items old) names) first after
      fold_stopped = record {
        files = step.files ∙ paid.files;
        proofs = step.proofs ∙ paid.proofs;
        least = omega (arith, step.least, paid.least);
        applies = omega (arith, step.applies, paid.applies, pays (λ name. 0) (λ name. omega arith) (λ name same. refl));
      }

      -- and if it doesn't
      pub fold_paid : (new : List (K × Row Item State)) → FoldsKey cmp key now new → HasPaid cmp names old new first after
      fold_paid new folds = record {
        files = step.files ∙ paid.files;
        proofs = step.proofs ∙ paid.proofs;
        least = omega (arith, step.least, paid.least);
        applies = omega (
          arith,
          step.applies,
          paid.applies,
          pays (λ name. min (left_at cmp name.0 new) (name_cost cmp (seen_items old) name)) fewer
              (λ name same. let none : left_at cmp name.0 new ≡ 0 = folds name.0 ∙ rw same refl in omega (arith, none)),
        );
      }
        where
          fewer : (name : K × ℕ) → min (left_at cmp name.0 new) (name_cost cmp (seen_items old) name)
              ≤ min (left_at cmp name.0 now) (name_cost cmp (seen_items old) name)
          fewer name = elim (cases_Bool (is_at (cmp key) name.0)) [
            | inl same ↦ let none : left_at cmp name.0 new ≡ 0 = folds name.0 ∙ rw same refl in omega (arith, none)
            | inr apart ↦ let stays : left_at cmp name.0 new ≡ left_at cmp name.0 now = folds name.0 ∙ rw apart refl in omega (arith, stays)
          ]

  pub folding_more : (place : ℕ) (new : List (K × Row Item State)) → FoldsKey cmp key now new
      → ChangesAt cmp key (λ items. items) (seen_items now) (seen_items new)
      → IsFolding cmp (taken ++ (key, place) ∷ []) old new
  folding_more place new folds stays = record {
    left = left;
    items = λ other. stays other ∙ either (is_at (cmp key) other) (items_at cmp other (seen_items now)) ∙ folding.items other;
  }
    where
      either : {X : Type 0} (b : Bool) (x : X) → cond b x x ≡ x
      either true x = refl
      either false x = refl

      left : (other : K) → left_at cmp other new ≡ cond (list_any (λ change. is_at (cmp change.0) other) (taken ++ (key, place) ∷ [])) 0 (left_at cmp other old)
      left other = elim (cases_Bool (is_at (cmp key) other)) [
        | inl same ↦
            let here : left_at cmp other new ≡ 0 = folds other ∙ rw same refl in
            rw (
              any_push (λ change. is_at (cmp change.0) other) taken (key, place),
              or_right (list_any (λ change. is_at (cmp change.0) other) taken) (is_at (cmp key) other) same,
            ) here
        | inr apart ↦
            let here : left_at cmp other new ≡ left_at cmp other now = folds other ∙ rw apart refl in
            elim (cases_Bool (list_any (λ change. is_at (cmp change.0) other) taken)) [
              | inl was ↦ rw (any_push (λ change. is_at (cmp change.0) other) taken (key, place), was) (here ∙ folding.left other ∙ rw was refl)
              | inr was ↦ rw (any_push (λ change. is_at (cmp change.0) other) taken (key, place), was, apart) (here ∙ folding.left other ∙ rw was refl)
            ]
      ]

-- after the keys of all changes are folded, all keys are
module _ {K State Item : Type 0} {cmp : K → K → Ordering} {all : List (K × ℕ)}
    {old now : List (K × Row Item State)} (owed : AreOwed cmp all old) (folding : IsFolding cmp all old now) where
  pub none_left : (key : K) → left_at cmp key now ≡ 0
  none_left key = elim (cases_Bool (list_any (λ change. is_at (cmp change.0) key) all)) [
    | inl was ↦ folding.left key ∙ rw was refl
    | inr not ↦
        let same : left_at cmp key now ≡ left_at cmp key old = folding.left key ∙ rw not refl in
        elim (cases_lt 0 (left_at cmp key old)) [
          | inr none ↦ omega (arith, same, none)
          | inl some ↦
              let account = owed.each key some in
              absurd (false≢true (sym not ∙ any_first (λ change. is_at (cmp change.0) key) (λ change. change.1 == account.place) all account.changed))
        ]
  ]
    where
      any_first : {X : Type 0} (test other : X → Bool) (xs : List X) → list_any (λ x. test x && other x) xs ≡ true → list_any test xs ≡ true
      any_first test other [] any = any
      any_first test other (x ∷ xs) any = elim (or_cases (test x && other x) (list_any (λ x. test x && other x) xs) any) [
        | inl here ↦ or_left (test x) (list_any test xs) (and_parts (test x) (other x) here).0
        | inr later ↦ or_right (test x) (list_any test xs) (any_first test other xs later)
      ]
