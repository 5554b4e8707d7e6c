-- Operations at their places, stored by suffix.
--     put_operations, cut_operations          the operations of each identifier after a put and a cut of the index
--     state_resolved                          the state that the index folds is the one the operations resolve to
--     given-first, popped                     given operations, put from the last to the first
--     covers-itself, covers-before, covers-put     names that cover changes
--     from-length, loses                      the operations folded from a place on, and those that a cut drops
use Rattle.std.proofs.Common.{◌≡◌, ◌∙◌, ℕ, ◌≤◌, Bool, true, false, cond, ltb, leb, nat_lt, List, [], ◌∷◌, ◌++◌, length, filter, drop, reverse, sym, ap, subst, refl, arith, append-nil, append_assoc, inl, inr, ◌⊎◌, zero, suc, ◌+◌, not, slice_get, Equal, option_map, is_some, unwrap_or, if◌then◌else◌, ⊎_elim, is_eq}
use Rattle.std.proofs.lemmas.Bool.{le-leb, le-ltb, ltb-true, cases_Bool, false≢true, or_left, or_right, true≢false, and_parts, leb-true, or_cases}
use Rattle.std.proofs.lemmas.List.{drop_at, length-map, map-append, reverse-append}
use Rattle.std.proofs.lemmas.List.Elements.{filter-append}
use Rattle.std.proofs.lemmas.List.Folds.{fold-map, list_any-append}
use Rattle.std.proofs.lemmas.Map.Made.{is_some-lookup}
use Rattle.std.proofs.lemmas.Map.Views.{any-filter_same}
use Rattle.std.specs.BTreeMap.{is_at}
use Rattle.std.specs.List.{AllByRecursion, list_any, cons_option, flat_map}
use Rattle.std.specs.Prelude.{map, Option, Some, None, ◌&&◌}
use Rattle.st_base.proofs.ListLemmas.{each-append, each-passes, each-weaker, filter_all, filter_none}
use Rattle.st_hash.proofs.HashLemmas.{same_hash-itself, same_hash-is}
use Rattle.st_hash.specs.Hash.{HashValue, hash_cmp, same_hash, same_hash-equivalence, same_hash-ties, hash_cmp-total}
use Rattle.st_params.specs.ParamsValue.{params_at}
use Rattle.st_opindex.specs.Items.{ChangesAt, Covers, items_at, Held, before, from, after, with_item, folded, reaches}
use Rattle.st_ops.specs.Operation.{PlainOperation, plain_operation}
use Rattle.st_ops.specs.declared.operation.Operation.{Operation}
use Rattle.st_ledger.specs.declared.ledger.Entry.{Entry}
use Rattle.st_apply.proofs.ResolvedLemmas.{resolved_fold}
use Rattle.st_apply.specs.Laws.{Anchored, place_of, resolved, PlacesAscend, given_from}
use Rattle.st_apply.specs.Applied.{applied}
use Rattle.st_apply.specs.Codes.{absent}
use Rattle.st_observer.proofs.WantedLemmas.{once-has}
use Rattle.st_observer.specs.Observed.{given_for, Observed, anchored_by, anchored_for, arrived, gives_of, operations}
use Rattle.st_observer.specs.Work.{BySuffix, anchored_item, operations_at, from_place, is_missed_by, late, late_from, late_in, losing, suffixes_of}
use Rattle.st_observer.specs.inside.Steps.{after_place, at_place, before_place, stepped, with_given}

-- ---- the items of an index as operations

filter-map : {X Y : Type 0} (test : Y → Bool) (f : X → Y) (xs : List X) → filter test (map f xs) ≡ map f (filter (λ x. test (f x)) xs)
filter-map test f [] = refl
filter-map test f (x ∷ xs) = elim (cases_Bool (test (f x))) [
  | inl is ↦ rw is (ap (λ rest. f x ∷ rest) (filter-map test f xs))
  | inr is ↦ rw is (filter-map test f xs)
]

abbrev Item : Type 0
Item = ℕ × Operation

module _ (place : ℕ) (items : List (Held Item)) where
  before-items : before_place place (map anchored_item items) ≡ map anchored_item (before place items)
  before-items = filter-map (λ anchored. ltb anchored.place place) anchored_item items

  after-items : after_place place (map anchored_item items) ≡ map anchored_item (after place items)
  after-items = filter-map (λ anchored. ltb place anchored.place) anchored_item items

  from-items : from_place place (map anchored_item items) ≡ map anchored_item (from place items)
  from-items = filter-map (λ anchored. leb place anchored.place) anchored_item items

  with-items : (height : ℕ) (operation : Operation)
      → map anchored_item (with_item place (height, operation) items) ≡ with_given place height (Some (plain_operation operation)) (map anchored_item items)
  with-items height operation =
      map-append anchored_item (before place items) ((place, (height, operation)) ∷ after place items) ∙ rw (before-items, after-items) refl

tied : (suffix : HashValue) → is_at (hash_cmp suffix) suffix ≡ true
tied suffix = sym (same_hash-ties suffix suffix) ∙ same_hash-itself suffix

same-at : (key other : HashValue) → is_at (hash_cmp key) other ≡ same_hash other key
same-at key other = sym (same_hash-ties key other) ∙ same_hash-equivalence.symm key other

module _ (place height : ℕ) (key : HashValue) (operation : Operation) where
  choose : (b : Bool) (items : List (Held Item)) → map anchored_item (cond b (with_item place (height, operation) items) items)
      ≡ with_given place height (cond b (Some (plain_operation operation)) None) (map anchored_item items)
  choose true items = with-items place items height operation
  choose false items = refl

  -- the items of each identifier after a put,
  pub put_operations : (old new : BySuffix) → ChangesAt hash_cmp key (with_item place (height, operation)) old new → (suffix : HashValue)
      → operations_at suffix new ≡ with_given place height (given_for suffix ((key, plain_operation operation) ∷ [])) (operations_at suffix old)
  unfolding operations_at
  put_operations old new changes suffix =
      let items = items_at hash_cmp suffix old in
      ap (map anchored_item) (changes suffix)
      ∙ ap (λ b. map anchored_item (cond b (with_item place (height, operation) items) items)) (same-at key suffix)
      ∙ choose (same_hash suffix key) items

pub kept_operations : (suffix : HashValue) (items : BySuffix) → map anchored_item (items_at hash_cmp suffix items) ≡ operations_at suffix items
unfolding operations_at
kept_operations suffix items = refl

-- an identifier with the same items has the same operations
pub same_operations : (suffix : HashValue) (old new : BySuffix) → items_at hash_cmp suffix new ≡ items_at hash_cmp suffix old
    → operations_at suffix new ≡ operations_at suffix old
unfolding operations_at
same_operations suffix old new same = ap (map anchored_item) same

-- the items of an identifier after a cut
pub cut_operations : (place : ℕ) (suffix : HashValue) (old new : BySuffix) → items_at hash_cmp suffix new ≡ before place (items_at hash_cmp suffix old)
    → operations_at suffix new ≡ before_place place (operations_at suffix old)
unfolding operations_at
cut_operations place suffix old new cut = ap (map anchored_item) cut ∙ sym (before-items place (items_at hash_cmp suffix old))

-- if some item passes a test, a filter keeps at least one
some_left : {X : Type 0} (test : X → Bool) (xs : List X) → list_any test xs ≡ true → 1 ≤ length (filter test xs)
some_left test [] any = absurd (false≢true any)
some_left test (x ∷ xs) any = elim (cases_Bool (test x)) [
  | inl is ↦ rw is (omega arith)
  | inr is ↦ rw is (some_left test xs (rw is at any))
]

-- if some item is lost in a cut, some operation is
pub loses : (place : ℕ) (suffix : HashValue) (items : BySuffix) → reaches place (items_at hash_cmp suffix items) ≡ true
    → 1 ≤ length (from_place place (operations_at suffix items))
unfolding operations_at
loses place suffix items any =
    let kept = items_at hash_cmp suffix items in
    rw (from-items place kept, length-map (from place kept) anchored_item) (some_left (λ held. leb place held.0) kept any)

-- as many are folded from a place on
pub from-length : (place : ℕ) (suffix : HashValue) (items : BySuffix)
    → length (from place (items_at hash_cmp suffix items)) ≡ length (from_place place (operations_at suffix items))
unfolding operations_at
from-length place suffix items =
    let kept = items_at hash_cmp suffix items in
    rw (from-items place kept) (sym (length-map (from place kept) anchored_item))

-- the state that the items of an identifier fold to is the one its operations resolve to
pub state_resolved : (schedule : Option ℕ) (suffix : HashValue) (items : BySuffix) → PlacesAscend place_of (operations_at suffix items)
    → folded (stepped schedule) absent (items_at hash_cmp suffix items) ≡ resolved schedule (operations_at suffix items)
unfolding operations_at
state_resolved schedule suffix items ascend =
    let kept = items_at hash_cmp suffix items in
    sym (fold-map (λ state anchored. applied (params_at schedule anchored.height) state anchored.operation) anchored_item absent kept)
    ∙ resolved_fold schedule (map anchored_item kept) ascend

abbrev Givens : Type 0
Givens = List (HashValue × PlainOperation)

-- ---- a list of given operations, put from the last to the first

module _ (n : ℕ) (operations : List Anchored) where
  none-before : before_place n (after_place n operations) ≡ []
  none-before =
      filter_none (λ item. nat_lt item.place n) (after_place n operations)
      (each-weaker (λ item. nat_lt n item.place ≡ true) (λ item. nat_lt item.place n ≡ false)
      (λ item is. le-ltb item.place n (omega (arith, ltb-true n item.place is))) (after_place n operations)
      (each-passes (λ item. nat_lt n item.place) operations))

  none-after : after_place n (before_place n operations) ≡ []
  none-after =
      filter_none (λ item. nat_lt n item.place) (before_place n operations)
      (each-weaker (λ item. nat_lt item.place n ≡ true) (λ item. nat_lt n item.place ≡ false)
      (λ item is. le-ltb n item.place (omega (arith, ltb-true item.place n is))) (before_place n operations)
      (each-passes (λ item. nat_lt item.place n) operations))

  -- one at a place replaces the one there
  given-again : (height : ℕ) (found : Option PlainOperation) (new : PlainOperation)
      → with_given n height (Some new) (with_given n height found operations) ≡ with_given n height (Some new) operations
  given-again height None new = refl
  given-again height (Some old) new =
      let item : Anchored = record { place = n; height = height; operation = old } in
      let same : nat_lt n n ≡ false = le-ltb n n (omega arith) in
      let early : List Anchored = before_place n operations in
      let late : List Anchored = after_place n operations in
      let front : before_place n (item ∷ late) ≡ [] = rw same none-before in
      let back : after_place n (item ∷ late) ≡ late =
      rw same (filter_all (λ item. nat_lt n item.place) late (each-passes (λ item. nat_lt n item.place) operations)) in
      let first : before_place n (early ++ item ∷ late) ≡ early =
      filter-append (λ item. nat_lt item.place n) early (item ∷ late)
      ∙ (λ i. filter_all (λ item. nat_lt item.place n) early (each-passes (λ item. nat_lt item.place n) operations) i ++ front i) ∙ append-nil early in
      let last : after_place n (early ++ item ∷ late) ≡ late =
      filter-append (λ item. nat_lt n item.place) early (item ∷ late) ∙ (λ i. none-after i ++ back i) in
      λ i. first i ++ record { place = n; height = height; operation = new } ∷ last i

  -- so the first of them stays
  pub given-first : (height : ℕ) (suffix : HashValue) (first : HashValue × PlainOperation) (rest : Givens)
      → with_given n height (given_for suffix (first ∷ [])) (with_given n height (given_for suffix rest) operations)
      ≡ with_given n height (given_for suffix (first ∷ rest)) operations
  given-first height suffix first rest = elim (cases_Bool (same_hash suffix first.0)) [
    | inl is ↦ rw is (given-again height (given_for suffix rest) first.1)
    | inr not ↦ rw not refl
  ]

-- the items before the last one, and those from it on
pub popped : {X : Type 0} (all left front : List X) (last : X) → all ≡ left ++ drop (length left) all → left ≡ front ++ last ∷ []
    → drop (length front) all ≡ last ∷ drop (length left) all
popped all left front last split is =
    ap (drop (length front)) (split ∙ ap (λ xs. xs ++ drop (length left) all) is ∙ append_assoc front (last ∷ []) (drop (length left) all))
    ∙ drop_at front (last ∷ drop (length left) all) (length front) refl

-- ---- names that cover changes

module _ {X Y : Type 0} (P : Y → Type 0) (f : X → Y) where
  -- a property of each of these is one of each of those they are made from
  pub each-of : (xs : List X) → AllByRecursion P (map f xs) → AllByRecursion (λ x. P (f x)) xs
  each-of [] all = tt
  each-of (x ∷ xs) all = (all.0, each-of xs all.1)

  each-map : (xs : List X) → AllByRecursion (λ x. P (f x)) xs → AllByRecursion P (map f xs)
  each-map [] all = tt
  each-map (x ∷ xs) all = (all.0, each-map xs all.1)

each-reverse : {X : Type 0} (P : X → Type 0) (xs : List X) → AllByRecursion P xs → AllByRecursion P (reverse xs)
each-reverse P [] all = tt
each-reverse P (x ∷ xs) all =
    subst (AllByRecursion P) (sym (reverse-append (x ∷ []) xs)) (each-append P (reverse xs) (x ∷ []) (each-reverse P xs all.1) (all.0, tt))

-- changes cover themselves
pub covers-itself : (changes : List (HashValue × ℕ)) → AllByRecursion (Covers hash_cmp changes) changes
covers-itself [] = tt
covers-itself (change ∷ changes) =
    let here : (is_at (hash_cmp change.0) change.0 && leb change.1 change.1) ≡ true = rw (tied change.0, le-leb change.1 change.1 (omega arith)) refl in (
      or_left (is_at (hash_cmp change.0) change.0 && leb change.1 change.1)
          (list_any (λ name. is_at (hash_cmp change.0) name.0 && leb name.1 change.1) changes) here,
      each-weaker (Covers hash_cmp changes) (Covers hash_cmp (change ∷ changes))
          (λ later is. or_right (is_at (hash_cmp later.0) change.0 && leb change.1 later.1)
          (list_any (λ name. is_at (hash_cmp later.0) name.0 && leb name.1 later.1) changes) is)
          changes (covers-itself changes),
    )

-- changes covered by some names are covered by more
pub covers-before : (front back changes : List (HashValue × ℕ)) → AllByRecursion (Covers hash_cmp front) changes
    → AllByRecursion (Covers hash_cmp (front ++ back)) changes
covers-before front back changes covers =
    each-weaker (Covers hash_cmp front) (Covers hash_cmp (front ++ back))
    (λ change is. list_any-append (λ name. is_at (hash_cmp change.0) name.0 && leb name.1 change.1) front back
    ∙ or_left (list_any (λ name. is_at (hash_cmp change.0) name.0 && leb name.1 change.1) front)
    (list_any (λ name. is_at (hash_cmp change.0) name.0 && leb name.1 change.1) back) is)
    changes covers

-- names that cover the changes, and these suffixes at a place, cover the changes after operations for them are put
pub covers-put : (place : ℕ) (names changes : List (HashValue × ℕ)) (suffixes : List HashValue)
    → AllByRecursion (Covers hash_cmp names) changes
    → AllByRecursion (λ suffix. Covers hash_cmp names (suffix, place)) suffixes
    → AllByRecursion (Covers hash_cmp names) (changes ++ reverse (at_place place suffixes))
covers-put place names changes suffixes covers there =
    each-append (Covers hash_cmp names) changes (reverse (at_place place suffixes)) covers
    (each-reverse (Covers hash_cmp names) (at_place place suffixes) (each-map (Covers hash_cmp names) (λ suffix. (suffix, place)) suffixes there))

-- ---- Identifiers, each once, for which entries give operations.
--     losing-has      those that lose an operation if entries are cut
--     names-late      those for which entries that missed a file give one

-- ---- entries that are cut

module _ (suffix : HashValue) (observed : Observed) where
  abbrev given_at : ℕ → Entry → Option Anchored
  given_at number entry = anchored_for suffix observed.schedule observed.files number entry

  -- an operation for the suffix, at the number of its entry, or none
  given_or_not : (number : ℕ) (entry : Entry)
      → (given_at number entry ≡ None)
      ⊎ ((list_any (same_hash suffix) (suffixes_of observed entry) ≡ true) × ((found : PlainOperation) × (given_at number entry ≡ Some (anchored_by number entry found))))
  given_or_not number entry =
      let given = gives_of observed.schedule observed.files entry in
      elim (given_for suffix given) as (λ found. given_for suffix given ≡ found → (option_map (anchored_by number entry) found ≡ None)
      ⊎ ((list_any (same_hash suffix) (suffixes_of observed entry) ≡ true) × ((one : PlainOperation) × (option_map (anchored_by number entry) found ≡ Some (anchored_by number entry one))))) [
        | None ↦ λ is. inl refl
        | Some found ↦ λ is. inr (sym (is_some-lookup (same_hash suffix) given) ∙ ap is_some is, (found, refl))
      ] refl

  abbrev named_in : List Entry → Type 0
  named_in entries = list_any (same_hash suffix) (flat_map (suffixes_of observed) entries) ≡ true

  front : (entry : Entry) (entries : List Entry) → list_any (same_hash suffix) (suffixes_of observed entry) ≡ true → named_in (entry ∷ entries)
  front entry entries named =
      list_any-append (same_hash suffix) (suffixes_of observed entry) (flat_map (suffixes_of observed) entries)
      ∙ or_left (list_any (same_hash suffix) (suffixes_of observed entry)) (list_any (same_hash suffix) (flat_map (suffixes_of observed) entries)) named

  behind : (entry : Entry) (entries : List Entry) → named_in entries → named_in (entry ∷ entries)
  behind entry entries named =
      list_any-append (same_hash suffix) (suffixes_of observed entry) (flat_map (suffixes_of observed) entries)
      ∙ or_right (list_any (same_hash suffix) (suffixes_of observed entry)) (list_any (same_hash suffix) (flat_map (suffixes_of observed) entries)) named

  -- if entries give an operation for a suffix, it is among the suffixes of their operations
  some-named : (test : Anchored → Bool) (number : ℕ) (entries : List Entry) → 1 ≤ length (filter test (given_from given_at number entries)) → named_in entries
  some-named test number [] some = absurd (omega (arith, some))
  some-named test number (entry ∷ entries) some = elim (given_or_not number entry) [
    | inl none ↦ behind entry entries (some-named test (number + 1) entries
        (subst (λ found. 1 ≤ length (filter test (cons_option found (given_from given_at (number + 1) entries)))) none some))
    | inr gives ↦ front entry entries gives.0
  ]

  -- and if the operation is at a number or later, it is among those of the entries from there on
  later-named : (n number : ℕ) (entries : List Entry) → 1 ≤ length (from_place (number + n) (given_from given_at number entries)) → named_in (drop n entries)
  later-named zero number entries some = some-named (λ anchored. leb (number + 0) anchored.place) number entries some
  later-named (suc n) number [] some = absurd (omega (arith, some))
  later-named (suc n) number (entry ∷ entries) some =
      let rest : List Anchored = given_from given_at (number + 1) entries in
      let at : number + suc n ≡ number + 1 + n = omega arith in
      let early : leb (number + suc n) number ≡ false = not_late number n in
      let later : 1 ≤ length (from_place (number + suc n) rest) = elim (given_or_not number entry) [
        | inl none ↦ subst (λ found. 1 ≤ length (from_place (number + suc n) (cons_option found rest))) none some
        | inr gives ↦
            let here : 1 ≤ length (from_place (number + suc n) (anchored_by number entry gives.1.0 ∷ rest)) =
            subst (λ found. 1 ≤ length (from_place (number + suc n) (cons_option found rest))) gives.1.1 some in
            subst (λ (passes : Bool). 1 ≤ length (if passes then anchored_by number entry gives.1.0 ∷ from_place (number + suc n) rest else from_place (number + suc n) rest)) early here
      ] in
      later-named n (number + 1) entries (subst (λ place. 1 ≤ length (from_place place rest)) at later)
    where
      not_late : (number n : ℕ) → leb (number + suc n) number ≡ false
      not_late number n = elim (cases_Bool (leb (number + suc n) number)) [
        | inl is ↦ absurd (omega (arith, leb-true (number + suc n) number is))
        | inr not ↦ not
      ]

-- hashes that tie in the order are the same
tied-same : (first second : HashValue) → hash_cmp first second ≡ Equal → first ≡ second
tied-same first second equal = same_hash-is first second (same_hash-ties first second ∙ ap is_eq equal)

-- each identifier that loses an operation is in the computed list
pub losing-has : (n : ℕ) (observed : Observed) (suffix : HashValue) → 1 ≤ length (from_place n (operations suffix observed))
    → list_any (same_hash suffix) (losing n observed) ≡ true
unfolding operations
losing-has n observed suffix some =
    once-has same_hash-is same_hash-itself hash_cmp-total (flat_map (suffixes_of observed) (drop n observed.ledger))
    (λ first second one two equal. tied-same first second equal) suffix
    (later-named suffix observed n 0 observed.ledger (subst (λ place. 1 ≤ length (from_place place (operations suffix observed))) (let at : n ≡ 0 + n = omega arith in at) some))

-- ---- entries that missed a file

-- if an item passes a test and a filter keeps it, some item passes after the filter
any-filter : {X : Type 0} (test keep : X → Bool) (xs : List X) → ((x : X) → test x ≡ true → keep x ≡ true) → list_any test xs ≡ true
    → list_any test (filter keep xs) ≡ true
any-filter test keep xs keeps any = any-filter_same test keep true keeps xs ∙ any

module _ (place : ℕ) where
  -- suffixes at one place name each of them there and later
  pub covers-here : (suffix : HashValue) (later : ℕ) (suffixes : List HashValue) → place ≤ later → list_any (same_hash suffix) suffixes ≡ true
      → Covers hash_cmp (at_place place suffixes) (suffix, later)
  covers-here suffix later [] le any = absurd (true≢false (sym any))
  covers-here suffix later (other ∷ suffixes) le any =
      let test : HashValue × ℕ → Bool = λ name. is_at (hash_cmp suffix) name.0 && leb name.1 later in
      ⊎_elim
      (λ same.
      let at : is_at (hash_cmp suffix) other ≡ true = sym (same_hash-ties suffix other) ∙ same in
      or_left (test (other, place)) (list_any test (map (λ s. (s, place)) suffixes)) (rw (at, le-leb place later le) refl))
      (λ rest. or_right (test (other, place)) (list_any test (map (λ s. (s, place)) suffixes)) (covers-here suffix later suffixes le rest))
      (or_cases (same_hash suffix other) (list_any (same_hash suffix) suffixes) any)

-- A name of a suffix still is one after other suffixes are added before it, at an earlier place.
named_on : (place later : ℕ) (suffixes : List HashValue) (names : List (HashValue × ℕ)) (suffix : HashValue) → place ≤ later → Covers hash_cmp names (suffix, later)
    → Covers hash_cmp (map (λ other. (other, place)) suffixes ++ filter (λ name. not (list_any (same_hash name.0) suffixes)) names) (suffix, later)
named_on place later suffixes names suffix le named =
    let test : HashValue × ℕ → Bool = λ name. is_at (hash_cmp suffix) name.0 && leb name.1 later in
    let keep : HashValue × ℕ → Bool = λ name. not (list_any (same_hash name.0) suffixes) in
    let front : List (HashValue × ℕ) = map (λ other. (other, place)) suffixes in
    list_any-append test front (filter keep names)
    ∙ elim (cases_Bool (list_any (same_hash suffix) suffixes)) [
      | inl here ↦ or_left (list_any test front) (list_any test (filter keep names)) (covers-here place suffix later suffixes le here)
      | inr apart ↦ or_right (list_any test front) (list_any test (filter keep names)) (any-filter test keep names
          (λ name is.
          let same : suffix ≡ name.0 = same_hash-is suffix name.0 (same_hash-ties suffix name.0 ∙ (and_parts (is_at (hash_cmp suffix) name.0) (leb name.1 later) is).0) in
          ap not (subst (λ other. list_any (same_hash other) suffixes ≡ false) same apart))
          named)
    ]

module _ (file : List ℕ) (observed : Observed) where
  first-late : (place : ℕ) (entry : Entry) (entries : List Entry) → is_missed_by file observed entry ≡ true
      → AllByRecursion (λ suffix. Covers hash_cmp (late_from place file observed (entry ∷ entries)) (suffix, place)) (suffixes_of (arrived file observed) entry)
  first-late place entry entries missed =
      let suffixes : List HashValue = suffixes_of (arrived file observed) entry in
      let here : suffixes ≡ late_in file observed entry = rw missed refl in
      let rest : List (HashValue × ℕ) = late_from (place + 1) file observed entries in
      let back : List (HashValue × ℕ) = filter (λ later. not (list_any (same_hash later.0) suffixes)) rest in
      subst (λ (some : List HashValue). AllByRecursion (λ suffix. Covers hash_cmp (at_place place some ++ filter (λ later. not (list_any (same_hash later.0) some)) rest)
      (suffix, place)) suffixes)
      here (each-of (Covers hash_cmp (at_place place suffixes ++ back)) (λ suffix. (suffix, place)) suffixes
      (covers-before (at_place place suffixes) back (at_place place suffixes) (covers-itself (at_place place suffixes))))

  each-late : (place n : ℕ) (entries : List Entry) (entry : Entry) → Some entry ≡ slice_get entries n → is_missed_by file observed entry ≡ true
      → AllByRecursion (λ suffix. Covers hash_cmp (late_from place file observed entries) (suffix, place + n)) (suffixes_of (arrived file observed) entry)
  each-late place n [] entry found missed = absurd (none-there n entry found)
    where
      none-there : (n : ℕ) (entry : Entry) → Some entry ≡ slice_get [] n → ⊥
      none-there zero entry found = cc
      none-there (suc n) entry found = cc
  each-late place zero (first ∷ entries) entry found missed =
      let same : entry ≡ first = ap (λ found. unwrap_or found entry) found in
      let at : place + 0 ≡ place = omega arith in
      rw at (subst (λ other. AllByRecursion (λ suffix. Covers hash_cmp (late_from place file observed (other ∷ entries)) (suffix, place)) (suffixes_of (arrived file observed) entry)) same
      (first-late place entry entries missed))
  each-late place (suc n) (first ∷ entries) entry found missed =
      let at : place + suc n ≡ place + 1 + n = omega arith in
      rw at
      (each-weaker (λ suffix. Covers hash_cmp (late_from (place + 1) file observed entries) (suffix, place + 1 + n))
      (λ suffix. Covers hash_cmp (late_from place file observed (first ∷ entries)) (suffix, place + 1 + n))
      (λ suffix named. named_on place (place + 1 + n) (late_in file observed first) (late_from (place + 1) file observed entries) suffix (omega arith) named)
      (suffixes_of (arrived file observed) entry) (each-late (place + 1) n entries entry found missed))

  -- each suffix of an entry that missed the file is in the computed list, at the entry's place or before
  pub names-late : (n : ℕ) (entry : Entry) → Some entry ≡ slice_get observed.ledger n → is_missed_by file observed entry ≡ true
      → AllByRecursion (λ suffix. Covers hash_cmp (late file observed) (suffix, n)) (suffixes_of (arrived file observed) entry)
  names-late n entry found missed =
      subst (λ place. AllByRecursion (λ suffix. Covers hash_cmp (late file observed) (suffix, place)) (suffixes_of (arrived file observed) entry)) (let at : 0 + n ≡ n = omega arith in at)
      (each-late 0 n observed.ledger entry found missed)
