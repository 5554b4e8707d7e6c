-- Items that were read, and those still to be read.
use Rattle.std.proofs.Common.{List, ◌++◌, Option, option_map, ◌≡◌, ◌∙◌, ℕ, ◌+◌, ◌<◌, ◌∷◌, length, drop, get_or, ap, sym, zero, suc, Bool, true, false, ◌||◌, [], take, filter, refl, ◌≤◌, cond, arith, inl, inr, not, Some, None}
use Rattle.std.proofs.lemmas.Bool.{cond_both, or_parts, or_left, or_right, false≢true, or_cases}
use Rattle.std.proofs.lemmas.List.{drop_more}
use Rattle.std.proofs.lemmas.List.Elements.{recursion_from_All, All-from_all_within}
use Rattle.std.proofs.lemmas.List.Folds.{list_any-append}
use Rattle.std.proofs.lemmas.List.Sums.{sum_by-cons}
use Rattle.std.specs.List.{AllByRecursion, list_any, AllWithin, count_by}
use Rattle.st_base.specs.Lists.{each_of}
use Rattle.st_base.specs.Rules.{Table, first_failing}
use Rattle.st_base.specs.Work.{WorkValue, AppliesAtMost}

-- the results so far, followed by those of the other items, if each is read
abbrev pub after : {Item Read : Type 0} → (Item → Option Read) → List Read → List Item → Option (List Read)
after read done others = option_map (λ more. done ++ more) (each_of read others)

-- ---- Lists that a loop goes over.

-- the rest of a list from a place on starts with the item there
pub next_item : {X : Type 0} (items : List X) (at : ℕ) (item : X) → at < length items → item ≡ get_or items at item
    → drop at items ≡ item ∷ drop (at + 1) items
next_item items at item inside is =
    drop_more items at item inside ∙ ap (λ first. first ∷ drop (at + 1) items) (sym is)

-- ---- Properties of each item of a list, or of some, by recursion.

-- ---- each item

module _ {X : Type 0} where
  -- a property implied for each item is implied for all
  pub each-weaker : (P Q : X → Type 0) → ((x : X) → P x → Q x) → (xs : List X) → AllByRecursion P xs → AllByRecursion Q xs
  each-weaker P Q step [] all = tt
  each-weaker P Q step (x ∷ xs) all = (step x all.0, each-weaker P Q step xs all.1)

  -- the same from two facts
  pub each-both : (P Q R : X → Type 0) → ((x : X) → P x → Q x → R x) → (xs : List X) → AllByRecursion P xs → AllByRecursion Q xs → AllByRecursion R xs
  each-both P Q R step [] one two = tt
  each-both P Q R step (x ∷ xs) one two = (step x one.0 two.0, each-both P Q R step xs one.1 two.1)

  -- a property of each item is one of each that passes a test
  pub each-filter : (P : X → Type 0) (test : X → Bool) (xs : List X) → AllByRecursion P xs → AllByRecursion P (filter test xs)
  each-filter P test [] all = tt
  each-filter P test (x ∷ xs) all =
      let rest = each-filter P test xs all.1 in
      cond_both (test x) (x ∷ filter test xs) (filter test xs) (AllByRecursion P) (λ _. (all.0, rest)) (λ _. rest)

  -- and of each of two lists, of each of both
  pub each-append : (P : X → Type 0) (xs ys : List X) → AllByRecursion P xs → AllByRecursion P ys → AllByRecursion P (xs ++ ys)
  each-append P [] ys front back = back
  each-append P (x ∷ xs) ys front back = (front.0, each-append P xs ys front.1 back)

  -- and of each of the first
  pub each-take : (P : X → Type 0) (n : ℕ) (xs : List X) → AllByRecursion P xs → AllByRecursion P (take n xs)
  each-take P zero xs all = tt
  each-take P (suc n) [] all = tt
  each-take P (suc n) (x ∷ xs) all = (all.0, each-take P n xs all.1)

  -- each item that a filter keeps passes its test
  pub each-passes : (test : X → Bool) (xs : List X) → AllByRecursion (λ x. test x ≡ true) (filter test xs)
  each-passes test [] = tt
  each-passes test (x ∷ xs) =
      let rest = each-passes test xs in
      cond_both (test x) (x ∷ filter test xs) (filter test xs) (AllByRecursion (λ x. test x ≡ true)) (λ is. (is, rest)) (λ _. rest)

  -- if each item passes, a filter keeps all
  pub filter_all : (test : X → Bool) (xs : List X) → AllByRecursion (λ x. test x ≡ true) xs → filter test xs ≡ xs
  filter_all test [] all = refl
  filter_all test (x ∷ xs) all = rw (all.0, filter_all test xs all.1) refl

  -- and if none does, it keeps none
  pub filter_none : (test : X → Bool) (xs : List X) → AllByRecursion (λ x. test x ≡ false) xs → filter test xs ≡ []
  filter_none test [] all = refl
  filter_none test (x ∷ xs) all = rw all.0 (filter_none test xs all.1)

-- ---- some item

module _ {X : Type 0} (test : X → Bool) where
  -- if no item passes, `list_any` is false
  pub any_none : (xs : List X) → AllByRecursion (λ x. test x ≡ false) xs → list_any test xs ≡ false
  any_none [] none = refl
  any_none (x ∷ xs) none = rw none.0 (any_none xs none.1)

  -- if `list_any` is false, a filter keeps none
  pub filter_not_any : (xs : List X) → list_any test xs ≡ false → filter test xs ≡ []
  filter_not_any [] none = refl
  filter_not_any (x ∷ xs) none =
      let parts = or_parts (test x) (list_any test xs) none in
      rw parts.0 (filter_not_any xs parts.1)

  -- after one more is appended, some item passes if one before did or this one does
  pub any_push : (xs : List X) (x : X) → list_any test (xs ++ x ∷ []) ≡ (list_any test xs || test x)
  any_push xs x = list_any-append test xs (x ∷ []) ∙ or_false (test x)
    where
      or_false : (b : Bool) → (list_any test xs || (b || false)) ≡ (list_any test xs || b)
      or_false true = refl
      or_false false = refl

  -- if an item passed, one does after one more is appended
  pub any_before : (xs : List X) (x : X) → list_any test xs ≡ true → list_any test (xs ++ x ∷ []) ≡ true
  any_before xs x any = any_push xs x ∙ or_left (list_any test xs) (test x) any

  -- and the appended one may pass
  pub any_last : (xs : List X) (x : X) → test x ≡ true → list_any test (xs ++ x ∷ []) ≡ true
  any_last xs x is = any_push xs x ∙ or_right (list_any test xs) (test x) is

-- ---- How many items pass a test, and how much work was counted.

one_le : (a b : Bool) → (b ≡ true → a ≡ true) → cond b 1 0 ≤ cond a 1 0
one_le true true along = omega arith
one_le true false along = omega arith
one_le false true along = absurd (false≢true (along refl))
one_le false false along = omega arith

is_one : (b : Bool) → b ≡ true → 1 ≤ cond b 1 0
is_one true is = omega arith
is_one false is = absurd (false≢true is)

is_zero : (b : Bool) → b ≡ false → cond b 1 0 ≤ 0
is_zero true is = absurd (false≢true (sym is))
is_zero false is = omega arith

module _ {X : Type 0} (p q : X → Bool) (along : (x : X) → q x ≡ true → p x ≡ true) where
  -- if every x that passes q passes p, at most as many pass q
  pub count_by-le : (xs : List X) → count_by q xs ≤ count_by p xs
  count_by-le [] = omega arith
  count_by-le (x ∷ xs) =
      omega (arith, sum_by-cons (λ x. cond (q x) 1 0) x xs, sum_by-cons (λ x. cond (p x) 1 0) x xs, one_le (p x) (q x) (along x), count_by-le xs)

  -- and fewer, if some item passes p and not q
  pub count_by-lt : (some : X → Bool) → ((x : X) → some x ≡ true → (p x ≡ true) × (q x ≡ false)) → (xs : List X) → list_any some xs ≡ true
      → count_by q xs + 1 ≤ count_by p xs
  count_by-lt some apart [] any = absurd (false≢true any)
  count_by-lt some apart (x ∷ xs) any = elim (or_cases (some x) (list_any some xs) any) [
    | inl here ↦ omega (arith, sum_by-cons (λ x. cond (q x) 1 0) x xs, sum_by-cons (λ x. cond (p x) 1 0) x xs, is_one (p x) (apart x here).0, is_zero (q x) (apart x here).1, count_by-le xs)
    | inr later ↦ omega (arith, sum_by-cons (λ x. cond (q x) 1 0) x xs, sum_by-cons (λ x. cond (p x) 1 0) x xs, one_le (p x) (q x) (along x), count_by-lt some apart xs later)
  ]

-- if all before a place pass a test and none from it on, the place is how many pass
pub count_passing : {X : Type 0} (test : X → Bool) (xs : List X) (at : ℕ) → at ≤ length xs
    → AllWithin (λ x. test x ≡ true) xs 0 at → AllWithin (λ x. test x ≡ false) xs at (length xs) → at ≡ length (filter test xs)
count_passing test [] at within front back = omega arith
count_passing test (x ∷ xs) zero within front back =
    let none : filter test (x ∷ xs) ≡ [] = filter_none test (x ∷ xs) (recursion_from_All (λ x. test x ≡ false) (x ∷ xs) (All-from_all_within (λ x. test x ≡ false) (x ∷ xs) back)) in
    rw none refl
count_passing test (x ∷ xs) (suc at) within front back =
    let here : test x ≡ true = front 0 x (omega arith) (omega arith) in
    let rest = count_passing test xs at (omega arith) (λ k d low high. front (suc k) d (omega arith) (omega arith)) (λ k d low high. back (suc k) d (omega arith) (omega arith)) in
    rw here (ap suc rest)

-- a bound of few operations is a bound of many
pub applies-few : (few many : ℕ) {old new : WorkValue} → few ≤ many → AppliesAtMost few old new → AppliesAtMost many old new
applies-few few many le bound = record { files = bound.files; proofs = bound.proofs; least = bound.least; applies = omega (arith, bound.applies) }

-- ---- Tables without a failing rule.

none_here : {Rule : Type 0} (fails : Bool) (rule : Rule) (later : Option Rule) → cond fails (Some rule) later ≡ None
    → (fails ≡ false) × (later ≡ None)
none_here true rule later e = cc
none_here false rule later e = (refl, e)

-- if no rule fails, each test passes; that of the n-th row is `.1` n times and then `.0`
pub none_fails : {Rule : Type 0} (rules : Table Rule) → first_failing rules ≡ None → AllByRecursion (λ row. row.1 ≡ false) rules
none_fails [] e = tt
none_fails (row ∷ rows) e = let parts = none_here row.1 row.0 (first_failing rows) e in (parts.0, none_fails rows parts.1)

-- a test whose negation doesn't fail passes
pub passes : (test : Bool) → not test ≡ false → test ≡ true
passes true e = refl
passes false e = cc
