-- Pairs in the order of their names: there is one such list, so a stable sort yields it.
use Rattle.std.proofs.Common.{◌≡◌, ℕ, suc, ◌+◌, ◌<◌, Bool, true, false, not, cond, List, [], ◌∷◌, length, get_or, Ordering, Less, Equal, Greater, is_eq, refl, sym, ap, ◌∙◌, subst, arith, map, Some, None, ap₂, ◌⊎◌, inl, inr}
use Rattle.std.proofs.lemmas.Cmp.{tied_itself}
use Rattle.std.proofs.lemmas.List.MinMax.{ranks_by}
use Rattle.std.proofs.lemmas.List.Sorted.{sorted_far}
use Rattle.std.specs.Cmp.{IsStrictWeakOrder}
use Rattle.std.specs.List.{filter, AllByRecursion}
use Rattle.std.specs.List.Sorted.{IsStrictlySortedBy, IsSortedBy, IsStableBy, ties}
use Rattle.std.specs.Map.{keys_of}
use Rattle.std.specs.Ordering.{is_lt, match_ordering, ordering_reverse}
use Rattle.std.specs.Prelude.{◌&&◌}
use Rattle.st_plain.proofs.NameLemmas.{by_order, name_total, less_from_greater, greater_from_less}
use Rattle.st_plain.specs.Names.{name_cmp}
use Rattle.st_plain.specs.inside.Objects.{placed, in_order, NamesDiffer, firsts, NamesAscend}

pub equal_from_is_eq : (o : Ordering) → is_eq o ≡ true → o ≡ Equal
equal_from_is_eq Less h = cc
equal_from_is_eq Equal h = refl
equal_from_is_eq Greater h = cc

tied_tests : (o : Ordering) → (not (is_lt o) && not (is_lt (ordering_reverse o))) ≡ is_eq o
tied_tests Less = refl
tied_tests Equal = refl
tied_tests Greater = refl

-- ---- names above another
pub all_above : (x y : List ℕ) → name_cmp x y ≡ Less → (ks : List (List ℕ)) → AllByRecursion (λ k. name_cmp y k ≡ Less) ks
    → AllByRecursion (λ k. name_cmp x k ≡ Less) ks
all_above x y lt [] all = tt
all_above x y lt (k ∷ ks) all = (name_total.trans x y k lt all.0, all_above x y lt ks all.1)

pub all_above_tied : (x y : List ℕ) → name_cmp x y ≡ Equal → (ks : List (List ℕ))
    → AllByRecursion (λ k. name_cmp y k ≡ Less) ks → AllByRecursion (λ k. name_cmp x k ≡ Less) ks
all_above_tied x y tied [] all = tt
all_above_tied x y tied (k ∷ ks) all = (name_total.congr x y k tied ∙ all.0, all_above_tied x y tied ks all.1)

-- ---- the result of a sort
module _ {A : Type 0} (lt : A → A → Bool) where
  abbrev pub NoneBelow : A → List A → Type 0
  NoneBelow y = AllByRecursion (λ z. lt z y ≡ false)

  -- nothing is below an element before it
  abbrev pub NeverFall : List A → Type 0
  NeverFall [] = Unit {0}
  NeverFall (y ∷ ys) = NoneBelow y ys × NeverFall ys

  none_below_from_places : (y : A) (ys : List A) → ((j : ℕ) (d : A) → j < length ys → lt (get_or ys j d) y ≡ false) → NoneBelow y ys
  none_below_from_places y [] at = tt
  none_below_from_places y (z ∷ zs) at =
      (at 0 z (omega arith), none_below_from_places y zs (λ j d less. at (suc j) d (omega arith)))

  rest_sorted : (y : A) (ys : List A) → IsSortedBy lt (y ∷ ys) → IsSortedBy lt ys
  rest_sorted y ys sorted = λ k d low less.
      let next : suc k + 1 ≡ suc (k + 1) = omega arith in rw next at (sorted (suc k) d (omega arith) (omega arith))

  pub never_fall : IsStrictWeakOrder lt → (ys : List A) → IsSortedBy lt ys → NeverFall ys
  never_fall order [] sorted = tt
  never_fall order (y ∷ ys) sorted = (
    none_below_from_places y ys (λ j d below. sorted_far lt order (y ∷ ys) sorted 0 (suc j) d (omega arith) (omega arith)),
    never_fall order ys (rest_sorted y ys sorted),
  )

-- ---- things with names
module _ {A : Type 0} (name : A → List ℕ) where
  -- its name is below the other's
  abbrev pub below : A → A → Bool
  below x y = is_lt (name_cmp (name x) (name y))

  -- its name ties with this one
  abbrev pub tied_with : List ℕ → A → Bool
  tied_with k x = is_eq (name_cmp k (name x))

  pub ties_are : (x y : A) → ties below x y ≡ tied_with (name x) y
  ties_are x y =
      ap (λ o. not (is_lt (name_cmp (name x) (name y))) && not (is_lt o)) (name_total.antisymm (name y) (name x))
      ∙ tied_tests (name_cmp (name x) (name y))

module _ {X : Type 0} where
  abbrev pub name_of : List ℕ × X → List ℕ
  name_of pair = pair.0

  -- the pair's name is below the other's
  abbrev pub named_below : List ℕ × X → List ℕ × X → Bool
  named_below p q = is_lt (name_cmp p.0 q.0)

  -- ---- placing a pair
  pub all_placed : (P : List ℕ → Type 0) (e : List ℕ × X) (es : List (List ℕ × X)) → P e.0 → AllByRecursion P (keys_of es)
      → AllByRecursion P (keys_of (placed e es))
  all_placed P e [] p all = (p, tt)
  all_placed P e (f ∷ fs) p all =
      by_order (λ o. AllByRecursion P (keys_of (match_ordering o (e ∷ f ∷ fs) (e ∷ fs) (f ∷ placed e fs)))) (name_cmp e.0 f.0)
      (λ is. (p, all)) (λ is. (p, all.1)) (λ is. (all.0, all_placed P e fs p all.1))

  pub ascend_placed : (e : List ℕ × X) (es : List (List ℕ × X)) → NamesAscend es → NamesAscend (placed e es)
  unfolding IsStrictlySortedBy
  ascend_placed e [] ascend = (tt, tt)
  ascend_placed e (f ∷ fs) ascend =
      let above = all_above e.0 f.0 in
      let tied = all_above_tied e.0 f.0 in
      by_order (λ o. NamesAscend (match_ordering o (e ∷ f ∷ fs) (e ∷ fs) (f ∷ placed e fs))) (name_cmp e.0 f.0)
      (λ is. ((is, above is (keys_of fs) ascend.0), ascend))
      (λ is. (tied is (keys_of fs) ascend.0, ascend.1))
      (λ is. (all_placed (λ n. name_cmp f.0 n ≡ Less) e fs (less_from_greater e.0 f.0 is) ascend.0, ascend_placed e fs ascend.1))

  pub ascend_from_placed : (e : List ℕ × X) (es fs : List (List ℕ × X)) → fs ≡ placed e es → NamesAscend es
      → NamesAscend fs
  ascend_from_placed e es fs is ascend = subst NamesAscend (sym is) (ascend_placed e es ascend)

  pub ascend_in_order : (es : List (List ℕ × X)) → NamesAscend (in_order es)
  unfolding IsStrictlySortedBy
  ascend_in_order [] = tt
  ascend_in_order (e ∷ es) = ascend_placed e (in_order es) (ascend_in_order es)

  all_in_order : (P : List ℕ → Type 0) (es : List (List ℕ × X)) → AllByRecursion P (keys_of es)
      → AllByRecursion P (keys_of (in_order es))
  all_in_order P [] all = tt
  all_in_order P (e ∷ es) all = all_placed P e (in_order es) all.0 (all_in_order P es all.1)

  -- ---- the pairs whose names tie with one
  abbrev pub tie : List ℕ × X → List ℕ × X → Bool
  tie x y = is_eq (name_cmp x.0 y.0)

  pub no_two : (x e f : List ℕ × X) → name_cmp e.0 f.0 ≡ Greater → tie x e ≡ true → tie x f ≡ true → ⊥
  no_two x e f gt a b =
      let first = name_total.congr x.0 e.0 f.0 (equal_from_is_eq (name_cmp x.0 e.0) a) in
      let second = equal_from_is_eq (name_cmp x.0 f.0) b in
      cc

  passed : (s t : Bool) (e f : List ℕ × X) (xs ys : List (List ℕ × X)) → (s ≡ true → t ≡ true → ⊥)
      → ys ≡ cond t (e ∷ xs) xs → cond s (f ∷ ys) ys ≡ cond t (e ∷ cond s (f ∷ xs) xs) (cond s (f ∷ xs) xs)
  passed true true e f xs ys apart is = absurd (apart refl refl)
  passed true false e f xs ys apart is = ap (λ l. f ∷ l) is
  passed false true e f xs ys apart is = is
  passed false false e f xs ys apart is = is

  filter_placed : (x e : List ℕ × X) (es : List (List ℕ × X))
      → AllByRecursion (λ n. name_cmp e.0 n ≡ Equal → ⊥) (keys_of es)
      → filter (tie x) (placed e es) ≡ filter (tie x) (e ∷ es)
  filter_placed x e [] differ = refl
  filter_placed x e (f ∷ fs) differ =
      let old = filter (tie x) fs in
      let new = filter (tie x) (placed e fs) in
      by_order (λ o. filter (tie x) (match_ordering o (e ∷ f ∷ fs) (e ∷ fs) (f ∷ placed e fs)) ≡ filter (tie x) (e ∷ f ∷ fs)) (name_cmp e.0 f.0)
      (λ is. refl)
      (λ is. absurd (differ.0 is))
      (λ is. passed (tie x f) (tie x e) e f old new (λ a b. no_two x e f is b a) (filter_placed x e fs differ.1))

  filter_in_order : (x : List ℕ × X) (es : List (List ℕ × X)) → NamesDiffer es
      → filter (tie x) (in_order es) ≡ filter (tie x) es
  filter_in_order x [] differ = refl
  filter_in_order x (e ∷ es) differ =
      filter_placed x e (in_order es) (all_in_order (λ n. name_cmp e.0 n ≡ Equal → ⊥) es differ.0)
      ∙ ap (λ l. cond (tie x e) (e ∷ l) l) (filter_in_order x es differ.1)

  -- ---- only one ascending list has given ties
  first_ties : (y : List ℕ × X) (ys : List (List ℕ × X)) → filter (tie y) (y ∷ ys) ≡ y ∷ filter (tie y) ys
  first_ties y ys = rw (tied_itself name_total y.0) refl

  pub none_tie_above : (y : List ℕ × X) (zs : List (List ℕ × X))
      → AllByRecursion (λ n. name_cmp y.0 n ≡ Less) (keys_of zs) → filter (tie y) zs ≡ []
  none_tie_above y [] all = refl
  none_tie_above y (z ∷ zs) all = rw all.0 (none_tie_above y zs all.1)

  not_tied : (y z w : List ℕ × X) → name_cmp z.0 y.0 ≡ Less → named_below w y ≡ false → (o : Ordering)
      → name_cmp z.0 w.0 ≡ o → is_eq o ≡ false
  not_tied y z w lt up Less is = refl
  not_tied y z w lt up Equal is = let same = name_total.congr z.0 w.0 y.0 is in let below : named_below w y ≡ true = ap is_lt (sym same ∙ lt) in cc
  not_tied y z w lt up Greater is = refl

  none_tie_below : (y z : List ℕ × X) (ws : List (List ℕ × X)) → name_cmp z.0 y.0 ≡ Less → NoneBelow named_below y ws
      → filter (tie z) ws ≡ []
  none_tie_below y z [] lt up = refl
  none_tie_below y z (w ∷ ws) lt up =
      rw (not_tied y z w lt up.0 (name_cmp z.0 w.0) refl) (none_tie_below y z ws lt up.1)

  same_rest : (t : Bool) (y : List ℕ × X) (ys zs : List (List ℕ × X)) → cond t (y ∷ ys) ys ≡ cond t (y ∷ zs) zs
      → ys ≡ zs
  same_rest true y ys zs e = cc
  same_rest false y ys zs e = e

  pub one_list : (ys zs : List (List ℕ × X)) → NeverFall named_below ys → NamesAscend zs
      → ((x : List ℕ × X) → filter (tie x) ys ≡ filter (tie x) zs) → ys ≡ zs
  unfolding IsStrictlySortedBy
  one_list [] [] up ascend same = refl
  one_list [] (z ∷ zs) up ascend same = let e = same z in let f = first_ties z zs in cc
  one_list (y ∷ ys) [] up ascend same = let e = same y in let f = first_ties y ys in cc
  one_list (y ∷ ys) (z ∷ zs) up ascend same = elim (name_cmp y.0 z.0) as (λ o. name_cmp y.0 z.0 ≡ o → y ∷ ys ≡ z ∷ zs) [
    | Less ↦ λ is.
        let e = same y in
        let f = first_ties y ys in
        let none = none_tie_above y (z ∷ zs) (is, all_above y.0 z.0 is (keys_of zs) ascend.0) in
        cc
    | Equal ↦ λ is.
        let tied : filter (tie y) (z ∷ zs) ≡ z ∷ filter (tie y) zs = rw is refl in
        let e = same y in
        let f = first_ties y ys in
        let head : y ≡ z = cc in
        let rest = one_list ys zs up.1 ascend.1 (λ x. same_rest (tie x y) y (filter (tie x) ys) (filter (tie x) zs)
        (same x ∙ ap (λ w. cond (tie x w) (w ∷ filter (tie x) zs) (filter (tie x) zs)) (sym head))) in
        cc
    | Greater ↦ λ is.
        let below = less_from_greater y.0 z.0 is in
        let e = same z in
        let f = first_ties z zs in
        let none : filter (tie z) (y ∷ ys) ≡ [] = rw below (none_tie_below y z ys below up.0) in
        cc
  ] refl

  -- ---- the result of a stable sort
  pub in_order_from_sort : (es ys : List (List ℕ × X)) → NamesDiffer es → IsSortedBy named_below ys
      → IsStableBy named_below es ys → ys ≡ in_order es
  in_order_from_sort es ys differ sorted stable =
      one_list ys (in_order es) (never_fall named_below (ranks_by name_total name_of) ys sorted) (ascend_in_order es)
      (λ x. sym (λ i. filter (λ y. ties_are name_of x y i) ys) ∙ stable x ∙ (λ i. filter (λ y. ties_are name_of x y i) es) ∙ sym (filter_in_order x es differ))

-- ---- Pairs in the order of their names, only the first of several with one name: a stable sort yields them.

module _ {X : Type 0} where
  -- ---- the first of each name, along a list whose names never fall

  firsts_tied : (k l : List ℕ) → name_cmp k l ≡ Equal → (es : List (List ℕ × X)) → firsts (Some k) es ≡ firsts (Some l) es
  firsts_tied k l tied [] = refl
  firsts_tied k l tied (e ∷ es) =
      λ i. cond (is_eq (name_total.congr k l e.0 tied i)) (firsts_tied k l tied es i) (e ∷ firsts (Some e.0) es)

  first_placed : (e : List ℕ × X) (es : List (List ℕ × X)) → NoneBelow named_below e es → NeverFall named_below es
      → placed e (in_order es) ≡ e ∷ firsts (Some e.0) es
  first_placed e [] none up = refl
  first_placed e (f ∷ fs) none up =
      let rest = firsts (Some f.0) fs in
      ap (placed e) (first_placed f fs up.0 up.1)
      ∙ by_order (λ o. match_ordering o (e ∷ f ∷ rest) (e ∷ rest) (f ∷ placed e rest) ≡ e ∷ firsts (Some e.0) (f ∷ fs)) (name_cmp e.0 f.0)
      (λ is. rw is refl)
      (λ is. rw is (ap (λ l. e ∷ l) (sym (firsts_tied e.0 f.0 is fs))))
      (λ is. let low = ap is_lt (less_from_greater e.0 f.0 is) in let up = none.0 in cc)

  firsts_are : (es : List (List ℕ × X)) → NeverFall named_below es → firsts None es ≡ in_order es
  firsts_are [] up = refl
  firsts_are (e ∷ es) up = sym (first_placed e es up.0 up.1)

  -- ---- of pairs that tie only the first is written

  abbrev alone : List (List ℕ × X) → List (List ℕ × X)
  alone [] = []
  alone (e ∷ es) = e ∷ []

  no_other : (x e : List ℕ × X) (es : List (List ℕ × X)) → AllByRecursion (λ n. name_cmp e.0 n ≡ Less) (keys_of es) → tie x e ≡ true
      → filter (tie x) es ≡ []
  no_other x e es above tied =
      none_tie_above x es (all_above_tied x.0 e.0 (equal_from_is_eq (name_cmp x.0 e.0) tied) (keys_of es) above)

  same_tie : (x e f : List ℕ × X) → name_cmp e.0 f.0 ≡ Equal → tie x f ≡ tie x e
  same_tie x e f is =
      ap is_eq (name_total.antisymm x.0 f.0 ∙ ap ordering_reverse (sym (name_total.congr e.0 f.0 x.0 is)) ∙ sym (name_total.antisymm x.0 e.0))

  in_front : (t : Bool) (e : List ℕ × X) (es : List (List ℕ × X)) → (t ≡ true → es ≡ []) → cond t (e ∷ es) es ≡ cond t (e ∷ []) es
  in_front true e es none = ap (λ l. e ∷ l) (none refl)
  in_front false e es none = refl

  instead : (s t : Bool) (e f : List ℕ × X) (es : List (List ℕ × X)) → s ≡ t → (t ≡ true → es ≡ [])
      → cond t (e ∷ es) es ≡ cond t (e ∷ []) (cond s (f ∷ es) es)
  instead true true e f es same none = ap (λ l. e ∷ l) (none refl)
  instead true false e f es same none = cc
  instead false true e f es same none = cc
  instead false false e f es same none = refl

  behind : (s t : Bool) (e f : List ℕ × X) (old new : List (List ℕ × X)) → (s ≡ true → t ≡ true → ⊥) → new ≡ cond t (e ∷ []) old
      → cond s (f ∷ new) new ≡ cond t (e ∷ []) (cond s (f ∷ old) old)
  behind true true e f old new apart is = absurd (apart refl refl)
  behind true false e f old new apart is = ap (λ l. f ∷ l) is
  behind false true e f old new apart is = is
  behind false false e f old new apart is = is

  ties_placed : (x e : List ℕ × X) (es : List (List ℕ × X)) → NamesAscend es
      → filter (tie x) (placed e es) ≡ cond (tie x e) (e ∷ []) (filter (tie x) es)
  unfolding IsStrictlySortedBy
  ties_placed x e [] ascend = refl
  ties_placed x e (f ∷ fs) ascend =
      let old = filter (tie x) fs in
      by_order (λ o. filter (tie x) (match_ordering o (e ∷ f ∷ fs) (e ∷ fs) (f ∷ placed e fs)) ≡ cond (tie x e) (e ∷ []) (filter (tie x) (f ∷ fs))) (name_cmp e.0 f.0)
      (λ is.
      let above = all_above e.0 f.0 is (keys_of fs) ascend.0 in
      in_front (tie x e) e (filter (tie x) (f ∷ fs)) (no_other x e (f ∷ fs) (is, above)))
      (λ is.
      let above = all_above_tied e.0 f.0 is (keys_of fs) ascend.0 in
      instead (tie x f) (tie x e) e f old (same_tie x e f is) (no_other x e fs above))
      (λ is. behind (tie x f) (tie x e) e f old (filter (tie x) (placed e fs)) (λ a b. no_two x e f is b a) (ties_placed x e fs ascend.1))

  taken : (t : Bool) (e : List ℕ × X) (es : List (List ℕ × X)) → cond t (e ∷ []) (alone es) ≡ alone (cond t (e ∷ es) es)
  taken true e es = refl
  taken false e es = refl

  one_of_ties : (x : List ℕ × X) (es : List (List ℕ × X)) → filter (tie x) (in_order es) ≡ alone (filter (tie x) es)
  one_of_ties x [] = refl
  one_of_ties x (e ∷ es) =
      ties_placed x e (in_order es) (ascend_in_order es) ∙ ap (cond (tie x e) (e ∷ [])) (one_of_ties x es) ∙ taken (tie x e) e (filter (tie x) es)

  none_below : (e : List ℕ × X) (es : List (List ℕ × X)) → AllByRecursion (λ n. name_cmp e.0 n ≡ Less) (keys_of es) → NoneBelow named_below e es
  none_below e [] above = tt
  none_below e (f ∷ fs) above = (ap is_lt (greater_from_less e.0 f.0 above.0), none_below e fs above.1)

  ascending : (es : List (List ℕ × X)) → NamesAscend es → NeverFall named_below es
  unfolding IsStrictlySortedBy
  ascending [] ascend = tt
  ascending (e ∷ es) ascend = (none_below e es ascend.0, ascending es ascend.1)

  same_in_order : (es fs : List (List ℕ × X)) → ((x : List ℕ × X) → filter (tie x) es ≡ filter (tie x) fs) → in_order es ≡ in_order fs
  same_in_order es fs same =
      one_list (in_order es) (in_order fs) (ascending (in_order es) (ascend_in_order es)) (ascend_in_order fs)
      (λ x. one_of_ties x es ∙ ap alone (same x) ∙ sym (one_of_ties x fs))

-- ---- things with names, in the order of their names

module _ {A : Type 0} (name : A → List ℕ) (Held : A → Type 0) where
  moved : (k l : List ℕ) → name_cmp k l ≡ Equal → (xs : List A) → filter (tied_with name k) xs ≡ filter (tied_with name l) xs
  moved k l tied xs = λ i. filter (λ x. is_eq (name_total.congr k l (name x) tied i)) xs

  -- no name ties with this one, or one does
  abbrev Found : List ℕ → List A → Type 0
  Found k xs = (filter (tied_with name k) xs ≡ []) ⊎ ((x : A) × Held x × (name_cmp k (name x) ≡ Equal))

  found_at : (k : List ℕ) (x : A) (xs : List A) (t : Bool) → Held x → tied_with name k x ≡ t → Found k xs → Found k (x ∷ xs)
  found_at k x xs true held is rest = inr (x, held, equal_from_is_eq (name_cmp k (name x)) is)
  found_at k x xs false held is (inl none) = inl (rw is none)
  found_at k x xs false held is (inr one) = inr one

  found : (k : List ℕ) (xs : List A) → AllByRecursion Held xs → Found k xs
  found k [] held = inl refl
  found k (x ∷ xs) held = found_at k x xs (tied_with name k x) held.0 refl (found k xs held.1)

  module _ (xs ys : List A) (same : (x : A) → Held x → filter (tied_with name (name x)) xs ≡ filter (tied_with name (name x)) ys) where
    same_as : (k : List ℕ) (x : A) → Held x → name_cmp k (name x) ≡ Equal → filter (tied_with name k) xs ≡ filter (tied_with name k) ys
    same_as k x held tied = moved k (name x) tied xs ∙ same x held ∙ sym (moved k (name x) tied ys)

    same_found : (k : List ℕ) → Found k xs → Found k ys → filter (tied_with name k) xs ≡ filter (tied_with name k) ys
    same_found k (inr one) other = same_as k one.0 one.1 one.2
    same_found k (inl none) (inr one) = same_as k one.0 one.1 one.2
    same_found k (inl none) (inl neither) = none ∙ sym neither

    same_ties : (k : List ℕ) → AllByRecursion Held xs → AllByRecursion Held ys → filter (tied_with name k) xs ≡ filter (tied_with name k) ys
    same_ties k first second = same_found k (found k xs first) (found k ys second)

  module _ (lt : A → A → Bool) (is : (x y : A) → Held x → Held y → lt x y ≡ below name x y) where
    not_below : (x : A) (xs : List A) → Held x → AllByRecursion Held xs → NoneBelow lt x xs → NoneBelow (below name) x xs
    not_below x [] here held none = tt
    not_below x (y ∷ ys) here held none = (sym (is y x held.0 here) ∙ none.0, not_below x ys here held.1 none.1)

    names_never_fall : (xs : List A) → AllByRecursion Held xs → NeverFall lt xs → NeverFall (below name) xs
    names_never_fall [] held up = tt
    names_never_fall (x ∷ xs) held up = (not_below x xs held.0 held.1 up.0, names_never_fall xs held.1 up.1)

    same_test : (x y : A) → Held x → Held y → ties lt x y ≡ tied_with name (name x) y
    same_test x y here there =
        ap₂ (λ s t. not s && not t) (is x y here there) (is y x there here) ∙ ties_are name x y

    same_filter : (x : A) (ys : List A) → Held x → AllByRecursion Held ys → filter (ties lt x) ys ≡ filter (tied_with name (name x)) ys
    same_filter x [] here held = refl
    same_filter x (y ∷ ys) here held =
        ap₂ (λ t zs. cond t (y ∷ zs) zs) (same_test x y here held.0) (same_filter x ys here held.1)

    names_stable : (xs ys : List A) → AllByRecursion Held xs → AllByRecursion Held ys → IsStableBy lt xs ys
        → (x : A) → Held x → filter (tied_with name (name x)) ys ≡ filter (tied_with name (name x)) xs
    names_stable xs ys first second stable x here =
        sym (same_filter x ys here second) ∙ stable x ∙ same_filter x xs here first

module _ {A X : Type 0} (name : A → List ℕ) (value : A → X) where
  abbrev pair_of : A → List ℕ × X
  pair_of x = (name x, value x)

  filter_at : (x : A) (t : Bool) (es : List (List ℕ × X)) (xs : List A) → es ≡ map pair_of xs → cond t (pair_of x ∷ es) es ≡ map pair_of (cond t (x ∷ xs) xs)
  filter_at x true es xs is = ap (λ l. pair_of x ∷ l) is
  filter_at x false es xs is = is

  filter_pairs : (e : List ℕ × X) (xs : List A) → filter (tie e) (map pair_of xs) ≡ map pair_of (filter (tied_with name e.0) xs)
  filter_pairs e [] = refl
  filter_pairs e (x ∷ xs) = filter_at x (tied_with name e.0 x) _ _ (filter_pairs e xs)

  pairs_not_below : (x : A) (xs : List A) → NoneBelow (below name) x xs → NoneBelow named_below (pair_of x) (map pair_of xs)
  pairs_not_below x [] none = tt
  pairs_not_below x (y ∷ ys) none = (none.0, pairs_not_below x ys none.1)

  pairs_never_fall : (xs : List A) → NeverFall (below name) xs → NeverFall named_below (map pair_of xs)
  pairs_never_fall [] up = tt
  pairs_never_fall (x ∷ xs) up = (pairs_not_below x xs up.0, pairs_never_fall xs up.1)

  pub firsts_from_sort : (Held : A → Type 0) (lt : A → A → Bool) → ((x y : A) → Held x → Held y → lt x y ≡ below name x y)
      → (xs ys : List A) → AllByRecursion Held xs × AllByRecursion Held ys → NeverFall lt ys → IsStableBy lt xs ys
      → firsts None (map pair_of ys) ≡ in_order (map pair_of xs)
  firsts_from_sort Held lt is xs ys held up stable =
      let names = names_stable name Held lt is xs ys held.0 held.1 stable in
      let same : (e : List ℕ × X) → filter (tie e) (map pair_of ys) ≡ filter (tie e) (map pair_of xs) = λ e.
      filter_pairs e ys ∙ ap (map pair_of) (same_ties name Held ys xs names e.0 held.1 held.0) ∙ sym (filter_pairs e xs) in
      firsts_are (map pair_of ys) (pairs_never_fall ys (names_never_fall name Held lt is ys held.1 up))
      ∙ same_in_order (map pair_of ys) (map pair_of xs) same
