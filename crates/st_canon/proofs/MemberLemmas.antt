-- Properties that the items and members of a value keep.
use Rattle.std.proofs.Common.{◌≡◌, ℕ, zero, suc, ◌+◌, List, [], ◌∷◌, ◌++◌, drop, sym, subst, Less, Equal, Greater, ◌<◌, Bool, true, false, cond, length, get_or, set, Option, Some, None, option_map, Ordering, refl, ap, ◌∙◌, arith, Result, Ok, Err, add-one}
use Rattle.std.proofs.lemmas.Bool.Decides.{nat_tests}
use Rattle.std.proofs.lemmas.List.Sorted.{searchable_from_sorted}
use Rattle.std.proofs.lemmas.Map.{NonePasses, lookup-none}
use Rattle.std.specs.List.{AllByRecursion, insert, remove}
use Rattle.std.specs.List.Sorted.{IsStrictlySortedBy, IsSortedBy, IsSearchInRange, IsBinarySearchResult}
use Rattle.std.specs.Map.{keys_of, lookup}
use Rattle.std.specs.Ordering.{match_ordering, is_lt}
use Rattle.std.specs.Prelude.{nat_eq, IfOk, IfErr}
use Rattle.std.specs.Str.{IsUtf8}
use Rattle.st_plain.proofs.NameLemmas.{greater_from_less, less_from_greater, tied_from_same, is_name_from_same, not_name_from_less, not_name_from_greater, name_total, same_from_is_name}
use Rattle.st_plain.proofs.SortLemmas.{ascend_in_order, named_below}
use Rattle.st_plain.specs.Objects.{member_at, put, without, is_empty}
use Rattle.st_plain.specs.Names.{name_cmp, is_name}
use Rattle.st_plain.specs.Plain.{Plain, member, AllAbove, IsProper, ItemsAreProper, MembersAreProper}
use Rattle.st_plain.specs.inside.Objects.{in_order, placed, IsApart, NamesAscend}
use Rattle.st_canon.specs.View.{plain, plain_items, plain_members}
use Rattle.st_canon.specs.declared.value.Json.{Json}
use Rattle.st_canon.specs.inside.Place.{IsPlaceOf, IsGapFor}

above : (k : List ℕ) (es : List (List ℕ × Json)) → AllByRecursion (λ l. name_cmp k l ≡ Less) (keys_of es)
    → AllAbove k (plain_members es)
above k [] h = tt
above k (e ∷ es) h = (h.0, above k es h.1)

first_above : (e : List ℕ × Json) (es : List (List ℕ × Json)) → NamesAscend (e ∷ es) → AllAbove e.0 (plain_members es)
unfolding IsStrictlySortedBy
first_above e es h = above e.0 es h.0

rest_ascends : (i : ℕ) (es : List (List ℕ × Json)) → NamesAscend es → NamesAscend (drop i es)
unfolding IsStrictlySortedBy
rest_ascends zero es h = h
rest_ascends (suc i) [] h = h
rest_ascends (suc i) (e ∷ es) h = rest_ascends i es h.1

pub one_more_member : (es : List (List ℕ × Json)) (i : ℕ) (e : List ℕ × Json) → NamesAscend es
    → drop i es ≡ e ∷ drop (i + 1) es → IsUtf8 e.0 → IsProper (plain e.1)
    → MembersAreProper (plain_members (drop (i + 1) es))
    → MembersAreProper (plain_members (drop i es))
one_more_member es i e s split u p k =
    subst (λ l. MembersAreProper (plain_members l)) (sym split) (u, first_above e (drop (i + 1) es) (subst NamesAscend split (rest_ascends i es s)), p, k)

-- ---- values built from proper parts are proper

pub one_more_proper : (js : List Json) (j : Json) → ItemsAreProper (plain_items js) → IsProper (plain j)
    → ItemsAreProper (plain_items (js ++ j ∷ []))
one_more_proper [] j h p = (p, tt)
one_more_proper (k ∷ js) j h p = (h.0, one_more_proper js j h.1 p)

-- the names are UTF-8, and the values proper
abbrev pub PairsAreProper : List (List ℕ × Json) → Type 0
PairsAreProper [] = Unit {0}
PairsAreProper (e ∷ es) = (IsUtf8 e.0 × IsProper (plain e.1)) × PairsAreProper es

pub one_more_proper_pair : (es : List (List ℕ × Json)) (e : List ℕ × Json) → PairsAreProper es → IsUtf8 e.0
    → IsProper (plain e.1) → PairsAreProper (es ++ e ∷ [])
one_more_proper_pair [] e h u p = ((u, p), tt)
one_more_proper_pair (f ∷ es) e h u p = (h.0, one_more_proper_pair es e h.1 u p)

pub placed_proper : (e : List ℕ × Json) (es : List (List ℕ × Json)) → IsUtf8 e.0 × IsProper (plain e.1) → PairsAreProper es
    → PairsAreProper (placed e es)
placed_proper e [] p h = (p, tt)
placed_proper e (f ∷ es) p h = elim (name_cmp e.0 f.0) as (λ o. PairsAreProper (match_ordering o (e ∷ f ∷ es) (e ∷ es) (f ∷ placed e es))) [
  | Less ↦ (p, h)
  | Equal ↦ (p, h.1)
  | Greater ↦ (h.0, placed_proper e es p h.1)
]

in_order_proper : (es : List (List ℕ × Json)) → PairsAreProper es → PairsAreProper (in_order es)
in_order_proper [] h = tt
in_order_proper (e ∷ es) h = placed_proper e (in_order es) h.0 (in_order_proper es h.1)

pub ascending_proper : (es : List (List ℕ × Json)) → NamesAscend es → PairsAreProper es → MembersAreProper (plain_members es)
unfolding IsStrictlySortedBy
ascending_proper [] s h = tt
ascending_proper (e ∷ es) s h = (h.0.0, above e.0 es s.0, h.0.1, ascending_proper es s.1 h.1)

-- proper pairs, sorted
pub members_proper : (es : List (List ℕ × Json)) → PairsAreProper es → MembersAreProper (plain_members (in_order es))
members_proper es h = ascending_proper (in_order es) (ascend_in_order es) (in_order_proper es h)

-- ---- The pair at the place of a name, and the gap for it, among pairs whose names ascend.

module _ {X : Type 0} where
  pub place_moved : {name other : List ℕ} {es fs : List (List ℕ × X)} {i : ℕ} → other ≡ name → fs ≡ es
      → IsPlaceOf other fs i → IsPlaceOf name es i
  place_moved {name} {other} {es} {fs} {i} named same at =
      subst (λ n. IsPlaceOf n es i) named (subst (λ l. IsPlaceOf other l i) same at)

  pub gap_moved : {name other : List ℕ} {es fs : List (List ℕ × X)} {i : ℕ} → other ≡ name → fs ≡ es
      → IsGapFor other fs i → IsGapFor name es i
  gap_moved {name} {other} {es} {fs} {i} named same gap =
      subst (λ n. IsGapFor n es i) named (subst (λ l. IsGapFor other l i) same gap)

  all_at : (P : List ℕ → Type 0) (es : List (List ℕ × X)) (i : ℕ) (d : List ℕ × X) → AllByRecursion P (keys_of es)
      → i < length es → P (get_or es i d).0
  all_at P [] i d all lt = absurd (omega arith)
  all_at P (e ∷ es) zero d all lt = all.0
  all_at P (e ∷ es) (suc i) d all lt = all_at P es i d all.1 (omega arith)

  module _ (name : List ℕ) where
    absent_above : (es : List (List ℕ × X)) → AllByRecursion (λ k. name_cmp name k ≡ Less) (keys_of es)
        → NonePasses (is_name name) es
    absent_above [] all = tt
    absent_above (e ∷ es) all = (not_name_from_less name e.0 all.0, absent_above es all.1)

    -- the first name is below a later one
    first_below : (e : List ℕ × X) (es : List (List ℕ × X)) (i : ℕ) (d : List ℕ × X) → NamesAscend (e ∷ es)
        → i < length es → (get_or es i d).0 ≡ name → name_cmp name e.0 ≡ Greater
    unfolding IsStrictlySortedBy
    first_below e es i d ascend lt named =
        greater_from_less e.0 name (subst (λ n. name_cmp e.0 n ≡ Less) named (all_at (λ n. name_cmp e.0 n ≡ Less) es i d ascend.0 lt))

    -- ---- at its place
    lookup_found : (es : List (List ℕ × X)) (i : ℕ) (d : List ℕ × X) → NamesAscend es → i < length es
        → (get_or es i d).0 ≡ name → lookup (is_name name) es ≡ Some (get_or es i d).1
    unfolding IsStrictlySortedBy
    lookup_found [] i d ascend lt named = absurd (omega arith)
    lookup_found (e ∷ es) zero d ascend lt named = rw (is_name_from_same name e.0 (sym named)) refl
    lookup_found (e ∷ es) (suc i) d ascend lt named =
        rw (not_name_from_greater name e.0 (first_below e es i d ascend (omega arith) named)) (lookup_found es i d ascend.1 (omega arith) named)

    all_removed : (P : List ℕ → Type 0) (es : List (List ℕ × X)) (i : ℕ) → i < length es
        → AllByRecursion P (keys_of es) → AllByRecursion P (keys_of (remove es i))
    all_removed P [] i lt all = absurd (omega arith)
    all_removed P (e ∷ es) zero lt all = all.1
    all_removed P (e ∷ es) (suc i) lt all = (all.0, all_removed P es i (omega arith) all.1)

    pub ascend_removed : (es : List (List ℕ × X)) (i : ℕ) → i < length es → NamesAscend es → NamesAscend (remove es i)
    unfolding IsStrictlySortedBy
    ascend_removed [] i lt ascend = absurd (omega arith)
    ascend_removed (e ∷ es) zero lt ascend = ascend.1
    ascend_removed (e ∷ es) (suc i) lt ascend =
        (all_removed (λ n. name_cmp e.0 n ≡ Less) es i (omega arith) ascend.0, ascend_removed es i (omega arith) ascend.1)

    placed_over : (es : List (List ℕ × X)) (i : ℕ) (d : List ℕ × X) (v : X) → NamesAscend es → i < length es
        → (get_or es i d).0 ≡ name → set es i (name, v) ≡ placed (name, v) es
    unfolding IsStrictlySortedBy
    placed_over [] i d v ascend lt named = absurd (omega arith)
    placed_over (e ∷ es) zero d v ascend lt named = rw (tied_from_same name e.0 (sym named)) refl
    placed_over (e ∷ es) (suc i) d v ascend lt named =
        rw (first_below e es i d ascend (omega arith) named) (ap (λ l. e ∷ l) (placed_over es i d v ascend.1 (omega arith) named))

    module _ (es : List (List ℕ × X)) (i : ℕ) (at : IsPlaceOf name es i) (ascend : NamesAscend es) where
      pub found_at_place : (d : List ℕ × X) → lookup (is_name name) es ≡ Some (get_or es i d).1
      found_at_place d = lookup_found es i d ascend at.in_range (at.named d)

      pub placed_at_place : (v : X) → set es i (name, v) ≡ placed (name, v) es
      placed_at_place v = placed_over es i (name, v) v ascend at.in_range (at.named (name, v))

      -- the value of the pair there is changed, and its name stays
      pub changed_at_place : (e : List ℕ × X) (v : X) → e ≡ get_or es i e → set es i (e.0, v) ≡ placed (name, v) es
      changed_at_place e v is = ap (λ n. set es i (n, v)) (ap (λ p. p.0) is ∙ at.named e) ∙ placed_at_place v

    -- ---- at its gap
    rest_of_gap : (e : List ℕ × X) (es : List (List ℕ × X)) (i : ℕ) → IsGapFor name (e ∷ es) (suc i)
        → IsGapFor name es i
    rest_of_gap e es i gap = record {
      in_range = let r = gap.in_range in omega arith;
      below = λ k d lt. gap.below (suc k) d (omega arith);
      above = λ k d le lt. gap.above (suc k) d (omega arith) (omega arith);
    }

    rest_of_above : (e : List ℕ × X) (es : List (List ℕ × X)) → IsGapFor name (e ∷ es) 0 → IsGapFor name es 0
    rest_of_above e es gap = record {
      in_range = omega arith;
      below = λ k d lt. absurd (omega arith);
      above = λ k d le lt. gap.above (suc k) d (omega arith) (omega arith);
    }

    first_above_gap : (e : List ℕ × X) (es : List (List ℕ × X)) → IsGapFor name (e ∷ es) 0 → name_cmp name e.0 ≡ Less
    first_above_gap e es gap = less_from_greater e.0 name (gap.above 0 e (omega arith) (omega arith))

    first_below_gap : (e : List ℕ × X) (es : List (List ℕ × X)) (i : ℕ) → IsGapFor name (e ∷ es) (suc i)
        → name_cmp name e.0 ≡ Greater
    first_below_gap e es i gap = greater_from_less e.0 name (gap.below 0 e (omega arith))

    pub absent_at_gap : (es : List (List ℕ × X)) (i : ℕ) → IsGapFor name es i → NonePasses (is_name name) es
    absent_at_gap [] i gap = tt
    absent_at_gap (e ∷ es) zero gap =
        (not_name_from_less name e.0 (first_above_gap e es gap), absent_at_gap es 0 (rest_of_above e es gap))
    absent_at_gap (e ∷ es) (suc i) gap =
        (not_name_from_greater name e.0 (first_below_gap e es i gap), absent_at_gap es i (rest_of_gap e es i gap))

    -- no name ties with it
    pub apart_at_gap : (es : List (List ℕ × X)) (i : ℕ) → IsGapFor name es i → IsApart name es
    apart_at_gap [] i gap = tt
    apart_at_gap (e ∷ es) zero gap =
        (λ tied. let less = first_above_gap e es gap in cc, apart_at_gap es 0 (rest_of_above e es gap))
    apart_at_gap (e ∷ es) (suc i) gap =
        (λ tied. let greater = first_below_gap e es i gap in cc, apart_at_gap es i (rest_of_gap e es i gap))

    pub none_at_gap : (es : List (List ℕ × X)) (i : ℕ) → IsGapFor name es i → lookup (is_name name) es ≡ None
    none_at_gap es i gap = lookup-none (is_name name) es (absent_at_gap es i gap)

    pub placed_at_gap : (es : List (List ℕ × X)) (i : ℕ) (v : X) → IsGapFor name es i
        → insert es i (name, v) ≡ placed (name, v) es
    placed_at_gap [] zero v gap = refl
    placed_at_gap [] (suc i) v gap = refl
    placed_at_gap (e ∷ es) zero v gap = rw (first_above_gap e es gap) refl
    placed_at_gap (e ∷ es) (suc i) v gap =
        rw (first_below_gap e es i gap) (ap (λ l. e ∷ l) (placed_at_gap es i v (rest_of_gap e es i gap)))

  pub placed_from_gap : (name : List ℕ) (v : X) {es fs : List (List ℕ × X)} {i : ℕ} → fs ≡ insert es i (name, v)
      → IsGapFor name es i → fs ≡ placed (name, v) es
  placed_from_gap name v {es} {fs} {i} is gap = is ∙ placed_at_gap name es i v gap

-- ---- the same for plain members
chosen : (t : Bool) (v : Json) (found : Option Json) (p : Option Plain) → option_map plain found ≡ p
    → option_map plain (cond t (Some v) found) ≡ cond t (Some (plain v)) p
chosen true v found p is = refl
chosen false v found p is = is

module _ (name : List ℕ) where
  pub plain-lookup : (es : List (List ℕ × Json))
      → option_map plain (lookup (is_name name) es) ≡ member_at name (plain_members es)
  plain-lookup [] = refl
  plain-lookup (e ∷ es) =
      chosen (is_name name e.0) e.1 (lookup (is_name name) es) (member_at name (plain_members es)) (plain-lookup es)

  without_absent : (es : List (List ℕ × Json)) → NonePasses (is_name name) es
      → without name (plain_members es) ≡ plain_members es
  without_absent [] none = refl
  without_absent (e ∷ es) none = rw none.0 (ap (member e.0 (plain e.1)) (without_absent es none.1))

  without_at : (es : List (List ℕ × Json)) (i : ℕ) (d : List ℕ × Json) → NamesAscend es → i < length es
      → (get_or es i d).0 ≡ name → plain_members (remove es i) ≡ without name (plain_members es)
  unfolding IsStrictlySortedBy
  without_at [] i d ascend lt named = absurd (omega arith)
  without_at (e ∷ es) zero d ascend lt named =
      let above = subst (λ n. AllByRecursion (λ k. name_cmp n k ≡ Less) (keys_of es)) named ascend.0 in
      rw (is_name_from_same name e.0 (sym named)) (sym (without_absent es (absent_above name es above)))
  without_at (e ∷ es) (suc i) d ascend lt named =
      rw (not_name_from_greater name e.0 (first_below name e es i d ascend (omega arith) named))
      (ap (member e.0 (plain e.1)) (without_at es i d ascend.1 (omega arith) named))

  module _ (es : List (List ℕ × Json)) (i : ℕ) where
    module _ (at : IsPlaceOf name es i) (ascend : NamesAscend es) where
      pub value_at_place : (d : List ℕ × Json) → Some (plain (get_or es i d).1) ≡ member_at name (plain_members es)
      value_at_place d = ap (option_map plain) (sym (found_at_place name es i at ascend d)) ∙ plain-lookup es

      pub removed_at_place : List ℕ × Json → plain_members (remove es i) ≡ without name (plain_members es)
      removed_at_place d = without_at es i d ascend at.in_range (at.named d)

    module _ (gap : IsGapFor name es i) where
      pub no_value_at_gap : None ≡ member_at name (plain_members es)
      no_value_at_gap = ap (option_map plain) (sym (none_at_gap name es i gap)) ∙ plain-lookup es

      pub kept_at_gap : plain_members es ≡ without name (plain_members es)
      kept_at_gap = sym (without_absent es (absent_at_gap name es i gap))

plain_members-match_ordering : (o : Ordering) (a b c : List (List ℕ × Json))
    → plain_members (match_ordering o a b c) ≡ match_ordering o (plain_members a) (plain_members b) (plain_members c)
plain_members-match_ordering Less a b c = refl
plain_members-match_ordering Equal a b c = refl
plain_members-match_ordering Greater a b c = refl

pub plain_members-placed : (name : List ℕ) (v : Json) (es : List (List ℕ × Json))
    → plain_members (placed (name, v) es) ≡ put name (plain v) (plain_members es)
plain_members-placed name v [] = refl
plain_members-placed name v (e ∷ es) =
    plain_members-match_ordering (name_cmp name e.0) _ _ _ ∙ rw (plain_members-placed name v es) refl

-- ---- no members

not_zero : (n : ℕ) → nat_eq (suc n) 0 ≡ false
not_zero n = grind (arith, nat_tests)

pub is_empty-length : (pairs : List (List ℕ × Json)) → nat_eq (length pairs) 0 ≡ is_empty (plain_members pairs)
is_empty-length [] = refl
is_empty-length (pair ∷ pairs) = not_zero (length pairs)

-- ---- The result of a bisection among pairs whose names ascend.

rises : {X : Type 0} (p : List ℕ × X) (pairs : List (List ℕ × X)) (k : ℕ) (d : List ℕ × X) → NamesAscend (p ∷ pairs)
    → k < length pairs → named_below (get_or pairs k d) (get_or (p ∷ pairs) k d) ≡ false
unfolding IsStrictlySortedBy
rises p [] k d ascend lt = absurd (omega arith)
rises p (q ∷ pairs) zero d ascend lt = ap is_lt (greater_from_less p.0 q.0 ascend.0.0)
rises p (q ∷ pairs) (suc k) d ascend lt = rises q pairs k d ascend.1 (omega arith)

sorted_from_ascend : {X : Type 0} (pairs : List (List ℕ × X)) → NamesAscend pairs → IsSortedBy named_below pairs
sorted_from_ascend [] ascend = λ k d low lt. absurd (omega arith)
sorted_from_ascend (p ∷ pairs) ascend = λ k d low lt. rw add-one (rises p pairs k d ascend (omega arith))

abbrev apart : Ordering → Ordering
apart Less = Less
apart Equal = Less
apart Greater = Greater

never : (o : Ordering) → apart o ≡ Equal → ⊥
never Less e = cc
never Equal e = cc
never Greater e = cc

-- the order of names, in which a name ties only with itself
abbrev pub exact_cmp : List ℕ → List ℕ → Ordering
exact_cmp first second = cond (is_name first second) Equal (apart (name_cmp first second))

apart_from_no_tie : (o : Ordering) → (o ≡ Equal → ⊥) → o ≡ apart o
apart_from_no_tie Less untied = refl
apart_from_no_tie Equal untied = absurd (untied refl)
apart_from_no_tie Greater untied = refl

told : (a b : List ℕ) (t : Bool) → is_name a b ≡ t → (name_cmp a b ≡ Equal → a ≡ b)
    → name_cmp a b ≡ cond t Equal (apart (name_cmp a b))
told a b true is same = tied_from_same a b (same_from_is_name a b is)
told a b false is same = apart_from_no_tie (name_cmp a b) (λ tied. let named = is_name_from_same a b (same tied) in cc)

pub exact_from_compare : (a b : List ℕ) (r : Ordering) → r ≡ name_cmp a b → (r ≡ Equal → a ≡ b) → r ≡ exact_cmp a b
exact_from_compare a b r order same = order ∙ told a b (is_name a b) refl (λ tied. same (order ∙ tied))

named_from_exact : (a b : List ℕ) (t : Bool) → is_name a b ≡ t → cond t Equal (apart (name_cmp a b)) ≡ Equal → a ≡ b
named_from_exact a b true is e = same_from_is_name a b is
named_from_exact a b false is e = absurd (never (name_cmp a b) e)

module _ {X : Type 0} (name : List ℕ) (pairs : List (List ℕ × X)) where
  pub place_from_search : (r : Result ℕ ℕ) → IsSearchInRange r (length pairs)
      → IsBinarySearchResult (λ p. exact_cmp p.0 name) pairs r → IfOk r (IsPlaceOf name pairs)
  place_from_search (Ok i) lt found =
      record { in_range = lt; named = λ d. named_from_exact (get_or pairs i d).0 name (is_name (get_or pairs i d).0 name) refl (found d) }
  place_from_search (Err i) le found = tt

  pub gap_from_search : (r : Result ℕ ℕ) → NamesAscend pairs → IsSearchInRange r (length pairs)
      → IsBinarySearchResult (λ p. name_cmp p.0 name) pairs r → IfErr r (IsGapFor name pairs)
  gap_from_search (Ok i) ascend lt found = tt
  gap_from_search (Err i) ascend le found =
      let parts = found (searchable_from_sorted name_total (λ p. p.0) pairs name (sorted_from_ascend pairs ascend)) in
      record { in_range = le; below = λ k d lt. parts.0 k d (omega arith) lt; above = λ k d le lt. parts.1 k d le lt }
