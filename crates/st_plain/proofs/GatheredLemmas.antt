-- Members collected by name, in any order and with repeats.
use Rattle.std.proofs.Common.{◌≡◌, ℕ, List, [], ◌∷◌, ◌++◌, length, map, Bool, true, false, Option, Some, None, option_map, option_and_then, Ordering, Less, Equal, Greater, nat_cmp, is_eq, IfSome, refl, sym, ap, ap₂, ◌∙◌, subst, append_assoc, length-append}
use Rattle.std.specs.Prelude.{⊤, ◌&&◌, is_some, reverse, take}
use Rattle.std.proofs.lemmas.Bool.{and_parts}
use Rattle.std.specs.Cmp.Lexicographic.{slice_cmp, nat_list_cmp_total}
use Rattle.std.specs.List.{AllByRecursion}
use Rattle.std.specs.List.Sorted.{IsStrictlySortedBy}
use Rattle.std.specs.Map.{keys_of}
use Rattle.std.specs.Ordering.{match_ordering, ordering_reverse}
use Rattle.std.specs.Str.{IsUtf8}
use Rattle.std.proofs.lemmas.Cmp.{tied_itself}
use Rattle.std.proofs.lemmas.List.{append-nil, reverse-append, take_at}
use Rattle.std.proofs.lemmas.Map.Text.{is_eq-slice_cmp}
use Rattle.std.proofs.lemmas.Slice.Eq.{bytes_eq-Decides}
use Rattle.serde_json.specs.Data as data'
use Rattle.st_plain.specs.Plain.{canonical, canonical_members, comma, quoted, Plain, Members, no_members, member, AllAbove, IsProper, MembersAreProper}
use Rattle.st_plain.specs.Objects.{put}
use Rattle.st_plain.specs.inside.Objects.{IsHeld, entries_in, entry_at, joined, in_order, placed, NamesAscend}
use Rattle.st_plain.specs.Names.{name_cmp}
use Rattle.st_plain.specs.Shapes.{whole_value, whole_members}
use Rattle.st_plain.specs.inside.Respelled.{IsWritten, Spells}
use Rattle.st_plain.proofs.HeldLemmas.{all_stay, entries_stay, entry_held, has_no_left, has_no_right}
use Rattle.st_plain.proofs.NameLemmas.{above_both, around, at_first, at_second, below_both, between, by_order, greater_from_less, less_from_greater, name_total, same_from_tied}
use Rattle.st_plain.proofs.RespellingLemmas.{IsLast, after, after_more, after_true, next_last, placed_last}
use Rattle.st_plain.proofs.SortLemmas.{all_placed, ascend_placed}

-- ---- a name inserted among others

module _ {X : Type 0} where
  abbrev with_name : List ℕ → X → List (List ℕ × X) → List (List ℕ × X)
  with_name k x es = placed (k, x) es

  -- the later value stays
  again : (k : List ℕ) (x y : X) (es : List (List ℕ × X)) → with_name k y (with_name k x es) ≡ with_name k y es
  again k x y [] = rw (tied_itself name_total k) refl
  again k x y (e ∷ es) =
      let own = tied_itself name_total k in
      by_order (λ o. with_name k y (with_name k x (e ∷ es)) ≡ with_name k y (e ∷ es)) (name_cmp k e.0)
      (λ is. simp (is, own) refl) (λ is. simp (is, own) refl) (λ is. simp is (ap (λ l. e ∷ l) (again k x y es)))

  lower_first : (k l : List ℕ) (x y : X) (es : List (List ℕ × X)) → name_cmp k l ≡ Less → with_name k x (with_name l y es) ≡ with_name l y (with_name k x es)
  lower_first k l x y [] lt = let gt = greater_from_less k l lt in simp (lt, gt) refl
  lower_first k l x y (e ∷ es) lt =
      let gt = greater_from_less k l lt in
      let ih = lower_first k l x y es lt in elim (around k l e.0 lt) [
        | above_both a b ↦ simp (a, b, lt, gt) refl
        | at_second a b ↦ simp (a, b, lt, gt) refl
        | between a b ↦ simp (a, b, gt) refl
        | at_first a b ↦ simp (a, b, gt) refl
        | below_both a b ↦ simp (a, b) (ap (λ rest. e ∷ rest) ih)
      ]

  swapped_by : (k l : List ℕ) (x y : X) (es : List (List ℕ × X)) (o : Ordering) → name_cmp k l ≡ o → (o ≡ Equal → ⊥)
      → with_name k x (with_name l y es) ≡ with_name l y (with_name k x es)
  swapped_by k l x y es Less is apart = lower_first k l x y es is
  swapped_by k l x y es Equal is apart = absurd (apart refl)
  swapped_by k l x y es Greater is apart = sym (lower_first l k y x es (less_from_greater k l is))

-- values under a function
values_with : {X Y : Type 0} (f : X → Y) (k : List ℕ) (x : X) (es : List (List ℕ × X))
    → map (λ e. (e.0, f e.1)) (with_name k x es) ≡ with_name k (f x) (map (λ e. (e.0, f e.1)) es)
values_with f k x [] = refl
values_with {X = X} {Y = Y} f k x (e ∷ es) = at (name_cmp k e.0) _ _ (values_with f k x es)
  where
    at : (o : Ordering) (fs : List (List ℕ × X)) (gs : List (List ℕ × Y)) → map (λ e. (e.0, f e.1)) fs ≡ gs
        → map (λ e. (e.0, f e.1)) (match_ordering o ((k, x) ∷ e ∷ es) ((k, x) ∷ es) (e ∷ fs))
        ≡ match_ordering o ((k, f x) ∷ map (λ e. (e.0, f e.1)) (e ∷ es)) ((k, f x) ∷ map (λ e. (e.0, f e.1)) es) ((e.0, f e.1) ∷ gs)
    at Less fs gs ih = refl
    at Equal fs gs ih = refl
    at Greater fs gs ih = ap (λ l. (e.0, f e.1) ∷ l) ih

-- ---- names by their bytes, which is the order of `serde_json`

abbrev AreUtf8 : data'.Members → Type 0
AreUtf8 data'.no_members = ⊤
AreUtf8 (data'.member k d ds) = IsUtf8 k × AreUtf8 ds

abbrev AreAbove : List ℕ → data'.Members → Type 0
AreAbove k data'.no_members = ⊤
AreAbove k (data'.member l d ds) = (slice_cmp nat_cmp k l ≡ Less) × AreAbove k ds

abbrev BytesAscend : data'.Members → Type 0
BytesAscend data'.no_members = ⊤
BytesAscend (data'.member k d ds) = AreAbove k ds × BytesAscend ds

-- names that tie are the same, so their bytes tie too
never_tied : (k l : List ℕ) (o : Ordering) → IsUtf8 k → IsUtf8 l → slice_cmp nat_cmp k l ≡ o → (o ≡ Equal → ⊥) → name_cmp k l ≡ Equal → ⊥
never_tied k l o u v is apart tied =
    apart (sym is ∙ ap (slice_cmp nat_cmp k) (sym (same_from_tied k l u v tied)) ∙ tied_itself nat_list_cmp_total k)

less_apart : Less ≡ Equal → ⊥
less_apart e = cc

greater_apart : Greater ≡ Equal → ⊥
greater_apart e = cc

same_bytes : (k l : List ℕ) → slice_cmp nat_cmp k l ≡ Equal → k ≡ l
same_bytes k l is = (bytes_eq-Decides k l).0 (sym (is_eq-slice_cmp k l) ∙ ap is_eq is)

module _ (k : List ℕ) (d : data'.Data) where
  utf8_put : (ds : data'.Members) → IsUtf8 k → AreUtf8 ds → AreUtf8 (data'.put k d ds)
  utf8_put data'.no_members u h = (u, tt)
  utf8_put (data'.member l e ds) u h =
      by_order (λ o. AreUtf8 (match_ordering o (data'.member k d (data'.member l e ds)) (data'.member l d ds) (data'.member l e (data'.put k d ds)))) (slice_cmp nat_cmp k l)
      (λ is. (u, h)) (λ is. h) (λ is. (h.0, utf8_put ds u h.1))

  above_put : (m : List ℕ) (ds : data'.Members) → slice_cmp nat_cmp m k ≡ Less → AreAbove m ds → AreAbove m (data'.put k d ds)
  above_put m data'.no_members lt h = (lt, tt)
  above_put m (data'.member l e ds) lt h =
      by_order (λ o. AreAbove m (match_ordering o (data'.member k d (data'.member l e ds)) (data'.member l d ds) (data'.member l e (data'.put k d ds)))) (slice_cmp nat_cmp k l)
      (λ is. (lt, h)) (λ is. h) (λ is. (h.0, above_put m ds lt h.1))

  further : (l : List ℕ) (ds : data'.Members) → slice_cmp nat_cmp k l ≡ Less → AreAbove l ds → AreAbove k ds
  further l data'.no_members lt h = tt
  further l (data'.member m e ds) lt h = (nat_list_cmp_total.trans k l m lt h.0, further l ds lt h.1)

  ascend_put : (ds : data'.Members) → BytesAscend ds → BytesAscend (data'.put k d ds)
  ascend_put data'.no_members h = (tt, tt)
  ascend_put (data'.member l e ds) h =
      by_order (λ o. BytesAscend (match_ordering o (data'.member k d (data'.member l e ds)) (data'.member l d ds) (data'.member l e (data'.put k d ds)))) (slice_cmp nat_cmp k l)
      (λ is. ((is, further l ds is h.0), h))
      (λ is. h)
      (λ is. (above_put l ds (nat_list_cmp_total.antisymm l k ∙ ap ordering_reverse is) h.0, ascend_put ds h.1))

-- ---- data by what is collected from it

abbrev Outcomes : Type 0
Outcomes = List (List ℕ × Option Plain)

-- the value of each name, if it is whole, in the order of names
abbrev outcomes : data'.Members → Outcomes
outcomes data'.no_members = []
outcomes (data'.member k d ds) = with_name k (whole_value d) (outcomes ds)

outcomes_put : (k : List ℕ) (d : data'.Data) (ds : data'.Members) → IsUtf8 k → AreUtf8 ds
    → outcomes (data'.put k d ds) ≡ with_name k (whole_value d) (outcomes ds)
outcomes_put k d data'.no_members u h = refl
outcomes_put k d (data'.member l e ds) u h =
    let x = whole_value d in
    let y = whole_value e in
    by_order (λ o. outcomes (match_ordering o (data'.member k d (data'.member l e ds)) (data'.member l d ds) (data'.member l e (data'.put k d ds))) ≡ with_name k x (with_name l y (outcomes ds)))
    (slice_cmp nat_cmp k l) (λ is. refl)
    (λ is. sym (again l y x (outcomes ds)) ∙ ap (λ m. with_name m x (with_name l y (outcomes ds))) (sym (same_bytes k l is)))
    (λ is.
    let apart = never_tied k l Greater u h.0 is greater_apart in
    ap (with_name l y) (outcomes_put k d ds u h.1) ∙ sym (swapped_by k l x y (outcomes ds) (name_cmp k l) refl apart))

-- ---- all members, if all are whole

abbrev all_whole : Outcomes → Option Members
all_whole [] = Some no_members
all_whole (e ∷ es) = option_and_then (λ p. option_map (member e.0 p) (all_whole es)) e.1

first_whole : (k l : List ℕ) (p : Plain) (there : Option Plain) (rest : Option Members) → name_cmp k l ≡ Less
    → option_map (member k p) (option_and_then (λ q. option_map (member l q) rest) there)
    ≡ option_map (put k p) (option_and_then (λ q. option_map (member l q) rest) there)
first_whole k l p None rest is = refl
first_whole k l p (Some q) None is = refl
first_whole k l p (Some q) (Some ms) is = rw is refl

later_whole : (k l : List ℕ) (there other : Option Plain) (rest : Option Members) → name_cmp k l ≡ Greater
    → option_and_then (λ q. option_map (member l q) (option_and_then (λ p. option_map (put k p) rest) there)) other
    ≡ option_and_then (λ p. option_map (put k p) (option_and_then (λ q. option_map (member l q) rest) other)) there
later_whole k l None None rest is = refl
later_whole k l None (Some q) rest is = refl
later_whole k l (Some p) None rest is = refl
later_whole k l (Some p) (Some q) None is = refl
later_whole k l (Some p) (Some q) (Some ms) is = rw is refl

one_whole : (k : List ℕ) (there : Option Plain)
    → option_and_then (λ p. option_map (member k p) (Some no_members)) there ≡ option_and_then (λ p. option_map (put k p) (Some no_members)) there
one_whole k None = refl
one_whole k (Some p) = refl

all_first : (k : List ℕ) (there : Option Plain) (e : List ℕ × Option Plain) (es : Outcomes) → name_cmp k e.0 ≡ Less
    → option_and_then (λ p. option_map (member k p) (all_whole (e ∷ es))) there ≡ option_and_then (λ p. option_map (put k p) (all_whole (e ∷ es))) there
all_first k None e es is = refl
all_first k (Some p) e es is = first_whole k e.0 p e.1 (all_whole es) is

all_whole_with : (k : List ℕ) (there : Option Plain) (es : Outcomes) → AllByRecursion (λ n. name_cmp k n ≡ Equal → ⊥) (keys_of es)
    → all_whole (with_name k there es) ≡ option_and_then (λ p. option_map (put k p) (all_whole es)) there
all_whole_with k there [] apart = one_whole k there
all_whole_with k there (e ∷ es) apart =
    by_order (λ o. all_whole (match_ordering o ((k, there) ∷ e ∷ es) ((k, there) ∷ es) (e ∷ with_name k there es)) ≡ option_and_then (λ p. option_map (put k p) (all_whole (e ∷ es))) there)
    (name_cmp k e.0) (λ is. all_first k there e es is) (λ is. absurd (apart.0 is))
    (λ is.
    ap (λ rest. option_and_then (λ q. option_map (member e.0 q) rest) e.1) (all_whole_with k there es apart.1)
    ∙ later_whole k e.0 there e.1 (all_whole es) is)

apart_from_above : (k : List ℕ) (ds : data'.Members) → IsUtf8 k → AreUtf8 ds → AreAbove k ds
    → AllByRecursion (λ n. name_cmp k n ≡ Equal → ⊥) (keys_of (outcomes ds))
apart_from_above k data'.no_members u h above = tt
apart_from_above k (data'.member l d ds) u h above =
    all_placed (λ n. name_cmp k n ≡ Equal → ⊥) (l, whole_value d) (outcomes ds) (never_tied k l Less u h.0 above.0 less_apart)
    (apart_from_above k ds u h.1 above.1)

whole_members_are : (ds : data'.Members) → AreUtf8 ds → BytesAscend ds → whole_members ds ≡ all_whole (outcomes ds)
whole_members_are data'.no_members u h = refl
whole_members_are (data'.member k d ds) u h =
    ap (λ rest. option_and_then (λ p. option_map (put k p) rest) (whole_value d)) (whole_members_are ds u.1 h.1)
    ∙ sym (all_whole_with k (whole_value d) (outcomes ds) (apart_from_above k ds u.0 u.1 h.0))

-- ---- proper values

abbrev AreProper : Outcomes → Type 0
AreProper es = AllByRecursion (λ e. IsUtf8 e.0 × IfSome e.1 IsProper) es

above_with : (k l : List ℕ) (there : Option Plain) (rest : Option Members) → name_cmp k l ≡ Less → IfSome rest (AllAbove k)
    → IfSome (option_and_then (λ p. option_map (member l p) rest) there) (AllAbove k)
above_with k l None rest is h = tt
above_with k l (Some p) None is h = tt
above_with k l (Some p) (Some ms) is h = (is, h)

all_above : (k : List ℕ) (es : Outcomes) → AllByRecursion (λ n. name_cmp k n ≡ Less) (keys_of es) → IfSome (all_whole es) (AllAbove k)
all_above k [] h = tt
all_above k (e ∷ es) h = above_with k e.0 e.1 (all_whole es) h.0 (all_above k es h.1)

proper_with : (k : List ℕ) (there : Option Plain) (rest : Option Members) → IsUtf8 k → IfSome there IsProper → IfSome rest (AllAbove k)
    → IfSome rest MembersAreProper
    → IfSome (option_and_then (λ p. option_map (member k p) rest) there) MembersAreProper
proper_with k None rest u p above h = tt
proper_with k (Some q) None u p above h = tt
proper_with k (Some q) (Some ms) u p above h = (u, above, p, h)

ascend_outcomes : (ds : data'.Members) → NamesAscend (outcomes ds)
unfolding IsStrictlySortedBy
ascend_outcomes data'.no_members = tt
ascend_outcomes (data'.member k d ds) = ascend_placed (k, whole_value d) (outcomes ds) (ascend_outcomes ds)

all_proper : (es : Outcomes) → IsStrictlySortedBy name_cmp (keys_of es) → AreProper es → IfSome (all_whole es) MembersAreProper
unfolding IsStrictlySortedBy
all_proper [] s h = tt
all_proper (e ∷ es) s h = proper_with e.0 e.1 (all_whole es) h.0.0 h.0.1 (all_above e.0 es s.0) (all_proper es s.1 h.1)

-- ---- members in the order of the input

-- a name, the value if it is whole, and the text of the member
abbrev pub Coming : Type 0
Coming = List (List ℕ × (Option Plain × List ℕ))

abbrev pub outcome_of : List ℕ × (Option Plain × List ℕ) → List ℕ × Option Plain
outcome_of e = (e.0, e.1.0)

abbrev pub spelled_of : List ℕ × (Option Plain × List ℕ) → List ℕ × List ℕ
spelled_of e = (e.0, e.1.1)

abbrev pub texts_of : Coming → List (List ℕ)
texts_of es = map (λ e. e.1.1) es

-- in the order of their names, only the last of several with one name
abbrev pub ordered : Coming → Coming
ordered come = in_order (reverse come)

abbrev pub IsSpelled : List ℕ × (Option Plain × List ℕ) → Type 0
IsSpelled e = IsUtf8 e.0 × (t : List ℕ) × (e.1.1 ≡ quoted e.0 ++ (58 ∷ t)) × Spells IsProper canonical e.1.0 t

-- ---- their text

abbrev Any : {P : Type 0} → P → Type 0
Any p = ⊤

spelled_at : (b : Bool) (k : List ℕ) (there : Option Plain) (rest : Option Members) (t more : List ℕ) → Spells IsProper canonical there t
    → Spells Any (canonical_members true) rest more
    → Spells Any (canonical_members b) (option_and_then (λ p. option_map (member k p) rest) there) (comma b ++ ((quoted k ++ (58 ∷ t)) ++ more))
spelled_at b k None rest t more h g = λ none.
    h (has_no_right (58 ∷ []) t (has_no_right (quoted k) (58 ∷ t) (has_no_left (quoted k ++ (58 ∷ t)) more (has_no_right (comma b) _ none))))
spelled_at b k (Some p) None t more h g = λ none. g (has_no_right (quoted k ++ (58 ∷ t)) more (has_no_right (comma b) _ none))
spelled_at b k (Some p) (Some ms) t more h g =
    (tt, ap (λ l. comma b ++ l) (append_assoc (quoted k) (58 ∷ t) more) ∙ ap₂ (λ x y. comma b ++ (quoted k ++ (58 ∷ (x ++ y)))) h.1 g.1)

all_spelled : (b : Bool) (es : Coming) → AllByRecursion IsSpelled es
    → Spells Any (canonical_members b) (all_whole (map outcome_of es)) (joined b (texts_of es))
all_spelled b [] h = (tt, refl)
all_spelled b (e ∷ es) h =
    subst (λ t. Spells Any (canonical_members b) (all_whole (map outcome_of (e ∷ es))) (comma b ++ (t ++ joined true (texts_of es)))) (sym h.0.2)
    (spelled_at b e.0 e.1.0 (all_whole (map outcome_of es)) h.0.1 (joined true (texts_of es)) h.0.3 (all_spelled true es h.1))

proper_given : (there : Option Plain) (t : List ℕ) → Spells IsProper canonical there t → IfSome there IsProper
proper_given None t h = tt
proper_given (Some p) t h = h.0

proper_spelled : (es : Coming) → AllByRecursion IsSpelled es → AreProper (map outcome_of es)
proper_spelled [] h = tt
proper_spelled (e ∷ es) h = ((h.0.0, proper_given e.1.0 h.0.1 h.0.3), proper_spelled es h.1)

with_proper : {P : Type 0} (proper : P → Type 0) (text : P → List ℕ) (there : Option P) (t : List ℕ) → IfSome there proper → Spells Any text there t
    → Spells proper text there t
with_proper proper text None t p h = h
with_proper proper text (Some q) t p h = (p, h.1)

-- ---- what is collected from data

-- the last name is above all others if names ascend, and they are sorted
abbrev pub AreUp : Option (List ℕ) → Coming → Type 0
AreUp last come = IsLast last come × (ordered come ≡ come)

pub record IsGathered (ds : data'.Members) (front text : List ℕ) (places : List (ℕ × ℕ)) (up : Bool) (last : Option (List ℕ)) : Type 0 where
  pub come : Coming
  pub is : text ≡ front ++ joined false (texts_of come)
  pub outcomes_are : outcomes ds ≡ map outcome_of (ordered come)
  pub entries_are : map (entry_at text) (reverse places) ≡ map spelled_of (reverse come)
  pub held : AllByRecursion (IsHeld text) (reverse places)
  pub spelled : AllByRecursion IsSpelled (ordered come)
  pub ascend : BytesAscend ds
  pub utf8 : AreUtf8 ds
  pub rising : up ≡ true → AreUp last come
  pub some : is_some last ≡ after false come

pub none_gathered : (text : List ℕ) (places : List (ℕ × ℕ)) → places ≡ [] → IsGathered data'.no_members text text places true None
none_gathered text places none =
    rw none (record {
      come = [];
      is = sym (append-nil text);
      outcomes_are = refl;
      entries_are = refl;
      held = tt;
      spelled = tt;
      ascend = tt;
      utf8 = tt;
      rising = λ _. ((λ k less. tt), refl);
      some = refl;
    })

joined_more : (b : Bool) (ts : List (List ℕ)) (t : List ℕ) → joined b (ts ++ t ∷ []) ≡ joined b ts ++ (comma (after b ts) ++ t)
joined_more b [] t = ap (λ l. comma b ++ l) (append-nil t)
joined_more b (u ∷ ts) t =
    ap (λ l. comma b ++ (u ++ l)) (joined_more true ts t ∙ ap (λ c. joined true ts ++ (comma c ++ t)) (after_true ts))
    ∙ ap (λ l. comma b ++ l) (sym (append_assoc u (joined true ts) (comma true ++ t)))
    ∙ sym (append_assoc (comma b) (u ++ joined true ts) (comma true ++ t))

texts_more : (come : Coming) (e : List ℕ × (Option Plain × List ℕ)) → texts_of (come ++ e ∷ []) ≡ texts_of come ++ e.1.1 ∷ []
texts_more [] e = refl
texts_more (f ∷ come) e = ap (λ l. f.1.1 ∷ l) (texts_more come e)

after_texts : (come : Coming) → after false (texts_of come) ≡ after false come
after_texts [] = refl
after_texts (e ∷ come) = refl

all_placed_too : {X : Type 0} (P : List ℕ × X → Type 0) (e : List ℕ × X) (es : List (List ℕ × X)) → P e → AllByRecursion P es → AllByRecursion P (placed e es)
all_placed_too P e [] p h = (p, tt)
all_placed_too P e (f ∷ es) p h =
    by_order (λ o. AllByRecursion P (match_ordering o (e ∷ f ∷ es) (e ∷ es) (f ∷ placed e es))) (name_cmp e.0 f.0)
    (λ is. (p, h)) (λ is. (p, h.1)) (λ is. (h.0, all_placed_too P e es p h.1))

both_up : (s t : Bool) → (s && t) ≡ true → (s ≡ true) × (t ≡ true)
both_up s t e = and_parts s t e

up_more : (last : Option (List ℕ)) (come : Coming) (k : List ℕ) (x : Option Plain × List ℕ) → AreUp last come → IfSome last (λ l. name_cmp l k ≡ Less)
    → ordered (come ++ (k, x) ∷ []) ≡ placed (k, x) (ordered come) → AreUp (Some k) (come ++ (k, x) ∷ [])
up_more last come k x up above one =
    let below = up.0 k above in
    (next_last k x come below, one ∙ ap (placed (k, x)) up.1 ∙ placed_last k x come below)

module _ (ds : data'.Members) (front old : List ℕ) (places : List (ℕ × ℕ)) (up : Bool) (last : Option (List ℕ))
    (are : IsGathered ds front old places up last)
    (k : List ℕ) (d : data'.Data) (named new : List ℕ) (place : ℕ) (news : List (ℕ × ℕ)) (above : Bool) (u : IsUtf8 k)
    (higher : above ≡ true → IfSome last (λ l. name_cmp l k ≡ Less))
    (begun : named ≡ (old ++ comma (is_some last)) ++ (quoted k ++ 58 ∷ []))
    (at : place ≡ length (old ++ comma (is_some last)))
    (written : IsWritten IsProper canonical (whole_value d) named new)
    (among : news ≡ places ++ (place, length new) ∷ []) where
  t : List ℕ
  t = written.0

  inside : List ℕ
  inside = 58 ∷ t

  one : List ℕ × (Option Plain × List ℕ)
  one = (k, (whole_value d, quoted k ++ inside))

  grown_behind : new ≡ (old ++ comma (is_some last)) ++ (quoted k ++ inside)
  unfolding t inside
  grown_behind =
      written.1 ∙ ap (λ l. l ++ t) begun ∙ append_assoc (old ++ comma (is_some last)) (quoted k ++ 58 ∷ []) t
      ∙ ap (λ l. (old ++ comma (is_some last)) ++ l) (append_assoc (quoted k) (58 ∷ []) t)

  grown : new ≡ old ++ (comma (is_some last) ++ (quoted k ++ inside))
  grown = grown_behind ∙ append_assoc old (comma (is_some last)) (quoted k ++ inside)

  held_new : IsHeld new (place, length new)
  held_new = record {
    front = old ++ comma (is_some last);
    name = k;
    inside = inside;
    rest = [];
    is = grown_behind ∙ ap (λ l. (old ++ comma (is_some last)) ++ l) (sym (append-nil (quoted k ++ inside)));
    begins = at;
    ends = ap length grown_behind ∙ length-append (old ++ comma (is_some last)) (quoted k ++ inside);
    utf8 = u;
  }

  pub one_more : IsGathered (data'.put k d ds) front new news (up && above) (Some k)
  unfolding t inside one held_new
  one_more =
      let come = are.come in
      let back : reverse (come ++ one ∷ []) ≡ one ∷ reverse come = reverse-append come (one ∷ []) in
      let orders : ordered (come ++ one ∷ []) ≡ placed one (ordered come) = ap in_order back in
      let all : reverse news ≡ (place, length new) ∷ reverse places = ap reverse among ∙ reverse-append places ((place, length new) ∷ []) in
      record {
        come = come ++ one ∷ [];
        is = grown ∙ ap (λ l. l ++ (comma (is_some last) ++ one.1.1)) are.is
            ∙ append_assoc front (joined false (texts_of come)) (comma (is_some last) ++ one.1.1)
            ∙ ap (λ c. front ++ (joined false (texts_of come) ++ (comma c ++ one.1.1))) (are.some ∙ sym (after_texts come))
            ∙ ap (λ l. front ++ l) (sym (joined_more false (texts_of come) one.1.1) ∙ ap (joined false) (sym (texts_more come one)));
        outcomes_are = outcomes_put k d ds u are.utf8 ∙ ap (with_name k (whole_value d)) are.outcomes_are
            ∙ sym (values_with (λ x. x.0) k one.1 (ordered come)) ∙ ap (map outcome_of) (sym orders);
        entries_are = ap (map (entry_at new)) all
            ∙ ap₂ (λ e es. e ∷ es) (entry_held new (place, length new) held_new)
            (entries_stay old new (comma (is_some last) ++ (quoted k ++ inside)) grown (reverse places) are.held ∙ are.entries_are)
            ∙ ap (map spelled_of) (sym back);
        held = subst (AllByRecursion (IsHeld new)) (sym all)
            (held_new, all_stay old new (comma (is_some last) ++ (quoted k ++ inside)) grown (reverse places) are.held);
        spelled = subst (AllByRecursion IsSpelled) (sym orders) (all_placed_too IsSpelled one (ordered come) (u, t, refl, written.2) are.spelled);
        ascend = ascend_put k d ds are.ascend;
        utf8 = utf8_put k d ds u are.utf8;
        rising = λ e. let both = both_up up above e in up_more last come k one.1 (are.rising both.0) (higher both.1) orders;
        some = after_more come one;
      }

-- ---- all of them

ordered_spelled : (es : Coming) → in_order (map spelled_of es) ≡ map spelled_of (in_order es)
ordered_spelled [] = refl
ordered_spelled (e ∷ es) = ap (placed (spelled_of e)) (ordered_spelled es) ∙ sym (values_with (λ x. x.1) e.0 e.1 (in_order es))

texts_spelled : (es : Coming) → map (λ e. e.1) (map spelled_of es) ≡ texts_of es
texts_spelled [] = refl
texts_spelled (e ∷ es) = ap (λ l. e.1.1 ∷ l) (texts_spelled es)

module _ (ds : data'.Members) (front text : List ℕ) (places : List (ℕ × ℕ)) (up : Bool) (last : Option (List ℕ))
    (are : IsGathered ds front text places up last) where
  went_out : (out : List ℕ) → out ≡ front ++ joined false (texts_of (ordered are.come))
      → IsWritten MembersAreProper (canonical_members false) (whole_members ds) front out
  went_out out is =
      let es = ordered are.come in
      let all : whole_members ds ≡ all_whole (map outcome_of es) = whole_members_are ds are.utf8 are.ascend ∙ ap all_whole are.outcomes_are in
      let proper : IfSome (all_whole (map outcome_of es)) MembersAreProper =
      all_proper (map outcome_of es) (subst (λ l. IsStrictlySortedBy name_cmp (keys_of l)) are.outcomes_are (ascend_outcomes ds)) (proper_spelled es are.spelled) in
      subst (λ there. IsWritten MembersAreProper (canonical_members false) there front out) (sym all) (
        joined false (texts_of es),
        is,
        with_proper MembersAreProper (canonical_members false) (all_whole (map outcome_of es)) (joined false (texts_of es)) proper
            (all_spelled false es are.spelled),
      )

  -- in the order of the input
  pub came_up : up ≡ true → IsWritten MembersAreProper (canonical_members false) (whole_members ds) front text
  came_up is = went_out text (are.is ∙ ap (λ es. front ++ joined false (texts_of es)) (sym (are.rising is).1))

  -- sorted
  pub were_put : (out : List ℕ) (from : ℕ) → from ≡ length front
      → out ≡ take from text ++ joined false (map (λ e. e.1) (entries_in text places))
      → IsWritten MembersAreProper (canonical_members false) (whole_members ds) front out
  were_put out from at is =
      let begins = ap (take from) are.is ∙ take_at front (joined false (texts_of are.come)) from (sym at) in
      let texts = ap (λ es. map (λ e. e.1) (in_order es)) are.entries_are ∙ ap (map (λ e. e.1)) (ordered_spelled (reverse are.come)) ∙ texts_spelled (ordered are.come) in
      went_out out (is ∙ ap₂ (λ x ts. x ++ joined false ts) begins texts)
