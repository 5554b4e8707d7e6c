-- The order of names is total, and different names of UTF-8 never tie.
use Rattle.std.proofs.Common.{◌≡◌, ℕ, ◌+◌, ◌-◌, ◌/◌, ◌%◌, ◌≤◌, ◌<◌, Bool, true, false, cond, List, [], ◌∷◌, ◌++◌, Ordering, Less, Equal, Greater, is_eq, refl, sym, ap, ◌∙◌, arith, inl, inr, not, Some, None, Option, option_map, option_and_then, nat_cmp}
use Rattle.std.proofs.Math.Utf8.{scalar, scalars, scalar_cases, encodes}
use Rattle.std.proofs.lemmas.Bool.{not-true}
use Rattle.std.proofs.lemmas.Bool.Decides.{nat_tests}
use Rattle.std.proofs.lemmas.Cmp.{tied_itself}
use Rattle.std.proofs.lemmas.Map.Text.{is_eq-slice_cmp}
use Rattle.std.proofs.lemmas.Slice.Eq.{bytes_eq-Decides}
use Rattle.std.proofs.lemmas.Str.{encodes-chars, scalars-chars}
use Rattle.std.specs.Char.Escape.{encode_utf16}
use Rattle.std.specs.Cmp.{IsTotalOrder, first_so, second_so}
use Rattle.std.specs.Cmp.Lexicographic.{on_texts, slice_cmp}
use Rattle.std.specs.List.{flat_map}
use Rattle.std.specs.Ordering.{ordering_reverse, match_ordering}
use Rattle.std.specs.Prelude.{nat_lt, ◌⊎◌, ◌&&◌, ⊤}
use Rattle.std.specs.Str.{IsUtf8, chars}
use Rattle.json.proofs.Printed.Utf8.{are_ascii, IsUtf8-are_ascii}
use Rattle.serde_json.specs.Data as data'
use Rattle.st_plain.specs.Objects.{OthersStay, member_at, put, without}
use Rattle.st_plain.specs.Names.{utf16_units, name_cmp, is_name}
use Rattle.st_plain.specs.Plain.{Plain, Members, no_members, member, AllAbove, MembersAreProper}
use Rattle.st_plain.specs.Shapes.{whole_value, whole_members}

pub name_total : IsTotalOrder name_cmp
name_total = on_texts utf16_units

pub greater_from_less : (a b : List ℕ) → name_cmp a b ≡ Less → name_cmp b a ≡ Greater
greater_from_less a b lt = name_total.antisymm b a ∙ ap ordering_reverse lt

pub less_from_greater : (a b : List ℕ) → name_cmp a b ≡ Greater → name_cmp b a ≡ Less
less_from_greater a b gt = name_total.antisymm b a ∙ ap ordering_reverse gt

-- a property of an order, from all three cases
pub by_order : (P : Ordering → Type 0) (o : Ordering) → (o ≡ Less → P Less) → (o ≡ Equal → P Equal)
    → (o ≡ Greater → P Greater) → P o
by_order P Less less equal greater = less refl
by_order P Equal less equal greater = equal refl
by_order P Greater less equal greater = greater refl

-- where a third name is, if the first is below the second
pub data Around (k l m : List ℕ) : Type 0 where
  above_both : name_cmp k m ≡ Less → name_cmp l m ≡ Less → Around k l m
  at_second : name_cmp k m ≡ Less → name_cmp l m ≡ Equal → Around k l m
  between : name_cmp k m ≡ Less → name_cmp l m ≡ Greater → Around k l m
  at_first : name_cmp k m ≡ Equal → name_cmp l m ≡ Greater → Around k l m
  below_both : name_cmp k m ≡ Greater → name_cmp l m ≡ Greater → Around k l m

pub around : (k l m : List ℕ) → name_cmp k l ≡ Less → Around k l m
around k l m lt = by (name_cmp k m) (name_cmp l m) refl refl
  where
    by : (a b : Ordering) → name_cmp k m ≡ a → name_cmp l m ≡ b → Around k l m
    by Less Less a b = above_both a b
    by Less Equal a b = at_second a b
    by Less Greater a b = between a b
    by Equal Greater a b = at_first a b
    by Greater Greater a b = below_both a b
    by Equal Less a b = let c = name_total.congr k m l a in let d = name_total.antisymm m l ∙ ap ordering_reverse b in cc
    by Equal Equal a b = let c = name_total.congr k m l a in let d = name_total.antisymm m l ∙ ap ordering_reverse b in cc
    by Greater Less a b = let c = name_total.trans k l m lt b in cc
    by Greater Equal a b = let c = name_total.congr l m k b in let d = name_total.antisymm m k ∙ ap ordering_reverse a in let gt = greater_from_less k l lt in cc

pub tied_from_same : (a b : List ℕ) → a ≡ b → name_cmp a b ≡ Equal
tied_from_same a b same = ap (name_cmp a) (sym same) ∙ tied_itself name_total a

-- ---- different texts have different units

abbrev pair_of : ℕ → List ℕ
pair_of c = (55296 + (c - 65536) / 1024) ∷ (56320 + (c - 65536) % 1024) ∷ []

not_between : (c x : ℕ) → scalar c ≡ true → x < 1114112 → 65536 ≤ x → c ≡ 55296 + (x - 65536) / 1024 → ⊥
not_between c x s small large e = by (scalar_cases c s)
  where
    by : (c < 55296) ⊎ ((57344 ≤ c) × (c < 1114112)) → ⊥
    by (inl low) = omega arith
    by (inr high) = omega arith

below_all : (x : ℕ) → scalar x ≡ true → x < 1114112
below_all x s = by (scalar_cases x s)
  where
    by : (x < 55296) ⊎ ((57344 ≤ x) × (x < 1114112)) → x < 1114112
    by (inl low) = omega arith
    by (inr high) = high.1

first_tells : (c d : ℕ) (x y : List ℕ) → scalar c ≡ true → scalar d ≡ true
    → encode_utf16 c ++ x ≡ encode_utf16 d ++ y → (c ≡ d) × (x ≡ y)
first_tells c d x y u v same_units = by (nat_lt c 65536) (nat_lt d 65536) refl refl same_units
  where
    by : (s t : Bool) → nat_lt c 65536 ≡ s → nat_lt d 65536 ≡ t
        → cond s (c ∷ []) (pair_of c) ++ x ≡ cond t (d ∷ []) (pair_of d) ++ y → (c ≡ d) × (x ≡ y)
    by true true a b e = (cc, cc)
    by true false a b e =
        let large : 65536 ≤ d = grind (arith, nat_tests) in
        let same : c ≡ 55296 + (d - 65536) / 1024 = cc in
        absurd (not_between c d u (below_all d v) large same)
    by false true a b e =
        let large : 65536 ≤ c = grind (arith, nat_tests) in
        let same : d ≡ 55296 + (c - 65536) / 1024 = cc in
        absurd (not_between d c v (below_all c u) large same)
    by false false a b e =
        let large : 65536 ≤ c = grind (arith, nat_tests) in
        let large' : 65536 ≤ d = grind (arith, nat_tests) in
        let high : 55296 + (c - 65536) / 1024 ≡ 55296 + (d - 65536) / 1024 = cc in
        let low : 56320 + (c - 65536) % 1024 ≡ 56320 + (d - 65536) % 1024 = cc in
        (omega arith, cc)

no_units : (c : ℕ) (x : List ℕ) (s : Bool) → cond s (c ∷ []) (pair_of c) ++ x ≡ [] → ⊥
no_units c x true e = cc
no_units c x false e = cc

units_tell : (cs ds : List ℕ) → scalars cs ≡ true → scalars ds ≡ true
    → flat_map encode_utf16 cs ≡ flat_map encode_utf16 ds → cs ≡ ds
units_tell [] [] u v e = refl
units_tell [] (d ∷ ds) u v e = absurd (no_units d _ (nat_lt d 65536) (sym e))
units_tell (c ∷ cs) [] u v e = absurd (no_units c _ (nat_lt c 65536) e)
units_tell (c ∷ cs) (d ∷ ds) u v e =
    let x = flat_map encode_utf16 cs in
    let y = flat_map encode_utf16 ds in
    let h = first_tells c d x y (first_so (scalar c) (scalars cs) u) (first_so (scalar d) (scalars ds) v) e in
    let t = units_tell cs ds (second_so (scalar c) (scalars cs) u) (second_so (scalar d) (scalars ds) v) h.1 in
    let head : c ≡ d = h.0 in
    cc

pub same_from_tied : (a b : List ℕ) → IsUtf8 a → IsUtf8 b → name_cmp a b ≡ Equal → a ≡ b
same_from_tied a b u v tied =
    let x = utf16_units a in
    let y = utf16_units b in
    let units : x ≡ y = (bytes_eq-Decides x y).0 (sym (is_eq-slice_cmp x y) ∙ ap is_eq tied) in
    let spelled = units_tell (chars a) (chars b) (scalars-chars a u) (scalars-chars b v) units in
    sym (encodes-chars a u) ∙ ap encodes spelled ∙ encodes-chars b v

-- ---- the test of a name

pub same_from_is_name : (a b : List ℕ) → is_name a b ≡ true → a ≡ b
same_from_is_name a b e = (bytes_eq-Decides a b).0 e

pub is_name_from_same : (a b : List ℕ) → a ≡ b → is_name a b ≡ true
is_name_from_same a b same = (bytes_eq-Decides a b).1 same

pub not_name_from_apart : (a b : List ℕ) → (a ≡ b → ⊥) → is_name a b ≡ false
not_name_from_apart a b apart = by (is_name a b) refl
  where
    by : (t : Bool) → is_name a b ≡ t → is_name a b ≡ false
    by true e = absurd (apart (same_from_is_name a b e))
    by false e = e

-- names of which one is above the other differ
pub not_name_from_less : (a b : List ℕ) → name_cmp a b ≡ Less → is_name a b ≡ false
not_name_from_less a b lt = not_name_from_apart a b (λ same. let tied = tied_from_same a b same in cc)

pub not_name_from_greater : (a b : List ℕ) → name_cmp a b ≡ Greater → is_name a b ≡ false
not_name_from_greater a b gt = not_name_from_apart a b (λ same. let tied = tied_from_same a b same in cc)

-- ---- Lookups by name in an object after a member is put or removed, over plain values.

-- the member put is found
pub member_at-put_same : (name : List ℕ) (p : Plain) (ms : Members) → member_at name (put name p ms) ≡ Some p
member_at-put_same name p no_members = rw (is_name_from_same name name refl) refl
member_at-put_same name p (member n q ms) =
    by_order (λ o. member_at name (match_ordering o (member name p (member n q ms)) (member name p ms) (member n q (put name p ms))) ≡ Some p) (name_cmp name n)
    (λ is. rw (is_name_from_same name name refl) refl)
    (λ is. rw (is_name_from_same name name refl) refl)
    (λ is. rw (not_name_from_greater name n is) (member_at-put_same name p ms))

-- a name that ties with the one put equals it
other_name : (other name n : List ℕ) → IsUtf8 other → IsUtf8 name → is_name other name ≡ false
    → name_cmp name n ≡ Equal → is_name other n ≡ false
other_name other name n u v differ tied = not_name_from_apart other n (λ same.
    let same' : name ≡ other = same_from_tied name other v u (ap (name_cmp name) same ∙ tied) in
    let named : is_name other name ≡ true = is_name_from_same other name (sym same') in
    cc)

-- other members stay
pub member_at-put_other : (other name : List ℕ) (p : Plain) (ms : Members) → IsUtf8 other → IsUtf8 name
    → is_name other name ≡ false → member_at other (put name p ms) ≡ member_at other ms
member_at-put_other other name p no_members u v differ = rw differ refl
member_at-put_other other name p (member n q ms) u v differ =
    by_order (λ o. member_at other (match_ordering o (member name p (member n q ms)) (member name p ms) (member n q (put name p ms))) ≡ member_at other (member n q ms))
    (name_cmp name n)
    (λ is. rw differ refl)
    (λ is. rw (differ, other_name other name n u v differ is) refl)
    (λ is. ap (cond (is_name other n) (Some q)) (member_at-put_other other name p ms u v differ))

-- the same for two ASCII names; it computes if they are literals
pub member_at-put_literal : (other name : List ℕ) (p : Plain) (ms : Members)
    → (are_ascii other && (are_ascii name && not (is_name other name))) ≡ true
    → member_at other (put name p ms) ≡ member_at other ms
member_at-put_literal other name p ms apart =
    let rest = second_so (are_ascii other) (are_ascii name && not (is_name other name)) apart in
    let u = IsUtf8-are_ascii other (first_so (are_ascii other) (are_ascii name && not (is_name other name)) apart) in
    let v = IsUtf8-are_ascii name (first_so (are_ascii name) (not (is_name other name)) rest) in
    member_at-put_other other name p ms u v (not-true (is_name other name) (second_so (are_ascii name) (not (is_name other name)) rest))

-- the member removed is gone
pub member_at-without_same : (name : List ℕ) (ms : Members) → member_at name (without name ms) ≡ None
member_at-without_same name no_members = refl
member_at-without_same name (member n q ms) =
    elim (is_name name n) as (λ t. is_name name n ≡ t → member_at name (cond t (without name ms) (member n q (without name ms))) ≡ None) [
      | true ↦ λ is. member_at-without_same name ms
      | false ↦ λ is. rw is (member_at-without_same name ms)
    ] refl

-- other members stay
pub member_at-without_other : (other name : List ℕ) (ms : Members) → is_name other name ≡ false
    → member_at other (without name ms) ≡ member_at other ms
member_at-without_other other name no_members differ = refl
member_at-without_other other name (member n q ms) differ =
    elim (is_name name n) as (λ t. is_name name n ≡ t → member_at other (cond t (without name ms) (member n q (without name ms)))
    ≡ member_at other (member n q ms)) [
      | true ↦ λ is.
          let not : is_name other n ≡ false = ap (is_name other) (sym (same_from_is_name name n is)) ∙ differ in
          rw not (member_at-without_other other name ms differ)
      | false ↦ λ is. ap (cond (is_name other n) (Some q)) (member_at-without_other other name ms differ)
    ] refl

-- ---- all names but one

pub others_stay_put : (name : List ℕ) (p : Plain) (ms : Members) → IsUtf8 name → OthersStay name ms (put name p ms)
others_stay_put name p ms v = λ other u apart. member_at-put_other other name p ms u v (not_name_from_apart other name apart)

pub others_stay_without : (name : List ℕ) (ms : Members) → OthersStay name ms (without name ms)
others_stay_without name ms = λ other u apart. member_at-without_other other name ms (not_name_from_apart other name apart)

-- each name is found as before, after a put or a removal
pub ruleset by_name = (member_at-put_same, member_at-put_literal, member_at-without_same, member_at-without_other)

-- ---- Names that are literals, as `codes "type"`.

-- The order of names compares code units, which `chars` of std decodes, and a proof does not unfold that by itself.
-- If `names_on_literals` is named in `unfolding(..)` on a function, or in an `unfolding` line of a lemma, it does:
-- `put`, `object_of` and `member_at` then compute at literals, so members may be put in any order.
unfoldable pub names_on_literals : ⊤
unfolding chars
names_on_literals = tt

-- ---- Members put one after another, in any order.

-- ---- two puts at different names commute

lower_first : (k l : List ℕ) (p q : Plain) (f : Members) → name_cmp k l ≡ Less
    → put k p (put l q f) ≡ put l q (put k p f)
lower_first k l p q no_members lt = let gt = greater_from_less k l lt in simp (lt, gt) refl
lower_first k l p q (member m r f) lt =
    let gt = greater_from_less k l lt in
    let ih = lower_first k l p q f lt in elim (around k l m lt) [
      | above_both a b ↦ simp (a, b, lt, gt) refl
      | at_second a b ↦ simp (a, b, lt, gt) refl
      | between a b ↦ simp (a, b, gt) refl
      | at_first a b ↦ simp (a, b, gt) refl
      | below_both a b ↦ simp (a, b) (ap (member m r) ih)
    ]

swapped_by : (k l : List ℕ) (p q : Plain) (f : Members) (o : Ordering) → name_cmp k l ≡ o → (o ≡ Equal → ⊥)
    → put k p (put l q f) ≡ put l q (put k p f)
swapped_by k l p q f Less is apart = lower_first k l p q f is
swapped_by k l p q f Equal is apart = absurd (apart refl)
swapped_by k l p q f Greater is apart = sym (lower_first l k q p f (less_from_greater k l is))

swapped : (k l : List ℕ) (p q : Plain) (f : Members) → (name_cmp k l ≡ Equal → ⊥)
    → put k p (put l q f) ≡ put l q (put k p f)
swapped k l p q f apart = swapped_by k l p q f _ refl apart

-- ---- members in another order

-- no member has a name that ties with this one
abbrev pub IsFresh : List ℕ → data'.Members → Type 0
IsFresh k data'.no_members = Unit {0}
IsFresh k (data'.member l e ds) = (name_cmp k l ≡ Equal → ⊥) × IsFresh k ds

tied_from_bytes : (k l : List ℕ) → slice_cmp nat_cmp k l ≡ Equal → name_cmp k l ≡ Equal
tied_from_bytes k l is = tied_from_same k l ((bytes_eq-Decides k l).0 (sym (is_eq-slice_cmp k l) ∙ ap is_eq is))

pub fresh_put : (k l : List ℕ) (d : data'.Data) (ds : data'.Members) → (name_cmp k l ≡ Equal → ⊥) → IsFresh k ds
    → IsFresh k (data'.put l d ds)
fresh_put k l d data'.no_members apart h = (apart, tt)
fresh_put k l d (data'.member m e ds) apart h =
    by_order (λ o. IsFresh k (match_ordering o (data'.member l d (data'.member m e ds)) (data'.member m d ds) (data'.member m e (data'.put l d ds)))) (slice_cmp nat_cmp l m)
    (λ is. (apart, h)) (λ is. h) (λ is. (h.0, fresh_put k l d ds apart h.1))

put_inside : (k l : List ℕ) (p : Plain) (e : Option Plain) (o : Option Members) → (name_cmp k l ≡ Equal → ⊥)
    → option_and_then (λ q. option_map (put l q) (option_map (put k p) o)) e ≡ option_map (put k p) (option_and_then (λ q. option_map (put l q) o) e)
put_inside k l p None o apart = refl
put_inside k l p (Some q) None apart = refl
put_inside k l p (Some q) (Some f) apart = ap Some (sym (swapped k l p q f apart))

-- a member inserted among the data is inserted in the plain value too
pub whole_put : (k : List ℕ) (d : data'.Data) (p : Plain) (ds : data'.Members) → whole_value d ≡ Some p → IsFresh k ds
    → whole_members (data'.put k d ds) ≡ option_map (put k p) (whole_members ds)
whole_put k d p data'.no_members w h = rw w refl
whole_put k d p (data'.member l e ds) w h =
    by_order (λ o. whole_members (match_ordering o (data'.member k d (data'.member l e ds)) (data'.member l d ds) (data'.member l e (data'.put k d ds)))
    ≡ option_map (put k p) (whole_members (data'.member l e ds))) (slice_cmp nat_cmp k l)
    (λ is. rw w refl) (λ is. absurd (h.0 (tied_from_bytes k l is)))
    (λ is.
    ap (λ there. option_and_then (λ q. option_map (put l q) there) (whole_value e)) (whole_put k d p ds w h.1)
    ∙ put_inside k l p (whole_value e) (whole_members ds) h.0)

abbrev pub AllFresh : Members → data'.Members → Type 0
AllFresh no_members ds = Unit {0}
AllFresh (member k p ms) ds = IsFresh k ds × AllFresh ms ds

pub all_fresh : (ms : Members) → AllFresh ms data'.no_members
all_fresh no_members = tt
all_fresh (member k p ms) = (tt, all_fresh ms)

apart_from_less : (k l : List ℕ) → name_cmp k l ≡ Less → name_cmp l k ≡ Equal → ⊥
apart_from_less k l lt is = let gt = greater_from_less k l lt in cc

pub all_fresh_put : (ms : Members) (k : List ℕ) (d : data'.Data) (ds : data'.Members) → AllAbove k ms → AllFresh ms ds
    → AllFresh ms (data'.put k d ds)
all_fresh_put no_members k d ds above h = tt
all_fresh_put (member l p ms) k d ds above h =
    (fresh_put l k d ds (apart_from_less k l above.0) h.0, all_fresh_put ms k d ds above.1 h.1)

-- ---- members that ascend, put one after another

abbrev pub adds : Members → Members → Members
adds no_members f = f
adds (member k p ms) f = adds ms (put k p f)

adds_after : (k : List ℕ) (p : Plain) (ms f : Members) → AllAbove k ms → adds ms (put k p f) ≡ put k p (adds ms f)
adds_after k p no_members f above = refl
adds_after k p (member l q ms) f above =
    ap (adds ms) (swapped l k q p f (apart_from_less k l above.0)) ∙ adds_after k p ms (put l q f) above.1

put_first : (k : List ℕ) (p : Plain) (ms : Members) → AllAbove k ms → put k p ms ≡ member k p ms
put_first k p no_members above = refl
put_first k p (member l q ms) above = rw above.0 refl

pub adds_all : (ms : Members) → MembersAreProper ms → adds ms no_members ≡ ms
adds_all no_members h = refl
adds_all (member k p ms) h = adds_after k p ms no_members h.1 ∙ ap (put k p) (adds_all ms h.3) ∙ put_first k p ms h.1
