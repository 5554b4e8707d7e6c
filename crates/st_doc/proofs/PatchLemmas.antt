-- Steps that were read, and those still to be read.
use Rattle.std.proofs.Common.{List, ◌++◌, Option, option_map, ◌≡◌, ℕ, ◌+◌, [], ◌∷◌, Bool, Some, None, Result, Ok, Err, refl, ap, sym, ◌∙◌, zero, suc, ◌<◌, nat_eq, true, false, cond, length, take, drop, set, get_or, map, filter, add-one, arith, ◌≤◌, not, Bor}
use Rattle.std.proofs.Math.ListN.{get_or-map as get_or-plain}
use Rattle.std.proofs.lemmas.Bool.Decides.{nat_tests}
use Rattle.std.proofs.lemmas.Cmp.{nat_list_cmp_total, on_total}
use Rattle.std.proofs.lemmas.List.{map-set, take-map, drop-map, length-map}
use Rattle.std.proofs.lemmas.Map.Made.{distinct_count-le}
use Rattle.std.proofs.lemmas.Map.Text.{is_eq-slice_cmp}
use Rattle.std.specs.Cmp.{IsTotalOrder}
use Rattle.std.specs.Cmp.Lexicographic.{slice_cmp}
use Rattle.std.specs.List.{list_all, list_any}
use Rattle.std.specs.Ordering.{nat_cmp, eq_by_cmp}
use Rattle.std.specs.Prelude.{◌&&◌, is_some, ok_or, ◌||◌, bytes_eq}
use Rattle.std.specs.Result.{result_ok}
use Rattle.std.specs.Set.{distinct_count, unique_keys}
use Rattle.std.specs.declared.cmp.Ordering.{Ordering}
use Rattle.st_base.specs.Answers.{◌>>=◌}
use Rattle.st_base.specs.Lists.{each_of, has_twice}
use Rattle.st_plain.specs.Plain.{Plain}
use Rattle.st_canon.specs.View.{plain}
use Rattle.st_canon.specs.declared.value.Json.{Json}
use Rattle.st_hash.specs.Hash.{HashValue}
use Rattle.st_params.specs.ParamsValue.{ParamsValue}
use Rattle.st_jsonpatch.specs.Step.{PlainStep, step_of}
use Rattle.st_doc.specs.Alike.{is_among, none_twice}
use Rattle.st_doc.specs.Delta.{PlainDelta, delta_of, outer_of, patches_of}
use Rattle.st_doc.specs.Patch.{added, PlainPatch, patch_of}
use Rattle.st_doc.specs.declared.delta.DeltaRefused.{DeltaRefused}
use Rattle.st_doc.specs.declared.delta.DeltaRefused.TheVariants.{BadPatch}

abbrev pub steps_in : List Plain → Option (List PlainStep)
steps_in values = each_of (λ value. result_ok (step_of value)) values

-- the steps so far, followed by those of the others
abbrev pub steps_after : List PlainStep → List Plain → Option (List PlainStep)
steps_after read values = option_map (λ more. read ++ more) (steps_in values)

-- ---- Patches that were read, and those still to be read.

-- the patches so far, followed by those of the others
abbrev pub patches_after : List PlainPatch → Result (List PlainPatch) DeltaRefused → Result (List PlainPatch) DeltaRefused
patches_after read rest = do
  more ← rest
  Ok (read ++ more)

abbrev with_update : HashValue → List PlainPatch → PlainDelta
with_update update patches = record { patches = patches; update = update }

-- a value built from what was read is there if that was read
made : {A B : Type 0} (read : Result A DeltaRefused) (f : A → B) → is_some (result_ok (read >>= (λ a. Ok (f a)))) ≡ is_some (result_ok read)
made (Ok a) f = refl
made (Err refusal) f = refl

one_more : {A B : Type 0} (there : Option A) (refusal : DeltaRefused) (next : A → Result B DeltaRefused) (test : Bool)
    → ((a : A) → is_some (result_ok (next a)) ≡ test) → is_some (result_ok (ok_or there refusal >>= next)) ≡ (is_some there && test)
one_more (Some a) refusal next test each = each a
one_more None refusal next test each = refl

-- patches are read if each value is one
each_is_patch : (limits : ParamsValue) (i : ℕ) (values : List Plain)
    → is_some (result_ok (patches_of limits i values)) ≡ list_all (λ value. is_some (patch_of limits value)) values
each_is_patch limits i [] = refl
each_is_patch limits i (value ∷ values) =
    one_more (patch_of limits value) (BadPatch i) _ (list_all (λ v. is_some (patch_of limits v)) values)
    (λ patch. made (patches_of limits (i + 1) values) (λ patches. patch ∷ patches) ∙ each_is_patch limits (i + 1) values)

-- a value with the outer form of a delta is one if each of its values is a patch
pub is_by_patches : (limits : ParamsValue) (delta : Plain) (values : List Plain) (update : HashValue) → outer_of limits delta ≡ Ok (values, update)
    → list_all (λ value. is_some (patch_of limits value)) values ≡ is_some (result_ok (delta_of limits delta))
unfolding delta_of
is_by_patches limits delta values update outer =
    sym (each_is_patch limits 0 values) ∙ sym (made (patches_of limits 0 values) (with_update update))
    ∙ ap (λ (o : Result (List Plain × HashValue) DeltaRefused). is_some (result_ok (o >>= (λ both. patches_of limits 0 both.0 >>= (λ patches. Ok (with_update both.1 patches)))))) (sym outer)

-- ---- Lists of entries that are filtered, or changed one after another.

-- filtering commutes with taking plain values
pub filter-plain : (keep : Plain → Bool) (values : List Json)
    → map plain (filter (λ value. keep (plain value)) values) ≡ filter keep (map plain values)
filter-plain keep [] = refl
filter-plain keep (value ∷ values) =
    elim (keep (plain value)) as (λ kept. map plain (cond kept (value ∷ filter (λ v. keep (plain v)) values) (filter (λ v. keep (plain v)) values))
    ≡ cond kept (plain value ∷ filter keep (map plain values)) (filter keep (map plain values))) [
      | true ↦ ap (λ rest. plain value ∷ rest) (filter-plain keep values)
      | false ↦ filter-plain keep values
    ]

-- a filter that keeps all
all_kept : (values : List Plain) → filter (λ value. true) values ≡ values
all_kept [] = refl
all_kept (value ∷ values) = ap (λ rest. value ∷ rest) (all_kept values)

-- entries added to none are the whole list
pub added_to_none : (new : List Plain) (entries : List Json) → nat_eq (length entries) 0 ≡ true → new ≡ added new (map plain entries)
unfolding added
added_to_none new [] none = sym (all_kept new)
added_to_none new (entry ∷ entries) none = absurd (grind (arith, nat_tests))

-- the first entry not yet changed is the original one
seam : (change : Plain → Plain) (start : List Plain) (at : ℕ) (none : Plain) → at < length start
    → get_or (map change (take at start) ++ drop at start) at none ≡ get_or start at none
seam change [] at none inside = absurd (omega arith)
seam change (p ∷ ps) zero none inside = refl
seam change (p ∷ ps) (suc at) none inside = seam change ps at none (omega arith)

set_seam : (change : Plain → Plain) (start : List Plain) (at : ℕ) (none : Plain) → at < length start
    → set (map change (take at start) ++ drop at start) at (change (get_or start at none))
    ≡ map change (take (suc at) start) ++ drop (suc at) start
set_seam change [] at none inside = absurd (omega arith)
set_seam change (p ∷ ps) zero none inside = refl
set_seam change (p ∷ ps) (suc at) none inside = ap (λ rest. change p ∷ rest) (set_seam change ps at none (omega arith))

-- the entries below a place are changed
pub record IsChangedBelow (change : Plain → Plain) (start entries : List Json) (at : ℕ) : Type 0 where
  pub changed : map plain entries ≡ map change (map plain (take at start)) ++ map plain (drop at start)
  pub inside : at < length start

-- one more entry is changed
pub one_effect_more : {change : Plain → Plain} {start entries : List Json} {at : ℕ} → IsChangedBelow change start entries at
    → (none new : Json) → plain new ≡ change (plain (get_or entries at none))
    → map plain (set entries at new) ≡ map change (map plain (take (at + 1) start)) ++ map plain (drop (at + 1) start)
one_effect_more {change} {start} {entries} {at} below none new is =
    let parts : map plain entries ≡ map change (take at (map plain start)) ++ drop at (map plain start)
    = below.changed ∙ rw (take-map plain at start, drop-map plain at start) refl in
    let short : at < length (map plain start) = omega (arith, length-map start plain, below.inside) in
    let was : plain (get_or entries at none) ≡ get_or (map plain start) at (plain none)
    = sym (get_or-plain plain entries at none) ∙ ap (λ l. get_or l at (plain none)) parts ∙ seam change (map plain start) at (plain none) short in
    map-set plain entries at new ∙ ap (λ l. set l at (plain new)) parts
    ∙ ap (λ p. set (map change (take at (map plain start)) ++ drop at (map plain start)) at p) (is ∙ ap change was)
    ∙ set_seam change (map plain start) at (plain none) short
    ∙ rw (add-one at, take-map plain (suc at) start, drop-map plain (suc at) start) refl

-- ---- All texts differ if and only if there are as many different ones as texts.

-- texts in order
abbrev pub text_cmp : Bor (List ℕ) → Bor (List ℕ) → Ordering
text_cmp first second = slice_cmp nat_cmp first.now second.now

pub text_cmp-total : IsTotalOrder text_cmp
text_cmp-total = on_total (λ text. text.now) nat_list_cmp_total

any-now : (text : Bor (List ℕ)) (texts : List (Bor (List ℕ)))
    → list_any (eq_by_cmp text_cmp text) texts ≡ is_among (map (λ t. t.now) texts) text.now
any-now text [] = refl
any-now text (other ∷ texts) = rw (is_eq-slice_cmp text.now other.now, any-now text texts) refl

same_count : (m n : ℕ) → nat_eq (suc m) (suc n) ≡ nat_eq m n
same_count m n = grind (arith, nat_tests)

fewer : (m n : ℕ) → m ≤ n → nat_eq m (suc n) ≡ false
fewer m n h = grind (arith, nat_tests)

counted : (texts : List (Bor (List ℕ)))
    → nat_eq (distinct_count (eq_by_cmp text_cmp) texts) (length texts) ≡ none_twice (map (λ t. t.now) texts)
counted [] = refl
counted (text ∷ texts) =
    (elim (list_any (eq_by_cmp text_cmp text) texts) as (λ found. nat_eq (length (cond found (unique_keys (eq_by_cmp text_cmp) texts) (text ∷ unique_keys (eq_by_cmp text_cmp) texts))) (suc (length texts)) ≡ not (found || has_twice bytes_eq (map (λ t. t.now) texts))) [
      | true ↦ fewer (distinct_count (eq_by_cmp text_cmp) texts) (length texts) (distinct_count-le (eq_by_cmp text_cmp) texts)
      | false ↦ same_count (distinct_count (eq_by_cmp text_cmp) texts) (length texts) ∙ counted texts
    ]) ∙ ap (λ found. not (found || has_twice bytes_eq (map (λ t. t.now) texts))) (any-now text texts)

pub none_twice-count : (texts : List (Bor (List ℕ))) (n : ℕ) → n ≡ distinct_count (eq_by_cmp text_cmp) texts
    → nat_eq n (length texts) ≡ none_twice (map (λ t. t.now) texts)
none_twice-count texts n is = ap (λ different. nat_eq different (length texts)) is ∙ counted texts
