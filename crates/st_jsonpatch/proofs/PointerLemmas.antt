-- Tokens that are an index, and the items they select.
use Rattle.std.proofs.Common.{◌≡◌, ℕ, ◌<◌, ◌≤◌, ◌^◌, ◌==◌, true, false, cond, List, [], ◌∷◌, length, set, nat_le, Option, Some, None, option_map, option_and_then, refl, ap, sym, ◌∙◌, arith, Bool}
use Rattle.std.proofs.lemmas.Bool.Decides.{nat_tests}
use Rattle.std.proofs.lemmas.Option.{cond_some, option_and_then_some, slice_get-map, slice_get_past}
use Rattle.std.proofs.lemmas.Str.Parse.{IsNumeralModel, numerals_by_value, tells_all_ascii_digits}
use Rattle.std.specs.List.{slice_get, insert, remove}
use Rattle.std.specs.Prelude.{◌&&◌, bytes_eq}
use Rattle.std.specs.Str.{all_ascii_digits}
use Rattle.std.specs.Str.Parse.{digits_value}
use Rattle.st_plain.specs.Objects.{member_at, put, without, entries}
use Rattle.st_plain.specs.Plain.{Plain, null, boolean, whole, text, list, object}
use Rattle.st_canon.proofs.TreeLemmas.{entries-plain_items, length-entries, plain_items-insert, plain_items-remove, plain_items-set}
use Rattle.st_canon.specs.View.{plain, plain_items}
use Rattle.st_canon.specs.declared.value.Json.{Json}
use Rattle.st_jsonpatch.specs.Pointer.{index_of, is_index, item_at, at, selected}
use Rattle.st_jsonpatch.specs.Edited.{at_most, inserted, place_in, with_item, without_item, parent_after, edited, inside, put_back, take_out}
use Rattle.st_jsonpatch.specs.Stepped.{is_above}

pub digits : IsNumeralModel (λ ds. all_ascii_digits ds ≡ true) (digits_value 10)
digits = numerals_by_value _ tells_all_ascii_digits

pub is_index-parts : (bs : List ℕ) → is_index bs ≡ true → (all_ascii_digits bs ≡ true) × (0 < length bs)
is_index-parts [] is = cc
is_index-parts (b ∷ []) is = (is, omega arith)
is_index-parts (b ∷ c ∷ bs) is = elim (b == 48) as (λ t. cond t false (all_ascii_digits (b ∷ c ∷ bs)) ≡ true → (all_ascii_digits (b ∷ c ∷ bs) ≡ true) × (0 < length (b ∷ c ∷ bs))) [
  | true ↦ λ h. cc
  | false ↦ λ h. (h, omega arith)
] is

-- an index that does not fit in 64 bits is above each number that does
pub large_index : (bs : List ℕ) (most : ℕ) → is_index bs ≡ true → ((digits_value 10 bs < 2 ^ 64) → ⊥) → most < 2 ^ 64
    → None ≡ option_and_then (at_most most) (index_of bs)
large_index bs most is large fits =
    let above : nat_le (digits_value 10 bs) most ≡ false = elim (nat_le (digits_value 10 bs) most) as (λ t. nat_le (digits_value 10 bs) most ≡ t → t ≡ false) [
      | true ↦ λ le. absurd (large (grind (arith, nat_tests)))
      | false ↦ λ le. refl
    ] refl in
    rw (is, above) refl

pub index_from_read : (token : List ℕ) (most at : ℕ) → Some at ≡ option_and_then (at_most most) (index_of token) → index_of token ≡ Some at
index_from_read token most at read =
    option_and_then_some (at_most most) (index_of token) at (sym read) (λ i is found. is ∙ ap Some (cond_some (nat_le i most) i at found).1)

module _ (token : List ℕ) (values : List Json) where
  pub item_selected : (at : ℕ) → Some at ≡ option_and_then (at_most (length values)) (index_of token)
      → option_map plain (slice_get values at) ≡ item_at token (plain_items values)
  item_selected at read =
      sym (slice_get-map plain values at) ∙ ap (λ l. slice_get l at) (sym (entries-plain_items values))
      ∙ ap (λ o. option_and_then (slice_get (entries (plain_items values))) o) (sym (index_from_read token (length values) at read))

  pub item_changed : (at : ℕ) (new : Json) → Some at ≡ option_and_then (at_most (length values)) (index_of token)
      → plain_items (set values at new) ≡ with_item token (plain new) (plain_items values)
  item_changed at new read = plain_items-set values at new ∙ rw (index_from_read token (length values) at read) refl

  pub no_item : None ≡ option_and_then (at_most (length values)) (index_of token) → None ≡ item_at token (plain_items values)
  no_item none = go (index_of token) none
    where
      go : (o : Option ℕ) → None ≡ option_and_then (at_most (length values)) o → None ≡ option_and_then (slice_get (entries (plain_items values))) o
      go None e = refl
      go (Some i) e = elim (nat_le i (length values)) as (λ t. nat_le i (length values) ≡ t → None ≡ cond t (Some i) None → None ≡ slice_get (entries (plain_items values)) i) [
        | true ↦ λ is h. cc
        | false ↦ λ is h. sym (slice_get_past (entries (plain_items values)) i (let past : length values ≤ i = grind (arith, nat_tests) in omega (arith, length-entries values)))
      ] refl e

  pub item_out : (at : ℕ) (item : Json) → Some at ≡ option_and_then (at_most (length values)) (index_of token)
      → slice_get values at ≡ Some item → item_at token (plain_items values) ≡ Some (plain item)
  item_out at item read there = sym (item_selected at read) ∙ ap (option_map plain) there

  pub item_removed : (at : ℕ) (item : Json) → Some at ≡ option_and_then (at_most (length values)) (index_of token)
      → slice_get values at ≡ Some item
      → option_map (λ _. without_item token (plain_items values)) (item_at token (plain_items values)) ≡ Some (plain_items (remove values at))
  item_removed at item read there =
      ap (option_map (λ _. without_item token (plain_items values))) (item_out at item read there)
      ∙ ap Some (rw (index_from_read token (length values) at read) (sym (plain_items-remove values at)))

  pub no_item_past : (at : ℕ) → Some at ≡ option_and_then (at_most (length values)) (index_of token) → length values ≤ at
      → None ≡ item_at token (plain_items values)
  no_item_past at read past = ap (option_map plain) (sym (slice_get_past values at past)) ∙ item_selected at read

  pub item_inserted : (at : ℕ) (new : Json) → Some at ≡ place_in (length values) token
      → inserted token (plain new) (plain_items values) ≡ Some (plain_items (insert values at new))
  item_inserted at new place =
      let there : place_in (length (entries (plain_items values))) token ≡ Some at = ap (λ n. place_in n token) (length-entries values) ∙ sym place in
      rw there (ap Some (sym (plain_items-insert values at new)))

  pub not_inserted : (new : Json) → None ≡ place_in (length values) token → inserted token (plain new) (plain_items values) ≡ None
  not_inserted new place =
      let there : place_in (length (entries (plain_items values))) token ≡ None = ap (λ n. place_in n token) (length-entries values) ∙ sym place in
      rw there refl

-- ---- Paths, token by token.

and_false : (b : Bool) → b && false ≡ false
and_false true = refl
and_false false = refl

-- a path that is not longer does not lead into the value
pub not_above : (from path : List (List ℕ)) → length path ≤ length from → is_above from path ≡ false
not_above from [] le = refl
not_above [] (token ∷ path) le = absurd (omega arith)
not_above (first ∷ from) (token ∷ path) le = ap (λ b. bytes_eq first token && b) (not_above from path (omega arith)) ∙ and_false (bytes_eq first token)

pub above_all : (path : List (List ℕ)) → 0 < length path → is_above [] path ≡ true
above_all [] some = absurd (omega arith)
above_all (token ∷ path) some = refl

nothing_put_back : {P : Type 0} (back : Plain → P) (change : Plain → Option Plain) (there : Option Plain)
    → ((q : Plain) → there ≡ Some q → change q ≡ None) → put_back back change there ≡ None
nothing_put_back back change None none = refl
nothing_put_back back change (Some q) none = ap (option_map back) (none q refl)

nothing_inside : (token : List ℕ) (change : Plain → Option Plain) (p : Plain)
    → ((q : Plain) → selected token p ≡ Some q → change q ≡ None) → inside token change p ≡ None
nothing_inside token change (list ps) none = ap (option_map list) (nothing_put_back (λ new. with_item token new ps) change (item_at token ps) none)
nothing_inside token change (object ms) none = ap (option_map object) (nothing_put_back (λ new. put token new ms) change (member_at token ms) none)
nothing_inside token change null none = refl
nothing_inside token change (boolean b) none = refl
nothing_inside token change (whole z) none = refl
nothing_inside token change (text t) none = refl

nothing_after : (token : List ℕ) (p : Plain) → selected token p ≡ None → parent_after take_out token p ≡ None
nothing_after token (list ps) none = ap (λ o. option_map list (option_map (λ _. without_item token ps) o)) none
nothing_after token (object ms) none = ap (λ o. option_map object (option_map (λ _. without token ms) o)) none
nothing_after token null none = refl
nothing_after token (boolean b) none = refl
nothing_after token (whole z) none = refl
nothing_after token (text t) none = refl

-- after the last token the entry itself is next
pub last_token : (entry : Option Plain) → option_and_then (at []) entry ≡ entry
last_token None = refl
last_token (Some p) = refl

last_none : (o : Option Plain) → option_and_then (at []) o ≡ None → o ≡ None
last_none None none = refl
last_none (Some p) none = cc

-- a missing entry is not removed
pub nothing_taken : (token : List ℕ) (path : List (List ℕ)) (p : Plain) → at (token ∷ path) p ≡ None → edited take_out token path p ≡ None
nothing_taken token [] p none = nothing_after token p (last_none (selected token p) none)
nothing_taken token (next ∷ path) p none =
    nothing_inside token (edited take_out next path) p (λ q is. nothing_taken next path q (sym (ap (option_and_then (at (next ∷ path))) is) ∙ none))
