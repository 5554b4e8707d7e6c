-- Texts that are split at a separator, and lists that are split at a place.
use Rattle.std.proofs.Common.{◌≡◌, ◌∙◌, ℕ, suc, ◌+◌, ◌==◌, nat_lt, ◌<◌, ◌≤◌, cond, not, Bool, true, false, Option, List, [], ◌∷◌, ◌++◌, length, take, drop, get_or, position, Some, None, option_map, sym, ap, subst, refl, add-one, drop-cons, length-append, arith, ◌^◌, nat_le}
use Rattle.std.proofs.Math.Seq.{take-append_seam, drop-append-add}
use Rattle.std.proofs.lemmas.Bool.{eqb-true, eq-eqb, false_from_ne_true}
use Rattle.std.proofs.lemmas.Bool.Decides.{nat_tests}
use Rattle.std.proofs.lemmas.Fmt.{decimal_is_IsNumeral}
use Rattle.std.proofs.lemmas.List.{take-append-drop, take_all, take_at, drop_at}
use Rattle.std.proofs.lemmas.List.Quantifiers.{position-Some}
use Rattle.std.proofs.lemmas.List.Sums.{position_or_len_is}
use Rattle.std.proofs.lemmas.Option.{cond_some}
use Rattle.std.specs.Cmp.Lexicographic.{bytes_decides}
use Rattle.std.specs.Fmt.{decimal}
use Rattle.std.specs.List.{position_or_len}
use Rattle.std.specs.Str.Parse.{digits_value}
use Rattle.memchr.specs.Find.{IsFirstByte, Nowhere, Passes, is_byte}
use Rattle.st_base.specs.Texts.{HasNo, cut_at, number_of}

-- a place without a passing byte before it is the first
first_place : (separator : ℕ) (text : List ℕ) (at : ℕ) → at ≤ length text → Nowhere (Passes (is_byte separator) text) 0 at
    → (at < length text → Passes (is_byte separator) text at) → position_or_len (λ byte. byte == separator) text ≡ at
first_place separator text at within before here =
    position_or_len_is (λ byte. byte == separator) text at 0 within (λ k below. false_from_ne_true _ (before k (omega arith) below)) here

-- a search for the separator finds its first place
pub found-position : (separator : ℕ) (text : List ℕ) (found : Option ℕ) → IsFirstByte (is_byte separator) text found
    → found ≡ position (λ byte. byte == separator) text
found-position separator text None none =
    let at = first_place separator text (length text) (omega arith) none (λ past. absurd (omega arith)) in
    let past : nat_lt (length text) (length text) ≡ false = grind (arith, nat_tests) in
    rw (at, past) refl
found-position separator text (Some at) first =
    let place = first_place separator text at (omega (arith, first.0.high)) first.0.before (λ within. first.1) in
    let within : nat_lt at (length text) ≡ true = grind (arith, nat_tests, first.0.high) in
    rw (place, within) refl

-- a text is the bytes before its first separator, the separator, and the bytes after it
pub around : (separator : ℕ) (text : List ℕ) (at : ℕ) → position (λ byte. byte == separator) text ≡ Some at
    → text ≡ take at text ++ separator ∷ drop (at + 1) text
around separator text at found =
    let facts = position-Some (λ byte. byte == separator) text at 0 found in
    let is_separator : get_or text at 0 ≡ separator = eqb-true (get_or text at 0) separator facts.1 in
    let split : drop at text ≡ separator ∷ drop (suc at) text = drop-cons text at 0 facts.0 ∙ ap (λ byte. byte ∷ drop (suc at) text) is_separator in
    sym (take-append-drop at text) ∙ ap (λ behind. take at text ++ behind) split ∙ rw add-one refl

-- the bytes before the first separator, or all if there is none, have none
has_none_before : (separator : ℕ) (text : List ℕ) → HasNo separator (take (position_or_len (λ byte. byte == separator) text) text)
has_none_before separator [] = tt
has_none_before separator (x ∷ xs) =
    let n = position_or_len (λ byte. byte == separator) xs in
    let one : 1 + n ≡ suc n = omega arith in
    elim (x == separator) as (λ is. (x == separator) ≡ is → HasNo separator (take (cond (not is) (1 + n) 0) (x ∷ xs))) [
      | true ↦ λ is. tt
      | false ↦ λ is. rw one (is, has_none_before separator xs)
    ] refl

-- the part before the first separator has none
pub has_none-first : (separator : ℕ) (text : List ℕ) (at : ℕ) → position (λ byte. byte == separator) text ≡ Some at
    → HasNo separator (take at text)
has_none-first separator text at found =
    subst (λ n. HasNo separator (take n text)) (cond_some _ _ at found).1 (has_none_before separator text)

-- a text without a first separator has none
pub has_none-whole : (separator : ℕ) (text : List ℕ) → position (λ byte. byte == separator) text ≡ None → HasNo separator text
has_none-whole separator text none =
    let at = position_or_len (λ byte. byte == separator) text in
    let past : length text ≤ at = not_found (nat_lt at (length text)) at refl none in
    subst (HasNo separator) (take_all at text past) (has_none_before separator text)
  where
    not_found : (b : Bool) (at : ℕ) → nat_lt at (length text) ≡ b → cond b (Some at) None ≡ None → length text ≤ at
    not_found true at is none = cc
    not_found false at is none = grind (arith, nat_tests)

first_separator : (separator : ℕ) (before behind : List ℕ) → HasNo separator before
    → position_or_len (λ byte. byte == separator) (before ++ separator ∷ behind) ≡ length before
first_separator separator [] behind none = rw (eq-eqb separator separator refl) refl
first_separator separator (x ∷ xs) behind none = rw (none.0, first_separator separator xs behind none.1) (omega arith)

-- a joined text is split at the joint
pub cut_at-append : (separator : ℕ) (before behind : List ℕ) → HasNo separator before
    → cut_at separator (before ++ separator ∷ behind) ≡ Some (before, behind)
cut_at-append separator before behind none =
    let whole = before ++ separator ∷ behind in
    let at = first_separator separator before behind none in
    let long : length whole ≡ length before + 1 + length behind = omega (arith, length-append before (separator ∷ behind)) in
    let within : nat_lt (length before) (length whole) ≡ true = grind (arith, nat_tests) in
    let found : position (λ byte. byte == separator) whole ≡ Some (length before) = rw (at, within) refl in
    let cut : cut_at separator whole ≡ Some (take (length before) whole, drop (length before + 1) whole) = ap (option_map (λ at. (take at whole, drop (at + 1) whole))) found in
    cut ∙ rw (take-append_seam before (separator ∷ behind), drop-append-add before (separator ∷ behind) 1) refl

-- two ways to split a list at one place are the same
pub record SameCut {X : Type 0} (front back front' back' : List X) : Type 0 where
  pub front_is : front ≡ front'
  pub back_is : back ≡ back'

-- two splits of one list whose second parts have the same length are the same
pub same_cut : {X : Type 0} (front back front' back' : List X) → front ++ back ≡ front' ++ back'
    → length back ≡ length back' → SameCut front back front' back'
same_cut front back front' back' whole long =
    let fronts : length front ≡ length front' = omega (arith, ap length whole, length-append front back, length-append front' back') in
    record {
      front_is = sym (take_at front back (length front) refl) ∙ ap (take (length front)) whole ∙ take_at front' back' (length front) (sym fronts);
      back_is = sym (drop_at front back (length front) refl) ∙ ap (drop (length front)) whole ∙ drop_at front' back' (length front) (sym fronts);
    }

-- ---- Numbers by their decimal text.

pub number_of-decimal : (most number : ℕ) (text : List ℕ) → number ≤ most → number < 2 ^ 64 → text ≡ decimal number
    → number_of most text ≡ Some number
number_of-decimal most number text small fits spelled =
    let value : digits_value 10 (decimal number) ≡ number = (decimal_is_IsNumeral number fits).1 in
    let below : nat_le number most ≡ true = grind (arith, nat_tests) in
    rw (spelled, value, below, (bytes_decides (decimal number) (decimal number)).1 refl) refl
