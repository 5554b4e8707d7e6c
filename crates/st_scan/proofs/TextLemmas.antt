-- From a text to its value, and back.
use Rattle.std.proofs.Common.{◌≡◌, ◌∙◌, ℕ, List, Ok, ap, sym, subst, ◌+◌, ◌-◌, ◌<◌, ◌≤◌, Bool, true, false, [], ◌∷◌, ◌++◌, length, take, refl, arith, length-append}
use Rattle.std.proofs.Math.Seq.{take-append_seam}
use Rattle.std.proofs.lemmas.List.Folds.{list_any-append}
use Rattle.std.specs.List.{flat_map, list_any}
use Rattle.std.specs.Prelude.{◌==◌, ◌||◌}
use Rattle.st_base.specs.Texts.{HasNo}
use Rattle.st_plain.proofs.WalkLemmas.{back_within, nests_of_read, IsEscape, bare, short, long, escape_is}
use Rattle.st_plain.specs.Plain.{escape, quoted, Plain}
use Rattle.st_plain.specs.ReadAgain.{IsReadAgain, value_read}
use Rattle.st_plain.specs.Shapes.{json_of}
use Rattle.st_scan.specs.Standing.{IsText, IsTextOf, value_of}

read_value : (text : List ℕ) (value : Plain) → IsTextOf text value → json_of text ≡ Ok value
read_value text value is = ap json_of (sym is.spelled) ∙ back_within value is.proper is.shallow

pub value_of-text : (text : List ℕ) (value : Plain) → IsTextOf text value → value_of text ≡ value
unfolding value_of
value_of-text text value is = ap value_read (read_value text value is)

pub is_text : (text : List ℕ) (value : Plain) → IsTextOf text value → IsText text
is_text text value is = subst (IsTextOf text) (sym (value_of-text text value is)) is

pub text_from_read : (text : List ℕ) → IsReadAgain text → IsText text
unfolding value_of
text_from_read text read = record {
  proper = read.0;
  shallow = nests_of_read text (value_read (json_of text)) read.1;
  spelled = read.2;
}

pub read_from_text : (text : List ℕ) → IsText text → IsReadAgain text
unfolding value_of
read_from_text text is = (is.proper, read_value text (value_of text) is, is.spelled)

-- ---- A text is written unchanged if and only if its written form has no backslash.

pub last_dropped : (bytes front : List ℕ) (b n : ℕ) → n ≡ length bytes - 1 → bytes ≡ front ++ b ∷ [] → take n bytes ≡ front
last_dropped bytes front b n size parts =
    let same : n ≡ length front = omega (arith, ap length parts, length-append front (b ∷ [])) in
    ap (λ m. take m bytes) same ∙ ap (take (length front)) parts ∙ take-append_seam front (b ∷ [])

-- the rest of a written text after its first mark
pub inside_of : (left word bytes : List ℕ) → bytes ≡ 34 ∷ left → bytes ≡ quoted word → left ≡ flat_map escape word ++ 34 ∷ []
inside_of left word bytes parts is = cc

-- ---- no backslash

one_bare : (b : ℕ) (bytes rest : List ℕ) → IsEscape b bytes → HasNo 92 (bytes ++ rest) → (bytes ≡ b ∷ []) × HasNo 92 rest
one_bare b bytes rest (bare _ quote back) none = (refl, none.1)
one_bare b bytes rest (short _ c) none = absurd (let wrong : (92 == 92) ≡ false = none.0 in cc)
one_bare b bytes rest (long _ h l high low) none = absurd (let wrong : (92 == 92) ≡ false = none.0 in cc)

pub all_bare : (word : List ℕ) → HasNo 92 (flat_map escape word) → flat_map escape word ≡ word
all_bare [] none = refl
all_bare (b ∷ word) none =
    let first = one_bare b (escape b) (flat_map escape word) (escape_is b) none in
    ap (λ bytes. bytes ++ flat_map escape word) first.0 ∙ ap (λ others. b ∷ others) (all_bare word first.1)

-- ---- a backslash

one_longer : (b : ℕ) (bytes : List ℕ) → IsEscape b bytes → (1 ≤ length bytes) × (list_any (λ x. x == 92) bytes ≡ true → 1 < length bytes)
one_longer b bytes (bare _ quote back) = (omega arith, λ some. absurd (let wrong = rw back at some in cc))
one_longer b bytes (short _ c) = (omega arith, λ _. omega arith)
one_longer b bytes (long _ h l high low) = (omega arith, λ _. omega arith)

no_shorter : (word : List ℕ) → length word ≤ length (flat_map escape word)
no_shorter [] = omega arith
no_shorter (b ∷ word) = omega (arith, no_shorter word, (one_longer b (escape b) (escape_is b)).0, length-append (escape b) (flat_map escape word))

longer_here : (b : ℕ) (word : List ℕ) (later : list_any (λ x. x == 92) (flat_map escape word) ≡ true → length word < length (flat_map escape word))
    (t : Bool) → list_any (λ x. x == 92) (escape b) ≡ t → (t || list_any (λ x. x == 92) (flat_map escape word)) ≡ true
    → length (b ∷ word) < length (escape b) + length (flat_map escape word)
longer_here b word later true here some = omega (arith, no_shorter word, (one_longer b (escape b) (escape_is b)).1 here)
longer_here b word later false none some = omega (arith, later some, (one_longer b (escape b) (escape_is b)).0)

longer : (word : List ℕ) → list_any (λ x. x == 92) (flat_map escape word) ≡ true → length word < length (flat_map escape word)
longer [] some = cc
longer (b ∷ word) some =
    let parts = sym (list_any-append (λ x. x == 92) (escape b) (flat_map escape word)) ∙ some in
    let here = longer_here b word (longer word) (list_any (λ x. x == 92) (escape b)) refl parts in
    omega (arith, here, length-append (escape b) (flat_map escape word))

or_true : (t : Bool) → (t || true) ≡ true
or_true true = refl
or_true false = refl

backslash_among : (front behind : List ℕ) → list_any (λ x. x == 92) (front ++ 92 ∷ behind) ≡ true
backslash_among [] behind = refl
backslash_among (b ∷ front) behind = rw (backslash_among front behind) (or_true (b == 92))

pub not_bare : (word front behind : List ℕ) → flat_map escape word ≡ front ++ 92 ∷ behind → flat_map escape word ≡ word → ⊥
not_bare word front behind parts same =
    let large = longer word (ap (list_any (λ x. x == 92)) parts ∙ backslash_among front behind) in
    omega (arith, large, ap length same)
