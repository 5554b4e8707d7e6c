-- Numbers and literals end before a byte that may follow a value, and contain no mark.
use Rattle.std.proofs.Common.{◌≡◌, ◌∙◌, ℕ, suc, ◌+◌, ◌<◌, ◌≤◌, ◌/◌, ◌%◌, ◌^◌, Bool, true, false, not, List, [], ◌∷◌, ◌++◌, length, codes, refl, arith, length-append}
use Rattle.std.specs.Prelude.{ℤ, pos, negsuc, ◌&&◌, ◌==◌}
use Rattle.std.specs.Fmt.{decimal, signed_decimal}
use Rattle.std.specs.List.{list_all}
use Rattle.std.proofs.lemmas.Bool.{and_parts}
use Rattle.std.proofs.lemmas.Bool.Decides.{nat_tests}
use Rattle.std.proofs.lemmas.Fmt.{decimal_by_steps}
use Rattle.std.proofs.lemmas.Int.{ints}
use Rattle.std.proofs.lemmas.List.Folds.{list_all-append}
use Rattle.st_plain.specs.Plain.{IsWhole}
use Rattle.st_plain.specs.ReadAgain.{opens, closes, follows, can_follow}
use Rattle.st_plain.specs.inside.Walk.{outside, behind_brackets, behind_scalar, behind_value}

-- neither a mark nor a byte that may follow a value
abbrev pub is_inner : ℕ → Bool
is_inner b = not (b == 34) && (not (opens b) && not (follows b))

-- some bytes, all inner
pub record IsScalar (bytes : List ℕ) : Type 0 where
  pub inner : list_all is_inner bytes ≡ true
  pub some : 0 < length bytes

-- ---- numbers

is_inner-digit : (b : ℕ) → 45 ≤ b → b < 58 → is_inner b ≡ true
is_inner-digit b low high = grind (arith, nat_tests)

both_true : (s t : Bool) → s ≡ true → t ≡ true → (s && t) ≡ true
both_true s t a b = rw (a, b) refl

abbrev IsScalarOf : ℕ → List ℕ → Type 0
IsScalarOf n digits = IsScalar digits

one_digit : (n : ℕ) → n < 10 → IsScalarOf n ((48 + n) ∷ [])
one_digit n small = record {
  inner = both_true _ true (is_inner-digit (48 + n) (omega arith) (omega arith)) refl;
  some = omega arith;
}

more_digits : (n : ℕ) (digits : List ℕ) → 10 ≤ n → IsScalarOf (n / 10) digits → IsScalarOf n (digits ++ ((48 + n % 10) ∷ []))
more_digits n digits great digits_so =
    let last = both_true _ true (is_inner-digit (48 + n % 10) (omega arith) (omega arith)) refl in
    record {
      inner = list_all-append is_inner digits ((48 + n % 10) ∷ []) ∙ both_true (list_all is_inner digits) _ digits_so.inner last;
      some = omega (arith, length-append digits ((48 + n % 10) ∷ []), digits_so.some);
    }

scalar_decimal : (n : ℕ) → n < 2 ^ 64 → IsScalar (decimal n)
scalar_decimal = decimal_by_steps IsScalarOf one_digit more_digits

pub scalar_whole : (z : ℤ) → IsWhole z → IsScalar (signed_decimal z)
scalar_whole (pos n) whole = scalar_decimal n (omega (arith, ints, whole.1))
scalar_whole (negsuc n) whole =
    let digits = scalar_decimal (suc n) (omega (arith, ints, whole.0)) in
    record { inner = both_true _ _ (is_inner-digit 45 (omega arith) (omega arith)) digits.inner; some = omega arith }

-- ---- literals

pub scalar_null : IsScalar (codes "null")
scalar_null = record { inner = refl; some = omega arith }

pub scalar_true : IsScalar (codes "true")
scalar_true = record { inner = refl; some = omega arith }

pub scalar_false : IsScalar (codes "false")
scalar_false = record { inner = refl; some = omega arith }

-- ---- where they end

not_follows : (b : ℕ) → is_inner b ≡ true → follows b ≡ false
not_follows b inner = grind (arith, nat_tests)

pub not_quote : (b : ℕ) → is_inner b ≡ true → (b == 34) ≡ false
not_quote b inner = grind (arith, nat_tests)

pub not_list : (b : ℕ) → is_inner b ≡ true → (b == 91) ≡ false
not_list b inner = grind (arith, nat_tests)

pub not_object : (b : ℕ) → is_inner b ≡ true → (b == 123) ≡ false
not_object b inner = grind (arith, nat_tests)

pub not_closing_list : (b : ℕ) → is_inner b ≡ true → (b == 93) ≡ false
not_closing_list b inner = grind (arith, nat_tests)

not_opens : (b : ℕ) → is_inner b ≡ true → opens b ≡ false
not_opens b inner = grind (arith, nat_tests)

not_closes : (b : ℕ) → is_inner b ≡ true → closes b ≡ false
not_closes b inner = grind (arith, nat_tests)

behind_inner : (bytes rest : List ℕ) → list_all is_inner bytes ≡ true → can_follow rest ≡ true
    → behind_scalar (bytes ++ rest) ≡ rest
unfolding behind_scalar
behind_inner [] [] inner follow = refl
behind_inner [] (b ∷ rest) inner follow = rw follow refl
behind_inner (b ∷ bytes) rest inner follow =
    let parts = and_parts (is_inner b) (list_all is_inner bytes) inner in
    rw (not_follows b parts.0) (behind_inner bytes rest parts.1 follow)

pub behind_value-scalar : (bytes rest : List ℕ) → IsScalar bytes → can_follow rest ≡ true → behind_value (bytes ++ rest) ≡ rest
unfolding behind_value
behind_value-scalar [] rest scalar follow = absurd (omega (arith, scalar.some))
behind_value-scalar (b ∷ bytes) rest scalar follow =
    let parts = and_parts (is_inner b) (list_all is_inner bytes) scalar.inner in
    rw (not_quote b parts.0, not_opens b parts.0) (behind_inner (b ∷ bytes) rest scalar.inner follow)

-- among brackets inner bytes do not count
brackets_inner : (depth : ℕ) (bytes rest : List ℕ) → list_all is_inner bytes ≡ true
    → behind_brackets depth outside (bytes ++ rest) ≡ behind_brackets depth outside rest
unfolding behind_brackets
brackets_inner depth [] rest inner = refl
brackets_inner depth (b ∷ bytes) rest inner =
    let parts = and_parts (is_inner b) (list_all is_inner bytes) inner in
    rw (not_quote b parts.0, not_opens b parts.0, not_closes b parts.0) (brackets_inner depth bytes rest parts.1)

pub brackets-scalar : (depth : ℕ) (bytes rest : List ℕ) → IsScalar bytes
    → behind_brackets depth outside (bytes ++ rest) ≡ behind_brackets depth outside rest
brackets-scalar depth bytes rest scalar = brackets_inner depth bytes rest scalar.inner
