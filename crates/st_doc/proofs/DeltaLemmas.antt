-- The entries of a list, and of another value.
use Rattle.std.proofs.Common.{◌≡◌, true, false, Option, Some, None, option_map, unwrap_or, [], refl, ℕ, ◌+◌, ◌-◌, ◌<◌, ◌≤◌, ◌^◌, max, Bool, nat_le, ◌∷◌, ◌++◌, length, arith, length-append, List, codes, Result, Ok, Err}
use Rattle.std.proofs.lemmas.Bool.Decides.{nat_tests}
use Rattle.std.specs.Prelude.{is_some, ◌&&◌, ok_or}
use Rattle.std.specs.Result.{result_ok}
use Rattle.st_base.specs.Answers.{◌>>=◌, ◌>>◌, holds_or}
use Rattle.st_plain.specs.Plain.{canonical, canonical_items, canonical_members, comma, quoted, Plain, Items, null, boolean, whole, text, list, object, no_items, item, Members, no_members, member}
use Rattle.st_plain.specs.Measures.{depth_of, items_depth, members_depth, fits, size_of}
use Rattle.st_plain.specs.Objects.{entries, items_in, list_in}
use Rattle.st_plain.specs.Shapes.{entries_in, both_members}
use Rattle.st_hash.specs.Hash.{HashValue}
use Rattle.st_params.specs.ParamsValue.{ParamsValue}
use Rattle.st_doc.specs.Delta.{delta_of, hash_in, outer_of}
use Rattle.st_doc.specs.declared.delta.DeltaRefused.{DeltaRefused}
use Rattle.st_doc.specs.declared.delta.DeltaRefused.TheVariants.{BadDelta, TooLong}

some_items : (there : Option Items) → is_some there ≡ true → Some (unwrap_or (option_map entries there) []) ≡ option_map entries there
some_items (Some items) is = refl
some_items None is = absurd cc

not_there : (there : Option Items) → is_some there ≡ false → None ≡ option_map entries there
not_there (Some items) is = absurd cc
not_there None is = refl

pub listed : (p : Plain) → is_some (items_in p) ≡ true → Some (entries_in (Some p)) ≡ list_in p
listed p is = some_items (items_in p) is

pub not_listed : (p : Plain) → is_some (items_in p) ≡ false → None ≡ list_in p
not_listed p is = not_there (items_in p) is

-- ---- The depth of a value is at most the length of its canonical text, or 1 for a scalar.

mutual
  shallow : (p : Plain) → depth_of p ≤ max 1 (length (canonical p))
  shallow null = omega arith
  shallow (boolean b) = omega arith
  shallow (whole z) = omega arith
  shallow (text t) = omega arith
  shallow (list ps) =
      omega (arith, shallow_items false ps, length-append (canonical_items false ps) (93 ∷ []))
  shallow (object ms) =
      omega (arith, shallow_members false ms, length-append (canonical_members false ms) (125 ∷ []))

  shallow_items : (b : Bool) (ps : Items) → items_depth ps ≤ length (canonical_items b ps) + 1
  shallow_items b no_items = omega arith
  shallow_items b (item p ps) =
      let rest = canonical_items true ps in
      omega (arith, shallow p, shallow_items true ps, length-append (comma b) (canonical p ++ rest), length-append (canonical p) rest)

  shallow_members : (b : Bool) (ms : Members) → members_depth ms ≤ length (canonical_members b ms) + 1
  shallow_members b no_members = omega arith
  shallow_members b (member name p ms) =
      let rest = canonical_members true ms in
      omega (
        arith,
        shallow p,
        shallow_members true ms,
        length-append (comma b) (quoted name ++ (58 ∷ (canonical p ++ rest))),
        length-append (quoted name) (58 ∷ (canonical p ++ rest)),
        length-append (canonical p) rest,
      )

bounded : (depth size most : ℕ) → depth ≤ max 1 size → most < 2 ^ 64
    → nat_le depth (2 ^ 64 - 1) && nat_le size most ≡ nat_le size most
bounded depth size most shallow fits = grind (arith, nat_tests)

-- if the bound on the size fits in 64 bits, it implies a bound on the depth
pub fits_by_size : (p : Plain) (most : ℕ) → most < 2 ^ 64 → fits (2 ^ 64 - 1) most p ≡ nat_le (size_of p) most
fits_by_size p most held = bounded (depth_of p) (length (canonical p)) most (shallow p) held

-- ---- Properties of deltas, and of values that are too long: for the crates above.

-- a value that is a delta
abbrev pub IsDelta : ParamsValue → Plain → Type 0
IsDelta limits delta = is_some (result_ok (delta_of limits delta)) ≡ true

-- if the steps after a test give a value, the test holds and they give it without the test
passed : {A : Type 0} (test : Bool) (refusal : DeltaRefused) (next : Result A DeltaRefused)
    → is_some (result_ok (holds_or test refusal >> next)) ≡ true → (test ≡ true) × (is_some (result_ok next) ≡ true)
passed true refusal next some = (refl, some)
passed false refusal next some = absurd cc

-- a consequence of the steps after one that may give nothing is one of all
behind : {A B : Type 0} {P : Type 0} (there : Option A) (refusal : DeltaRefused) (next : A → Result B DeltaRefused)
    → ((x : A) → is_some (result_ok (next x)) ≡ true → P) → is_some (result_ok (ok_or there refusal >>= next)) ≡ true → P
behind (Some x) refusal next follows some = follows x some
behind None refusal next follows some = absurd cc

within : (n most : ℕ) → nat_le n most ≡ true → n ≤ most
within n most e = grind (arith, nat_tests)

beyond : (n most : ℕ) → most < n → nat_le n most ≡ false
beyond n most more = grind (arith, nat_tests)

-- ---- the remaining steps of a delta

abbrev Outer : Type 0
Outer = Result (List Plain × HashValue) DeltaRefused

abbrev behind_depth : Plain × Plain → HashValue → Outer
behind_depth both update = ok_or (list_in both.0) BadDelta >>= (λ values. Ok (values, update))

abbrev behind_commitment : Plain → Plain × Plain → HashValue → Outer
behind_commitment delta both update = holds_or (nat_le (depth_of delta) 64) BadDelta >> behind_depth both update

abbrev behind_form : ParamsValue → Plain → Plain × Plain → Outer
behind_form limits delta both = ok_or (hash_in limits.version both.1) BadDelta >>= behind_commitment delta both

abbrev both_of : Plain → Option (Plain × Plain)
both_of delta = both_members (codes "patches") (codes "updateCommitment") (Some delta)

abbrev behind_size : ParamsValue → Plain → Outer
behind_size limits delta = ok_or (both_of delta) BadDelta >>= behind_form limits delta

-- ---- properties of a delta

behind_refused : {A B : Type 0} (first : Result A DeltaRefused) (next : A → Result B DeltaRefused) (refusal : DeltaRefused)
    → first ≡ Err refusal → first >>= next ≡ Err refusal
behind_refused (Ok a) next refusal is = absurd cc
behind_refused (Err other) next refusal is = cc

first_gave : {A B : Type 0} (first : Result A DeltaRefused) (next : A → Result B DeltaRefused)
    → is_some (result_ok (first >>= next)) ≡ true → is_some (result_ok first) ≡ true
first_gave (Ok a) next some = refl
first_gave (Err refusal) next some = absurd cc

sized : (limits : ParamsValue) (delta : Plain) → IsDelta limits delta
    → (nat_le (size_of delta) limits.max_delta ≡ true) × (is_some (result_ok (behind_size limits delta)) ≡ true)
unfolding delta_of outer_of
sized limits delta is = passed (nat_le (size_of delta) limits.max_delta) TooLong (behind_size limits delta) (first_gave _ _ is)

-- its canonical text has at most this many bytes
pub delta_size : (limits : ParamsValue) (delta : Plain) → IsDelta limits delta → size_of delta ≤ limits.max_delta
delta_size limits delta is = within (size_of delta) limits.max_delta (sized limits delta is).0

-- it nests at most 64 deep
pub delta_depth : (limits : ParamsValue) (delta : Plain) → IsDelta limits delta → depth_of delta ≤ 64
delta_depth limits delta is =
    behind (both_of delta) BadDelta (behind_form limits delta)
    (λ both formed. behind (hash_in limits.version both.1) BadDelta (behind_commitment delta both)
    (λ update more. within (depth_of delta) 64 (passed (nat_le (depth_of delta) 64) BadDelta (behind_depth both update) more).0)
    formed)
    (sized limits delta is).1

-- a longer value is refused
pub long_refused : (limits : ParamsValue) (delta : Plain) → limits.max_delta < size_of delta → delta_of limits delta ≡ Err TooLong
unfolding delta_of outer_of
long_refused limits delta more = rw (beyond (size_of delta) limits.max_delta more) refl

-- a value that is short enough but nests deeper is refused
pub deep_refused : (limits : ParamsValue) (delta : Plain) → nat_le (size_of delta) limits.max_delta ≡ true
    → nat_le (depth_of delta) 64 ≡ false → delta_of limits delta ≡ Err BadDelta
unfolding delta_of outer_of
deep_refused limits delta short deep = rw (short, deep) (behind_refused _ _ _ (formed (both_of delta)))
  where
    committed : (both : Plain × Plain) (update : Option HashValue)
        → ok_or update BadDelta >>= (λ u. holds_or false BadDelta >> behind_depth both u) ≡ Err BadDelta
    committed both (Some update) = refl
    committed both None = refl

    formed : (there : Option (Plain × Plain))
        → ok_or there BadDelta >>= (λ both. ok_or (hash_in limits.version both.1) BadDelta >>= (λ u. holds_or false BadDelta >> behind_depth both u)) ≡ Err BadDelta
    formed (Some both) = committed both (hash_in limits.version both.1)
    formed None = refl
