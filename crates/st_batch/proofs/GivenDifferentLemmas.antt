-- Suffixes that all differ still do after operations are put into groups: by how often a hash is among them.
use Rattle.std.proofs.Common.{◌≡◌, ◌∙◌, ℕ, ◌+◌, ◌≤◌, Bool, true, false, cond, List, [], ◌∷◌, ◌++◌, refl, ap, arith}
use Rattle.std.specs.Prelude.{◌||◌}
use Rattle.std.specs.List.{list_any}
use Rattle.std.proofs.lemmas.Bool.{or_parts}
use Rattle.st_base.specs.Lists.{has_twice, shares_one}
use Rattle.st_hash.specs.Hash.{HashValue, same_hash}
use Rattle.st_hash.proofs.HashLemmas.{same_hash-is, same_hash-itself}
use Rattle.st_ops.specs.Operation.{PlainOperation, creating, updating, recovering, deactivating}
use Rattle.st_batch.specs.Groups.{Grouped, grouped}
use Rattle.st_batch.specs.Queue.{suffixes_of}

-- how often a hash is among hashes
abbrev pub times : HashValue → List HashValue → ℕ
times hash [] = 0
times hash (other ∷ others) = cond (same_hash hash other) 1 0 + times hash others

-- each hash is among them at most once
abbrev pub AreOnce : List HashValue → Type 0
AreOnce hashes = (hash : HashValue) → times hash hashes ≤ 1

pub times-append : (hash : HashValue) (xs ys : List HashValue) → times hash (xs ++ ys) ≡ times hash xs + times hash ys
times-append hash [] ys = omega arith
times-append hash (x ∷ xs) ys = omega (arith, times-append hash xs ys)

-- ---- once, and never twice

none_there : (hash : HashValue) (hashes : List HashValue) → list_any (same_hash hash) hashes ≡ false → times hash hashes ≡ 0
none_there hash [] none = refl
none_there hash (other ∷ others) none = elim (same_hash hash other) as
    (λ same. (same || list_any (same_hash hash) others) ≡ false → cond same 1 0 + times hash others ≡ 0) [
      | true ↦ λ is. absurd cc
      | false ↦ λ is. omega (arith, none_there hash others is)
    ] none

some_there : (hash : HashValue) (hashes : List HashValue) → list_any (same_hash hash) hashes ≡ true → 1 ≤ times hash hashes
some_there hash [] some = absurd cc
some_there hash (other ∷ others) some = elim (same_hash hash other) as
    (λ same. (same || list_any (same_hash hash) others) ≡ true → 1 ≤ cond same 1 0 + times hash others) [
      | true ↦ λ is. omega arith
      | false ↦ λ is. omega (arith, some_there hash others is)
    ] some

not_any : (hash : HashValue) (hashes : List HashValue) (any : Bool) → list_any (same_hash hash) hashes ≡ any → times hash hashes ≡ 0 → any ≡ false
not_any hash hashes true is none = absurd (omega (arith, none, some_there hash hashes is))
not_any hash hashes false is none = refl

-- if none appears twice, each appears at most once
pub once : (hashes : List HashValue) → has_twice same_hash hashes ≡ false → AreOnce hashes
once [] different hash = omega arith
once (one ∷ more) different hash =
    let parts = or_parts (list_any (same_hash one) more) (has_twice same_hash more) different in
    elim (same_hash hash one) as (λ same. same_hash hash one ≡ same → cond same 1 0 + times hash more ≤ 1) [
      | true ↦ λ is.
          let here : times hash more ≡ 0 = ap (λ h. times h more) (same_hash-is hash one is) ∙ none_there one more parts.0 in
          omega (arith, here)
      | false ↦ λ is. omega (arith, once more parts.1 hash)
    ] refl

first_times : (one : HashValue) (more : List HashValue) → times one (one ∷ more) ≡ 1 + times one more
first_times one more = rw (same_hash-itself one) refl

-- and conversely
pub different : (hashes : List HashValue) → AreOnce hashes → has_twice same_hash hashes ≡ false
different [] are = refl
different (one ∷ more) are =
    let none : times one more ≡ 0 = omega (arith, are one, first_times one more) in
    let here = not_any one more (list_any (same_hash one) more) refl none in
    rw here (different more (λ hash. omega (arith, are hash)))

-- none of the first is among the second, if no hash appears twice among all
pub apart : (xs ys : List HashValue) → ((hash : HashValue) → times hash xs + times hash ys ≤ 1) → shares_one same_hash xs ys ≡ false
apart [] ys are = refl
apart (x ∷ xs) ys are =
    let none : times x ys ≡ 0 = omega (arith, are x, first_times x xs) in
    let here = not_any x ys (list_any (same_hash x) ys) refl none in
    rw here (apart xs ys (λ hash. omega (arith, are hash)))

-- ---- operations in groups

module _ (hash : HashValue) where
  -- how often the hash is the suffix of one of these
  abbrev pub named : List PlainOperation → ℕ
  named operations = times hash (suffixes_of operations)

  abbrev pub named_in_groups : Grouped → ℕ
  named_in_groups groups = named groups.creates + (named groups.recovers + (named groups.deactivates + named groups.updates))

  pub grouped_times : (operations : List PlainOperation) → named operations ≡ named_in_groups (grouped operations)
  unfolding grouped
  grouped_times [] = refl
  grouped_times (creating suffix_data delta ∷ more) = omega (arith, grouped_times more)
  grouped_times (updating target proof delta ∷ more) = omega (arith, grouped_times more)
  grouped_times (recovering target proof delta ∷ more) = omega (arith, grouped_times more)
  grouped_times (deactivating target proof ∷ more) = omega (arith, grouped_times more)
