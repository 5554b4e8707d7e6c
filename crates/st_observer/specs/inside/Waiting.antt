use Rattle.std.specs.Prelude.{◌≡◌, ◌≢◌, ℕ, ◌==◌, ◌≤◌, Bool, true, ◌&&◌, bytes_eq, length, if◌then◌else◌, List, map, Some}
use Rattle.std.specs.BTreeSet.{BTreeSet}
use Rattle.std.specs.Cmp.{IsEquivalence, IsPartialOrder, IsTotalOrder, on_equiv, on_total, po}
use Rattle.std.specs.Cmp.Lexicographic.{nat_list_cmp_total, nat_list_eq_equiv, texts_ties}
use Rattle.std.specs.List.{AllByRecursion}
use Rattle.std.specs.Ordering.{as_partial_cmp, eq_by_cmp}
use Rattle.st_anchor.specs.declared.part.RoleState.{RoleState}
use Rattle.st_hash.specs.Hash.{HashValue, hash_of_text_at, hash_text}
use Rattle.st_observer.specs.Observed.{one_misses, text_cmp, Waits, is_waiting}

-- An entry with these role states waits for exactly the files that its roles miss.
abbrev pub WaitsBy : ℕ → List RoleState → Waits → Type 0
WaitsBy n states waits = (uri : HashValue) → is_waiting uri n waits ≡ one_misses uri states

-- Now this entry waits for the files that its roles in these states miss, and every other entry waits as before.
pub record TurnsTo (n : ℕ) (states : List RoleState) (old new : Waits) : Type 0 where
  pub own : WaitsBy n states new
  pub others : (uri : HashValue) (m : ℕ) → m ≢ n → is_waiting uri m new ≡ is_waiting uri m old

-- some entry waits for the file of this URI
abbrev pub IsWaitedFor : HashValue → Waits → Type 0
IsWaitedFor uri waits = (n : ℕ) × (is_waiting uri n waits ≡ true)

-- ---- the stored form

-- Reading its text, in the version with both algorithms, gives the hash back. So two such hashes with one text are
-- equal.
abbrev pub IsRead : HashValue → Type 0
IsRead hash = hash_of_text_at 2 (hash_text hash) ≡ Some hash

-- and so does that of each file for which some entry waits
abbrev pub AreRead : Waits → Type 0
AreRead waits = (uri : HashValue) → IsWaitedFor uri waits → IsRead uri

-- a stored row: the URI is read from its text, and some entry waits for its file
pub record IsRow (row : HashValue × BTreeSet ℕ) : Type 0 where
  pub read : IsRead row.0
  pub some : 1 ≤ length row.1.keys

-- each of these is such a row
abbrev pub AreRows : List (HashValue × BTreeSet ℕ) → Type 0
AreRows rows = AllByRecursion IsRow rows

-- the rows as URIs and numbers
abbrev pub seen : List (HashValue × BTreeSet ℕ) → Waits
seen rows = map (λ row. (row.0, row.1.keys)) rows

-- ---- the order of the rows

-- the two hashes have the same text
abbrev pub same_text : HashValue → HashValue → Bool
same_text first second = bytes_eq (hash_text first) (hash_text second)

pub same_text-equivalence : IsEquivalence same_text
same_text-equivalence = on_equiv hash_text nat_list_eq_equiv

pub text_cmp-total : IsTotalOrder text_cmp
text_cmp-total = on_total hash_text nat_list_cmp_total

pub same_text-ties : (first second : HashValue) → same_text first second ≡ eq_by_cmp text_cmp first second
same_text-ties first second = texts_ties (hash_text first) (hash_text second)

pub text_cmp-partial : IsPartialOrder same_text (as_partial_cmp text_cmp)
text_cmp-partial = po text_cmp-total same_text-ties

-- ---- the steps of a turn

-- Whether an entry waits for the files that these roles miss is set to this, and nothing else changes.
pub record SetsMissed (states : List RoleState) (n : ℕ) (waits : Bool) (old new : Waits) : Type 0 where
  pub each : (uri : HashValue) (m : ℕ)
      → is_waiting uri m new ≡ (if one_misses uri states && (m == n) then waits else is_waiting uri m old)
