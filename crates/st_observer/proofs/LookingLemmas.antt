-- The stored data while the entries that wait for a file are checked again, one after another.
--     looking-next, looking-skipped     after one, and after one that does not exist
--     looking-few, looking-wanting      the counts at the end, and if memory ran out
use Rattle.std.proofs.Common.{◌≡◌, ◌∙◌, inl, inr, ℕ, zero, suc, ◌+◌, ◌<◌, ◌≤◌, ◌==◌, true, ◌||◌, List, [], ◌∷◌, length, map, drop, take, get_or, slice_get, Some, None, refl, sym, ap, subst, arith}
use Rattle.std.specs.List.{AllByRecursion}
use Rattle.std.proofs.lemmas.Bool.{eq-eqb, false≢true, or_cases, or_left, or_right}
use Rattle.std.proofs.lemmas.List.{get_or-map, get_or_default, length-map}
use Rattle.std.proofs.lemmas.Option.{get_or_from_slice_get, slice_get_within}
use Rattle.std.proofs.lemmas.List.Folds.{list_any_more}
use Rattle.st_anchor.specs.Gives.{newly_decided, newly_opened, given, suffixes_given}
use Rattle.st_anchor.specs.BoundValue.{BoundValue, known_from}
use Rattle.st_base.specs.Work.{WorkValue}
use Rattle.st_hash.specs.Hash.{HashValue, hash_cmp}
use Rattle.st_ledger.specs.declared.ledger.Entry.{Entry}
use Rattle.st_observer.specs.Observed.{Observed, known_of}
use Rattle.st_observer.specs.Work.{bound_at, unknown, GrewAtMost, ReadExactly}
use Rattle.st_observer.specs.inside.Steps.{CoversWhere, GrewOver, IsGoing, Settles, is_among}
use Rattle.st_observer.specs.declared.kept.Kept.{Kept}
use Rattle.st_observer.proofs.GoingLemmas.{among-left, going-length, going-settled, going-skipped}
use Rattle.st_observer.proofs.StoredLemmas.{covers-put}
use Rattle.st_observer.proofs.WorkLemmas.{Reading, reading-few, reading-settled, reading-wanting}
use Rattle.st_opindex.specs.Items.{Covers}

-- ---- as the code finds the numbers and their entries

pub number-is : (entries : List ℕ) (at : ℕ) → at < length entries → get_or entries at 0 ≡ get_or entries at (get_or entries at 0)
number-is entries at inside = get_or_default entries at 0 (get_or entries at 0) inside

pub entry-inside : (ledger : List Entry) (n : ℕ) (entry : Entry) → Some entry ≡ slice_get ledger n → n < length ledger
entry-inside ledger n entry found = slice_get_within ledger n entry (sym found)

pub entry-at : (ledger : List Entry) (n : ℕ) (entry : Entry) → Some entry ≡ slice_get ledger n → get_or ledger n entry ≡ entry
entry-at ledger n entry found = get_or_from_slice_get ledger n entry entry (sym found)

pub entry-past : (ledger : List Entry) (n : ℕ) → None ≡ slice_get ledger n → length ledger ≤ n
entry-past [] n none = omega arith
entry-past (entry ∷ ledger) zero none = cc
entry-past (entry ∷ ledger) (suc n) none = let rest : length ledger ≤ n = entry-past ledger n none in omega (arith, rest)

-- ---- on the way

-- This many of the entries with these numbers have been checked. Nothing is applied yet, and names that cover the
-- operations of all of them cover the changes.
pub record Looking (observed : Observed) (entries : List ℕ) (at : ℕ) (start now : Kept) (old new : WorkValue) : Type 0 where
  pub going : IsGoing observed (is_among (drop at entries)) now
  pub same : map (known_from observed.files) now.bounds.items ≡ map (known_from observed.files) start.bounds.items
  pub reading : Reading start.bounds.items now.bounds.items old new
  pub covers : (names : List (HashValue × ℕ)) → CoversWhere (is_among entries) observed names → AllByRecursion (Covers hash_cmp names) now.index.changes

-- more is known about an entry that was checked again
more-known : (observed : Observed) (bounds : List BoundValue) (entry : Entry) (n : ℕ)
    → map (known_from observed.files) bounds ≡ map (known_of observed.schedule observed.files) observed.ledger
    → n < length bounds → get_or observed.ledger n entry ≡ entry
    → known_from observed.files (bound_at n bounds) ≡ known_of observed.schedule observed.files entry
more-known observed bounds entry n same inside is =
    let many : length bounds ≡ length observed.ledger =
    sym (length-map bounds (known_from observed.files)) ∙ ap length same ∙ length-map observed.ledger (known_of observed.schedule observed.files) in
    sym (get_or-map (known_from observed.files) bounds n unknown unknown inside) ∙ ap (λ xs. get_or xs n unknown) same
    ∙ get_or-map (known_of observed.schedule observed.files) observed.ledger n entry unknown (omega (arith, inside, many))
    ∙ ap (known_of observed.schedule observed.files) is

-- a number among the first is among all
among-taken : (xs : List ℕ) (many m : ℕ) → is_among (take many xs) m ≡ true → is_among xs m ≡ true
among-taken xs zero m there = absurd (false≢true there)
among-taken [] (suc many) m there = there
among-taken (x ∷ xs) (suc many) m there = elim (or_cases (x == m) (is_among (take many xs) m) there) [
  | inl here ↦ or_left (x == m) (is_among xs m) here
  | inr later ↦ or_right (x == m) (is_among xs m) (among-taken xs many m later)
]

-- one more number
module _ (entries : List ℕ) (at n : ℕ) (inside : at < length entries) (is : n ≡ get_or entries at n) where
  more-among : (m : ℕ) → is_among (take (at + 1) entries) m ≡ (is_among (take at entries) m || (n == m))
  more-among m = list_any_more (λ k. k == m) entries at n inside ∙ ap (λ k. is_among (take at entries) m || (k == m)) (sym is)

  all-among : is_among entries n ≡ true
  all-among = among-taken entries (at + 1) n (more-among n ∙ or_right (is_among (take at entries) n) (n == n) (eq-eqb n n refl))

  module _ {observed : Observed} {start now : Kept} {old mid : WorkValue} (looking : Looking observed entries at start now old mid) where
    pub looking-inside : n < length observed.ledger → n < length now.bounds.items
    looking-inside within = omega (arith, within, going-length looking.going)

    -- the entry with this number is checked again
    pub looking-next : (entry : Entry) {after : Kept} {new : WorkValue} → Some entry ≡ slice_get observed.ledger n
        → Settles observed.files n entry.height now after
        → ReadExactly (newly_decided observed.files (bound_at n now.bounds.items)) (newly_opened observed.files (bound_at n now.bounds.items)) mid new
        → GrewAtMost (newly_decided observed.files (bound_at n now.bounds.items)) (newly_opened observed.files (bound_at n now.bounds.items)) 0 mid new
        → Looking observed entries (at + 1) start after old new
    looking-next entry {after} {new} found step exactly grew =
        let there : get_or observed.ledger n entry ≡ entry = entry-at observed.ledger n entry found in
        let room : n < length now.bounds.items = looking-inside (entry-inside observed.ledger n entry found) in
        let going : IsGoing observed (is_among (drop (at + 1) entries)) after =
        going-settled looking.going n entry step room there (among-left entries at n inside is) in
        record {
          going = going;
          same = going.same ∙ sym looking.going.same ∙ looking.same;
          reading =
              subst (λ bounds. Reading start.bounds.items bounds old new) (sym step.bounds)
              (reading-settled observed.files looking.reading n room exactly (omega (arith, grew.least.applies, grew.applied)));
          covers = λ names where_given.
              subst (AllByRecursion (Covers hash_cmp names)) (sym step.states.changes)
              (covers-put n names now.index.changes _ (looking.covers names where_given)
              (subst (λ (b : BoundValue). AllByRecursion (λ suffix. Covers hash_cmp names (suffix, n)) (suffixes_given (given b)))
              (sym (more-known observed now.bounds.items entry n looking.going.same room there))
              (where_given n entry found all-among)));
        }

    pub looking-skipped : length observed.ledger ≤ n → Looking observed entries (at + 1) start now old mid
    looking-skipped past = record {
      going = going-skipped looking.going n (omega (arith, past, going-length looking.going)) (among-left entries at n inside is);
      same = looking.same;
      reading = looking.reading;
      covers = looking.covers;
    }

    -- memory ran out at this entry
    pub looking-wanting : (entry : Entry) {new : WorkValue} → Some entry ≡ slice_get observed.ledger n
        → GrewAtMost (newly_decided observed.files (bound_at n now.bounds.items)) (newly_opened observed.files (bound_at n now.bounds.items)) 0 mid new
        → GrewOver observed.files start.bounds.items 0 old new
    looking-wanting entry found grew =
        reading-wanting observed.files looking.reading n (looking-inside (entry-inside observed.ledger n entry found)) looking.same grew

-- ---- at the end

pub looking-few : {observed : Observed} {entries : List ℕ} {at : ℕ} {start now : Kept} {old new : WorkValue}
    → Looking observed entries at start now old new → GrewOver observed.files start.bounds.items 0 old new
looking-few {observed} looking = reading-few observed.files looking.reading looking.same
