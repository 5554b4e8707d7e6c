-- Bounds on folding, by the entries received.
--     kept-cost, going-cost     by names
--     entry-cost      for an appended entry
--     cut-few         for identifiers that lose an operation
use Rattle.std.proofs.Common.{◌≡◌, ℕ, ◌+◌, ◌*◌, ◌≤◌, Bool, false, leb, ltb, List, [], ◌∷◌, length, ap, arith, refl, subst, ◌∙◌, zero, suc, ◌-◌, ◌<◌, map, set}
use Rattle.std.proofs.lemmas.Bool.{lt-leb, ltb-true}
use Rattle.std.proofs.lemmas.List.Folds.{fold-map}
use Rattle.std.proofs.lemmas.List.Sums.{sum_by-cons, sum_by-le-sum_by, sum_by-set}
use Rattle.std.specs.List.{AllByRecursion, sum_by}
use Rattle.st_base.proofs.ListLemmas.{each-passes, each-weaker, filter_none}
use Rattle.st_base.specs.Work.{WorkValue, AppliesAtMost, counted}
use Rattle.st_hash.specs.Hash.{HashValue, hash_cmp}
use Rattle.st_opindex.specs.Items.{Covers, cover_cost, items_at, from}
use Rattle.st_ledger.specs.declared.ledger.Entry.{Entry}
use Rattle.st_content.specs.Files.{Files}
use Rattle.st_anchor.proofs.CountLemmas.{decided_roles-up, opened_proofs-up, counted_more-both}
use Rattle.st_anchor.specs.BoundValue.{BoundValue, known_from}
use Rattle.st_anchor.specs.Gives.{newly_decided, newly_opened}
use Rattle.st_anchor.specs.States.{decided_roles, opened_proofs, WorkedAtMost, counted_more}
use Rattle.st_apply.specs.Laws.{Anchored}
use Rattle.st_observer.proofs.GoingLemmas.{going-end, map-settled}
use Rattle.st_observer.proofs.StoredLemmas.{covers-here, losing-has, from-length, loses}
use Rattle.st_observer.proofs.OperationsLemmas.{kept-operations}
use Rattle.st_observer.specs.Work.{IsKept, IsObserved, bound_at, unknown, Operations, operations_in, entry_cost, from_place, losing, named_cost, suffix_cost, suffixes_of, NoneFell, GrewAtMost, ReadExactly}
use Rattle.st_observer.specs.Observed.{Observed, operations}
use Rattle.st_observer.specs.declared.kept.Kept.{Kept}
use Rattle.st_observer.specs.inside.Steps.{CoversWhere, Cuts, GrewOver, IsGoing, over, decided_of, opened_of, at_place, before_place}

-- the cost of names from the stored data is that from the entries received
pub kept-cost : (observed : Observed) (kept : Kept) → IsKept observed kept → (names : List (HashValue × ℕ))
    → cover_cost hash_cmp kept.index.items names ≤ named_cost observed names
kept-cost observed kept is names =
    sum_by-le-sum_by (λ name. 7 + length (from name.1 (items_at hash_cmp name.0 kept.index.items))) (λ name. suffix_cost name.1 observed name.0) names
    (λ name. omega (
      arith,
      from-length name.1 name.0 kept.index.items,
      ap (λ operations. length (from_place name.1 operations)) (kept-operations name.0 observed kept is),
    ))

-- after all entries were checked
pub going-cost : {observed : Observed} {later : Kept} → IsGoing observed (λ n. false) later
    → (names : List (HashValue × ℕ))
    → cover_cost hash_cmp later.index.items names ≤ named_cost observed names
going-cost {observed} {later} going names = kept-cost observed later (going-end going (λ n. refl)) names

-- names that cover the operations of these entries bound what was counted
abbrev pub IsBoundWhere : List Entry → Files → (ℕ → Bool) → Kept → WorkValue → WorkValue → Type 0
IsBoundWhere ledger files waits kept old new = (names : List (HashValue × ℕ)) → CoversWhere waits (over kept.index.folder.schedule ledger files) names
    → GrewOver files kept.bounds.items (named_cost (over kept.index.folder.schedule ledger files) names) old new

-- the cost of an entry is that of its identifiers, at its place
pub entry-cost : (n : ℕ) (entry : Entry) (observed : Observed) → named_cost observed (at_place n (suffixes_of observed entry)) ≡ entry_cost n entry observed
entry-cost n entry observed =
    fold-map (λ total name. total + suffix_cost name.1 observed name.0) (λ suffix. (suffix, n)) 0 (suffixes_of observed entry)

-- the operations of an identifier that a cut keeps are all before its place
module _ (n : ℕ) (before after : Operations)
    (cuts : (suffix : HashValue) → operations_in suffix after ≡ before_place n (operations_in suffix before)) where
  cut-cost : (suffixes : List HashValue) → cover_cost hash_cmp after.items (at_place n suffixes) ≤ 7 * length suffixes
  cut-cost [] = omega arith
  cut-cost (suffix ∷ suffixes) =
      let early : AllByRecursion (λ anchored. leb n anchored.place ≡ _) (before_place n (operations_in suffix before)) =
      each-weaker (λ (anchored : Anchored). ltb anchored.place n ≡ _) (λ anchored. leb n anchored.place ≡ _)
      (λ anchored is. lt-leb n anchored.place (ltb-true anchored.place n is)) (before_place n (operations_in suffix before))
      (each-passes (λ anchored. ltb anchored.place n) (operations_in suffix before)) in
      omega (
        arith,
        cut-cost suffixes,
        sum_by-cons (λ (name : HashValue × ℕ). 7 + length (from name.1 (items_at hash_cmp name.0 after.items))) (suffix, n) (at_place n suffixes),
        from-length n suffix after.items,
        ap (λ operations. length (from_place n operations)) (cuts suffix),
        ap length (filter_none (λ anchored. leb n anchored.place) (before_place n (operations_in suffix before)) early),
      )

-- entries are cut: the suffixes that lose an operation cover the changes
pub cut-few : (n : ℕ) (observed : Observed) {before later : Kept} → IsObserved observed before
    → Cuts n before later
    → (names : List (HashValue × ℕ)) × AllByRecursion (Covers hash_cmp names) later.index.changes
    × (cover_cost hash_cmp later.index.items names ≤ 7 * length (losing n observed))
cut-few n observed {before} {later} held step =
    let names : List (HashValue × ℕ) = at_place n (losing n observed) in (
      names,
      step.changes names (rw held.none tt) (λ suffix any.
          covers-here n suffix n (losing n observed) (omega arith) (losing-has n observed suffix
          (subst (λ (xs : List Anchored). 1 ≤ length (from_place n xs)) (kept-operations suffix observed before held.is)
          (loses n suffix before.index.items any)))),
      cut-cost n before.index later.index step.operations (losing n observed),
    )

-- ---- Counts that did not fall.

pub fell-none : (work : WorkValue) → NoneFell work work
fell-none work = record { files = omega arith; proofs = omega arith; applies = omega arith }

pub fell-both : {old mid new : WorkValue} → NoneFell old mid → NoneFell mid new → NoneFell old new
fell-both first later = record {
  files = omega (arith, first.files, later.files);
  proofs = omega (arith, first.proofs, later.proofs);
  applies = omega (arith, first.applies, later.applies);
}

-- ---- Work that is counted while entries are checked again.
--     counted_more-few, counted_more-least   this many more are at most this many more, and no fewer than before
--     Reading                                the counts on the way, from the start
--     reading-settled, reading-few, reading-wanting

counted-few : (count : ℕ) → counted count ≤ count + 1
counted-few count = omega arith

pub counted_more-few : (more count : ℕ) → counted_more more count ≤ count + more
counted_more-few zero count = omega arith
counted_more-few (suc more) count = omega (arith, counted-few (counted_more more count), counted_more-few more count)

counted-least : (count : ℕ) → count ≤ counted count
counted-least count = omega arith

pub counted_more-least : (more count : ℕ) → count ≤ counted_more more count
counted_more-least zero count = omega arith
counted_more-least (suc more) count = omega (arith, counted-least (counted_more more count), counted_more-least more count)

-- ---- no count fell

worked-least : {files proofs : ℕ} {old new : WorkValue} → WorkedAtMost files proofs old new → NoneFell old new
worked-least {old = old} few = record {
  files = omega (arith, ap (λ (w : WorkValue). w.files) few.counts, counted_more-least few.files_read old.files);
  proofs = omega (arith, ap (λ (w : WorkValue). w.proofs) few.counts, counted_more-least few.proofs_opened old.proofs);
  applies = omega (arith, ap (λ (w : WorkValue). w.applies) few.counts);
}

applied-least : {applies : ℕ} {old new : WorkValue} → AppliesAtMost applies old new → NoneFell old new
applied-least applied = record { files = omega (arith, applied.files); proofs = omega (arith, applied.proofs); applies = applied.least }

-- ---- one entry

-- exact counts, and operations applied after
pub grew-worked : {files proofs applies : ℕ} {old mid new : WorkValue} → WorkedAtMost files proofs old mid → AppliesAtMost applies mid new
    → GrewAtMost files proofs applies old new
grew-worked {old = old} few applied = record {
  least = fell-both (worked-least few) (applied-least applied);
  read = omega (arith, applied.files, few.few_files, ap (λ (w : WorkValue). w.files) few.counts, counted_more-few few.files_read old.files);
  opened = omega (arith, applied.proofs, few.few_proofs, ap (λ (w : WorkValue). w.proofs) few.counts, counted_more-few few.proofs_opened old.proofs);
  applied = omega (arith, applied.applies, ap (λ (w : WorkValue). w.applies) few.counts);
}

pub grew-only : {files proofs applies : ℕ} {old new : WorkValue} → WorkedAtMost files proofs old new → GrewAtMost files proofs applies old new
grew-only {old = old} few = record {
  least = worked-least few;
  read = omega (arith, few.few_files, ap (λ (w : WorkValue). w.files) few.counts, counted_more-few few.files_read old.files);
  opened = omega (arith, few.few_proofs, ap (λ (w : WorkValue). w.proofs) few.counts, counted_more-few few.proofs_opened old.proofs);
  applied = omega (arith, ap (λ (w : WorkValue). w.applies) few.counts);
}

-- and operations that were applied after all was read
pub grew-then : {files proofs applies : ℕ} {old mid new : WorkValue} → GrewAtMost files proofs 0 old mid
    → AppliesAtMost applies mid new
    → GrewAtMost files proofs applies old new
grew-then grew applied = record {
  least = fell-both grew.least (applied-least applied);
  read = omega (arith, applied.files, grew.read);
  opened = omega (arith, applied.proofs, grew.opened);
  applied = omega (arith, applied.applies, grew.applied);
}

-- ---- several entries

-- a count over what is known about an entry, which more files never lower
module _ (count : BoundValue → ℕ) (files : Files) (up : (bound : BoundValue) → count bound ≤ count (known_from files bound)) where
  sum-later : (bounds : List BoundValue) → sum_by count bounds ≤ sum_by count (map (known_from files) bounds)
  sum-later bounds =
      let along : sum_by count (map (known_from files) bounds) ≡ sum_by (λ bound. count (known_from files bound)) bounds =
      fold-map (λ total bound. total + count bound) (known_from files) 0 bounds in
      omega (arith, along, sum_by-le-sum_by count (λ bound. count (known_from files bound)) bounds up)

  sum-settled : (bounds : List BoundValue) (n : ℕ) → n < length bounds
      → sum_by count (set bounds n (known_from files (bound_at n bounds))) + count (bound_at n bounds) ≡ sum_by count bounds + count
      (known_from files (bound_at n bounds))
  sum-settled bounds n inside = sum_by-set count bounds n (known_from files (bound_at n bounds)) unknown inside

  -- the part of one entry is at most the sum of all
  sum-wanting : (start bounds : List BoundValue) (n : ℕ) → n < length bounds → map (known_from files) bounds ≡ map (known_from files) start
      → sum_by count bounds + (count (known_from files (bound_at n bounds)) - count (bound_at n bounds)) ≤ sum_by count (map (known_from files) start)
  sum-wanting start bounds n inside same =
      let after : List BoundValue = set bounds n (known_from files (bound_at n bounds)) in
      let alike : sum_by count (map (known_from files) after) ≡ sum_by count (map (known_from files) start) = ap (sum_by count)
      (map-settled files bounds n ∙ same) in
      omega (arith, alike, sum-later after, sum-settled bounds n inside, up (bound_at n bounds))

-- The counts on the way from the first knowledge to the present one. Nothing was applied.
pub record Reading (start bounds : List BoundValue) (old new : WorkValue) : Type 0 where
  pub decides : decided_of start ≤ decided_of bounds
  pub opens : opened_of start ≤ opened_of bounds
  pub files : new.files ≡ counted_more (decided_of bounds - decided_of start) old.files
  pub proofs : new.proofs ≡ counted_more (opened_of bounds - opened_of start) old.proofs
  pub applies : new.applies ≡ old.applies

reading-least : {start bounds : List BoundValue} {old new : WorkValue} → Reading start bounds old new → NoneFell old new
reading-least {start} {bounds} {old} {new} reading = record {
  files = omega (arith, reading.files, counted_more-least (decided_of bounds - decided_of start) old.files);
  proofs = omega (arith, reading.proofs, counted_more-least (opened_of bounds - opened_of start) old.proofs);
  applies = omega (arith, reading.applies);
}

-- first this many, and then more
then-more : (start now more old : ℕ) → start ≤ now
    → counted_more more (counted_more (now - start) old) ≡ counted_more (now + more - start) old
then-more start now more old up =
    counted_more-both (now - start) more old ∙ ap (λ n. counted_more n old) (let e : more + (now - start) ≡ now + more - start = omega (arith, up) in e)

module _ (files : Files) {start bounds : List BoundValue} {old mid : WorkValue} (reading : Reading start bounds old mid) where
  pub reading-settled : (n : ℕ) {new : WorkValue} → n < length bounds
      → ReadExactly (newly_decided files (bound_at n bounds)) (newly_opened files (bound_at n bounds)) mid new
      → new.applies ≡ mid.applies → Reading start (set bounds n (known_from files (bound_at n bounds))) old new
  reading-settled n inside exactly same =
      let bound : BoundValue = bound_at n bounds in
      let after : List BoundValue = set bounds n (known_from files bound) in
      let decided : decided_of bounds + newly_decided files bound ≡ decided_of after =
      omega (arith, sum-settled decided_roles files (decided_roles-up files) bounds n inside, decided_roles-up files bound) in
      let opened : opened_of bounds + newly_opened files bound ≡ opened_of after =
      omega (arith, sum-settled opened_proofs files (opened_proofs-up files) bounds n inside, opened_proofs-up files bound) in
      record {
        decides = omega (arith, reading.decides, decided);
        opens = omega (arith, reading.opens, opened);
        files =
            exactly.read ∙ ap (counted_more (newly_decided files bound)) reading.files
            ∙ then-more (decided_of start) (decided_of bounds) (newly_decided files bound) old.files reading.decides
            ∙ ap (λ n. counted_more (n - decided_of start) old.files) decided;
        proofs =
            exactly.opened ∙ ap (counted_more (newly_opened files bound)) reading.proofs
            ∙ then-more (opened_of start) (opened_of bounds) (newly_opened files bound) old.proofs reading.opens
            ∙ ap (λ n. counted_more (n - opened_of start) old.proofs) opened;
        applies = same ∙ reading.applies;
      }

  read-few : mid.files ≤ old.files + (decided_of bounds - decided_of start)
  read-few = omega (arith, reading.files, counted_more-few (decided_of bounds - decided_of start) old.files)

  opened-few : mid.proofs ≤ old.proofs + (opened_of bounds - opened_of start)
  opened-few = omega (arith, reading.proofs, counted_more-few (opened_of bounds - opened_of start) old.proofs)

  pub reading-few : map (known_from files) bounds ≡ map (known_from files) start
      → GrewOver files start 0 old mid
  reading-few same =
      let decided : decided_of bounds ≤ decided_of (map (known_from files) start) =
      subst (λ all. decided_of bounds ≤ decided_of all) same (sum-later decided_roles files (decided_roles-up files) bounds) in
      let opened : opened_of bounds ≤ opened_of (map (known_from files) start) =
      subst (λ all. opened_of bounds ≤ opened_of all) same (sum-later opened_proofs files (opened_proofs-up files) bounds) in
      record {
        least = reading-least reading;
        read = omega (arith, read-few, reading.decides, decided);
        opened = omega (arith, opened-few, reading.opens, opened);
        applied = omega (arith, reading.applies);
      }

  -- memory ran out at one entry
  pub reading-wanting : (n : ℕ) {new : WorkValue} → n < length bounds
      → map (known_from files) bounds ≡ map (known_from files) start
      → GrewAtMost (newly_decided files (bound_at n bounds)) (newly_opened files (bound_at n bounds)) 0 mid new
      → GrewOver files start 0 old new
  reading-wanting n inside same grew = record {
    least = fell-both (reading-least reading) grew.least;
    read = omega (arith, read-few, reading.decides, sum-wanting decided_roles files (decided_roles-up files) start bounds n inside same, grew.read);
    opened = omega (arith, opened-few, reading.opens, sum-wanting opened_proofs files (opened_proofs-up files) start bounds n inside same, grew.opened);
    applied = omega (arith, reading.applies, grew.applied);
  }
