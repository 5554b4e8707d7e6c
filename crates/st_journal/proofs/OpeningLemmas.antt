-- Reading through a window.
use Rattle.std.proofs.Common.{◌≡◌, ◌∙◌, ℕ, ◌+◌, ◌-◌, ◌≤◌, true, nat_le, List, take, drop, ap, sym, arith, ◌≢◌, ⊎_elim, suc, false, ◌==◌, [], ◌∷◌, length, get_or, Option, Some, None, option_map, Err, subst, refl, length-drop, ◌^◌, ◌<◌, ◌++◌, Result, Ok, append_assoc, nat_lt}
use Rattle.std.proofs.lemmas.Bool.{and_parts, leb-true, cases_Bool, cases_eq, cond-false, cond-true, ne_eqb, le-leb, lt-leb, le-ltb, lt-ltb}
use Rattle.std.proofs.lemmas.List.{drop-drop, drop-take, take-take, length-take-le, append-nil, drop_all}
use Rattle.std.specs.Option.{ok_or}
use Rattle.st_io.proofs.HistoryLemmas.{only_after, over, stays_only, weaker, more, splits_since_sync}
use Rattle.st_io.specs.Past.{Past, AddsNoImage, GoesOn, Follow, Leaves, LeftSinceSync, Only}
use Rattle.st_io.specs.Histories.{Holds, IfTold, Torn, Turns}
use Rattle.st_journal.proofs.AppendLemmas.{records-long, records-short, records_of, ready_only}
use Rattle.st_journal.proofs.ImageLemmas.{Enough, enough, found-closed, found-few, found-nil, found-record}
use Rattle.st_journal.specs.Opening.{RecordIs, record_at, Comes, closed_from, put_before, records_from, IsReading, opened, begun, Shows, IsSound}
use Rattle.st_journal.specs.Image.{Found, body_length, body_of, found, is_enough, only_closed, open_gate, with_body, first_closed, records, IsReady}
use Rattle.st_journal.specs.declared.opening.Opening.{Opening}
use Rattle.st_journal.specs.declared.journal.JournalRefused.{JournalRefused}
use Rattle.st_journal.specs.declared.journal.JournalRefused.TheVariants.{TooLong, Damaged, DiskFault, WantOfMemory}
use Rattle.st_journal.specs.declared.window.Window.{Window}
use Rattle.st_journal.specs.inside.Heads.{HeadIs, IsDamagedHead, IsOpenHead, is_within}

-- a range that the window has
pub record Within (window : Window) (at n : ℕ) : Type 0 where
  pub start : window.start ≤ at
  pub end : at + n ≤ window.start + window.filled

pub within : (window : Window) (at n : ℕ) → is_within window at n ≡ true → Within window at n
within window at n is =
    let parts = and_parts (nat_le window.start at) (nat_le (at + n) (window.start + window.filled)) is in
    record { start = leb-true _ _ parts.0; end = leb-true _ _ parts.1 }

pub read_shown : (window : Window) (image : List ℕ) (at n : ℕ) → Shows window image → is_within window at n ≡ true
    → take n (drop (at - window.start) window.bytes.items) ≡ take n (drop at image)
read_shown window image at n shows is =
    let bytes = window.bytes.items in
    let inside = within window at n is in
    let k = at - window.start in
    let fits : k + n ≤ window.filled = omega (arith, inside.start, inside.end) in
    let place : window.start + k ≡ at = omega (arith, inside.start) in
    sym (drop-take k n bytes) ∙ ap (drop k) (sym (take-take (k + n) window.filled bytes fits) ∙ ap (take (k + n)) shows.bytes ∙ take-take (k + n) window.filled (drop window.start image) fits)
    ∙ drop-take k n (drop window.start image) ∙ ap (take n) (drop-drop k window.start image ∙ ap (λ m. drop m image) place)

-- ---- The bytes from a gate on, as they are read, and the result from there on.

-- ---- a record, by its gate

pub record_closed : (gate : ℕ) (behind : List ℕ) → gate ≢ open_gate → record_at (gate ∷ behind) ≡ Some None
unfolding record_at
record_closed gate behind closed = cond-false (gate == open_gate) _ (Some None) (ne_eqb gate open_gate closed)

record_few : (behind : List ℕ) → is_enough behind ≡ false → record_at (open_gate ∷ behind) ≡ None
unfolding record_at
record_few behind few = cond-false (is_enough behind) _ None few

record_whole : (behind : List ℕ) → is_enough behind ≡ true → record_at (open_gate ∷ behind) ≡ Some (Some (body_of behind))
unfolding record_at
record_whole behind all = cond-true (is_enough behind) _ None all

record_nil : record_at [] ≡ None
unfolding record_at
record_nil = refl

-- ---- a record, by its head

pub closed_record : (from : List ℕ) → 1 ≤ length from → get_or from 0 0 ≢ open_gate → record_at from ≡ Some None
closed_record [] some closed = absurd (omega arith)
closed_record (gate ∷ behind) some closed = record_closed gate behind closed

pub few_record : (from : List ℕ) → 1 ≤ length from → IsDamagedHead from → record_at from ≡ None
few_record [] some is = absurd (omega arith)
few_record (gate ∷ behind) some is = ap (λ g. record_at (g ∷ behind)) is.gate ∙ record_few behind is.few

pub whole_record : (n : ℕ) (from body : List ℕ) → 1 ≤ length from → IsOpenHead n from → body ≡ take n (drop 5 from)
    → record_at from ≡ Some (Some body)
whole_record n [] body some is read = absurd (omega arith)
whole_record n (gate ∷ behind) body some is read =
    let same : body ≡ body_of behind = read ∙ ap (λ k. take k (drop 4 behind)) (sym is.long) in
    ap (λ g. record_at (g ∷ behind)) is.gate ∙ record_whole behind is.enough ∙ ap (λ b. Some (Some b)) (sym same)

-- one that is refused, by its head
pub refused_record : (from : List ℕ) (refused : JournalRefused) → 1 ≤ length from → HeadIs from (Err refused) → RecordIs from (Err refused)
refused_record from TooLong some is = is
refused_record from Damaged some is = few_record from some is
refused_record from DiskFault some is = tt
refused_record from WantOfMemory some is = tt

-- ---- the result from a gate on, by the record there

abbrev pub by_record : Option (Option (List ℕ)) → List ℕ → Option Found
by_record None from = None
by_record (Some None) from = Some only_closed
by_record (Some (Some body)) from = option_map (with_body body) (found (drop (5 + length body) from))

found_whole : (behind : List ℕ) → is_enough behind ≡ true → found (open_gate ∷ behind) ≡ by_record (record_at (open_gate ∷ behind)) (open_gate ∷ behind)
found_whole behind all =
    let has : Enough behind = enough behind all in
    let long : length (body_of behind) ≡ body_length behind = length-take-le (body_length behind) (drop 4 behind) (omega (arith, has.all, length-drop 4 behind)) in
    let on : suc (4 + body_length behind) ≡ 5 + length (body_of behind) = omega (arith, long) in
    found-record behind all ∙ ap (λ k. option_map (with_body (body_of behind)) (found (drop k (open_gate ∷ behind)))) on
    ∙ ap (λ r. by_record r (open_gate ∷ behind)) (sym (record_whole behind all))

found_open : (behind : List ℕ) → found (open_gate ∷ behind) ≡ by_record (record_at (open_gate ∷ behind)) (open_gate ∷ behind)
found_open behind = ⊎_elim
    (λ all. found_whole behind all)
    (λ few. found-few behind few ∙ ap (λ r. by_record r (open_gate ∷ behind)) (sym (record_few behind few)))
    (cases_Bool (is_enough behind))

pub found_by : (from : List ℕ) → found from ≡ by_record (record_at from) from
found_by [] = found-nil ∙ ap (λ r. by_record r []) (sym record_nil)
found_by (gate ∷ behind) = ⊎_elim
    (λ opened. subst (λ g. found (g ∷ behind) ≡ by_record (record_at (g ∷ behind)) (g ∷ behind)) (sym opened) (found_open behind))
    (λ closed. found-closed gate behind closed ∙ ap (λ r. by_record r (gate ∷ behind)) (sym (record_closed gate behind closed)))
    (cases_eq gate open_gate)

-- ---- Records that are read one by one:
--     records_none, records_next, records_damaged    the remaining ones, after one step
--     closed_none, closed_next                       the first closed gate, after one step
--     comes_by                                       the answer, by the record there
--     opened_short, opened_long, opened_too_long     the result of opening an image, at the start
--     closed_begun                                   its first closed gate, at the start
--     given_none, given_more, given_all, given_damaged    the records so far

-- ---- one step

bodies_with : (body : List ℕ) (o : Option Found)
    → option_map (λ found. found.bodies) (option_map (with_body body) o) ≡ put_before (body ∷ []) (option_map (λ found. found.bodies) o)
bodies_with body None = refl
bodies_with body (Some found) = refl

ends_with : (place : ℕ) (body : List ℕ) (o : Option Found)
    → option_map (λ found. place + found.end) (option_map (with_body body) o) ≡ option_map (λ found. place + (5 + length body) + found.end) o
ends_with place body None = refl
ends_with place body (Some found) = let same : place + (5 + length body + found.end) ≡ place + (5 + length body) + found.end = omega arith in ap Some same

module _ (place : ℕ) (image : List ℕ) where
  found_as : (r : Option (Option (List ℕ))) → record_at (drop place image) ≡ r → found (drop place image) ≡ by_record r (drop place image)
  found_as r is = found_by (drop place image) ∙ ap (λ x. by_record x (drop place image)) is

  pub records_none : record_at (drop place image) ≡ Some None → records_from place image ≡ Some []
  unfolding records_from
  records_none is = ap (option_map (λ found. found.bodies)) (found_as (Some None) is)

  pub records_damaged : record_at (drop place image) ≡ None → records_from place image ≡ None
  unfolding records_from
  records_damaged is = ap (option_map (λ found. found.bodies)) (found_as None is)

  pub closed_none : record_at (drop place image) ≡ Some None → closed_from place image ≡ Some place
  unfolding closed_from
  closed_none is = let none : place + 0 ≡ place = omega arith in ap (option_map (λ found. place + found.end)) (found_as (Some None) is) ∙ ap Some none

  module _ (body : List ℕ) (is : record_at (drop place image) ≡ Some (Some body)) where
    found_next : found (drop place image) ≡ option_map (with_body body) (found (drop (place + (5 + length body)) image))
    found_next = found_as (Some (Some body)) is ∙ ap (λ l. option_map (with_body body) (found l)) (drop-drop (5 + length body) place image)

    pub records_next : records_from place image ≡ put_before (body ∷ []) (records_from (place + (5 + length body)) image)
    unfolding records_from
    records_next = ap (option_map (λ found. found.bodies)) found_next ∙ bodies_with body (found (drop (place + (5 + length body)) image))

    pub closed_next : closed_from place image ≡ closed_from (place + (5 + length body)) image
    unfolding closed_from
    closed_next = ap (option_map (λ found. place + found.end)) found_next ∙ ends_with place body (found (drop (place + (5 + length body)) image))

-- the place of the next gate
abbrev pub next_place : ℕ → Result (Option (List ℕ)) JournalRefused → ℕ
next_place place (Ok None) = place
next_place place (Ok (Some body)) = place + (5 + length body)
next_place place (Err error) = place

pub comes_by : (place : ℕ) (image : List ℕ) (result : Result (Option (List ℕ)) JournalRefused) → RecordIs (drop place image) result
    → Comes (records_from place image) (records_from (next_place place result) image) result
comes_by place image (Ok None) is = records_none place image is
comes_by place image (Ok (Some body)) is = records_next place image body is
comes_by place image (Err TooLong) is = is
comes_by place image (Err Damaged) is = records_damaged place image is
comes_by place image (Err DiskFault) is = tt
comes_by place image (Err WantOfMemory) is = tt

-- ---- at the start

opened_fits : (image : List ℕ) (r : Option (List (List ℕ))) → length image ≤ 2 ^ 40 → records image ≡ r → opened image ≡ ok_or r Damaged
opened_fits image r short is = let fits : nat_le (length image) (2 ^ 40) ≡ true = le-leb (length image) (2 ^ 40) short in rw (fits, is) refl

pub opened_too_long : (image : List ℕ) → 2 ^ 40 < length image → opened image ≡ Err TooLong
opened_too_long image long = let more : nat_le (length image) (2 ^ 40) ≡ false = lt-leb (length image) (2 ^ 40) long in rw more refl

records_begun : (image : List ℕ) → 2 ≤ length image → records image ≡ records_from 0 image
unfolding records_from
records_begun image long = records-long image long

pub opened_long : (image : List ℕ) → 2 ≤ length image → length image ≤ 2 ^ 40 → opened image ≡ ok_or (records_from 0 image) Damaged
opened_long image some short = opened_fits image (records_from 0 image) short (records_begun image some)

pub opened_short : (old new : List ℕ) → length old < 2 → record_at new ≡ Some None → opened old ≡ ok_or (records_from 0 new) Damaged
opened_short old new short closed =
    opened_fits old (records_from 0 new) (omega (arith, short)) (records-short old short ∙ sym (records_none 0 new closed))

closed_zero : (o : Option Found) → option_map (λ found. found.end) o ≡ option_map (λ found. 0 + found.end) o
closed_zero None = refl
closed_zero (Some found) = let same : found.end ≡ 0 + found.end = omega arith in ap Some same

pub closed_begun : (image : List ℕ) → first_closed image ≡ closed_from 0 image
unfolding closed_from
closed_begun image = closed_zero (found image)

-- ---- the records so far

pub given_none : (rest : Option (List (List ℕ))) → rest ≡ put_before [] rest
given_none None = refl
given_none (Some records) = refl

put_more : (given : List (List ℕ)) (body : List ℕ) (rest : Option (List (List ℕ)))
    → put_before given (put_before (body ∷ []) rest) ≡ put_before (given ++ body ∷ []) rest
put_more given body None = refl
put_more given body (Some records) = ap Some (sym (append_assoc given (body ∷ []) records))

module _ {all was : Option (List (List ℕ))} (given : List (List ℕ)) (so_far : all ≡ put_before given was) where
  pub given_more : (body : List ℕ) (is : Option (List (List ℕ))) → was ≡ put_before (body ∷ []) is → all ≡ put_before (given ++ body ∷ []) is
  given_more body is next = so_far ∙ ap (put_before given) next ∙ put_more given body is

  pub given_all : was ≡ Some [] → all ≡ Some given
  given_all next = so_far ∙ ap (put_before given) next ∙ ap Some (append-nil given)

  pub given_damaged : was ≡ None → all ≡ None
  given_damaged next = so_far ∙ ap (put_before given) next

-- ---- The effects of opening on a disk, and its state afterwards.

-- ---- fewer than 2 bytes

pub begun-short : (old new : List ℕ) → length old < 2 → Holds 0 (0 ∷ []) old new → new ≡ begun old
begun-short old new short holds =
    let none : drop 1 old ≡ [] = drop_all 1 old (omega (arith, short)) in
    holds ∙ ap (λ l. 0 ∷ l) none ∙ sym (cond-true (nat_lt (length old) 2) (0 ∷ []) old (lt-ltb (length old) 2 short))

pub begun-long : (old : List ℕ) → 2 ≤ length old → old ≡ begun old
begun-long old long = sym (cond-false (nat_lt (length old) 2) (0 ∷ []) old (le-ltb (length old) 2 long))

pub closed_first : (old new : List ℕ) → Holds 0 (0 ∷ []) old new → found new ≡ Some only_closed
closed_first old new holds = ap found holds ∙ found-closed 0 (drop 1 old) (λ same. omega (arith, same))

pub begun_same : (old new : List ℕ) → length old < 2 → Holds 0 (0 ∷ []) old new → records new ≡ records old
begun_same old new short holds = records_of new only_closed (closed_first old new holds) ∙ sym (records-short old short)

pub closed_at : (old new : List ℕ) → Holds 0 (0 ∷ []) old new → record_at new ≡ Some None
closed_at old new holds = ap record_at holds ∙ record_closed 0 (drop 1 old) (λ same. omega (arith, same))

pub begin_moments : (old : List ℕ) (a b : Past) → length old < 2 → Only a old → GoesOn a b → Follow (Torn 0 1) a b → Leaves (λ image. records image ≡ records old) a b
begin_moments old a b short only goes follow =
    weaker (Torn 0 1 old) (λ image. records image ≡ records old) a b (over (Torn 0 1) a b old only goes follow)
    (λ x torn. records-short x (omega (arith, short, torn.no_longer)) ∙ sym (records-short old short))

-- ---- reading

-- a disk to which a closed gate was written
pub begin_closed_gate : (window : Window) (told : Option (List ℕ)) (past : Past) → ((image : List ℕ) → Shows window image)
    → IfTold told (λ image. record_at image ≡ Some None) → IfTold told (Only past)
    → IsReading (record { window = window; place = 0; len = 0 }) told past
begin_closed_gate window told past shows closed only = record {
  small = omega arith;
  below = omega arith;
  sound = λ more. absurd (omega (arith, more));
  shows = λ image is. shows image;
  long = λ image is more. absurd (omega (arith, more));
  closed = λ image is none. closed image is;
  gate = λ image is. closed_begun image;
  only = only;
}

-- one more read, with one more record or with none
module _ {opening : Opening} {told now : Option (List ℕ)} {old new : Past} (reading : IsReading opening told old) (same : now ≡ told) (adds : AddsNoImage old new) where
  still_only : IfTold now (Only new)
  still_only image is = only_after old new image (reading.only image (sym same ∙ is)) adds

  pub reading_on : (next : Window) (body : List ℕ) → opening.place + 5 + length body < opening.len
      → IfTold told (λ image. record_at (drop opening.place image) ≡ Some (Some body)) → IsSound next → IfTold now (Shows next)
      → IsReading (record { window = next; place = opening.place + (5 + length body); len = opening.len }) now new
  reading_on next body fits is_record sound shows = record {
    small = reading.small;
    below = omega (arith, fits, reading.small);
    sound = λ more. sound;
    shows = shows;
    long = λ image is more. reading.long image (sym same ∙ is) (omega (arith, fits));
    closed = λ image is none. absurd (omega (arith, fits, none));
    gate = λ image is. reading.gate image (sym same ∙ is) ∙ closed_next opening.place image body (is_record image (sym same ∙ is));
    only = still_only;
  }

  -- after the last record
  pub ready_behind : IfTold told (λ image. record_at (drop opening.place image) ≡ Some None) → IsReady (record { end = opening.place }) now new
  ready_behind closed =
      ready_only opening.place now new
      (λ image is. reading.gate image (sym same ∙ is) ∙ closed_none opening.place image (closed image (sym same ∙ is)))
      still_only

-- ---- after reading

pub read_moments : (old : List ℕ) (a b : Past) → Only a old → AddsNoImage a b → Leaves (λ image. records image ≡ records old) a b
read_moments old a b only none = stays_only (λ image. records image ≡ records old) a b old only none (λ x same. ap records same)

-- After the start, when the contents have the same records, nothing is written.
module _ {told now : Option (List ℕ)} {b c : Past} {old : List ℕ} (here : told ≡ Some old)
    (same : Turns told now (λ old new. records new ≡ records old)) (only : IfTold now (Only b)) (adds : AddsNoImage b c) where
  stay : (x : List ℕ) → c.left_since b.now x → records x ≡ records old
  stay x left = let to = same.forward old here in ap records (only to.0 to.1 x (adds.none x left)) ∙ to.2

  -- the images over both
  pub moments_on : {a : Past} (P : List ℕ → Type 0) → ((x : List ℕ) → records x ≡ records old → P x) → Leaves P a b → Leaves P a c
  moments_on {a} P has leaves = more P a b c leaves adds.goes (λ x left. has x (stay x left))

  pub synced_on : (a : Past) → ((x : List ℕ) → LeftSinceSync b a.now x → records x ≡ records old) → (x : List ℕ) → LeftSinceSync c a.now x → records x ≡ records old
  synced_on a synced x left = ⊎_elim (synced x) (stay x) (splits_since_sync b c adds.goes a.now x left)
