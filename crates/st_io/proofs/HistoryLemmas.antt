-- How a disk continues over a run of calls. For crates with clauses about stops inside a call.
use Rattle.std.proofs.Common.{◌⊎◌, inl, inr, ⊎_elim, ℕ, zero, suc, ◌<◌, ◌≤◌, List, arith, ◌≡◌, ◌∙◌, Option, Some, sym, subst, ◌+◌, ◌-◌, max, ◌++◌, length, take, drop, replicate, refl, ap, append_assoc, length-append, length-drop, [], ◌∷◌}
use Rattle.std.proofs.Math.ListN.{drop_of_length-le}
use Rattle.std.proofs.lemmas.Bool.{cases_lt}
use Rattle.std.proofs.lemmas.List.{append-nil, drop_at, length-replicate, length-take-le, take_at, take-append-le}
use Rattle.st_io.specs.Histories.{DiskHistory, IsImage, WasLeft, WasSynced, past_of, reads_of, left_now, with_step, with_write, Turns, overwritten, Torn}
use Rattle.st_io.specs.Past.{Past, GoesOn, AddsNone, HasSynced, LeftSinceSync, Leaves, SplitsSinceSync, AddsNoImage, Follow, Only, StaysAsItWas, Images, OneSync, KeepsSpent}
use Rattle.st_io.specs.declared.history.Step.{Step}
use Rattle.st_io.specs.declared.history.Step.TheVariants.{Wrote, Synced}

-- no call
pub stands : (p : Past) → GoesOn p p
stands p = record { later = omega arith; splits = λ t c le left. inl left; keeps = λ t c le left. left; syncs = λ s le. (λ was. was, λ was. was) }

-- spent numbers stay so
pub keeps_standing : (spent : List ℕ → ℕ → Type 0) (p : Past) → KeepsSpent spent p p
keeps_standing spent p = record { goes = stands p; stays = λ q all x left. all x left }

-- one run after another
pub goes_on : (a b c : Past) → GoesOn a b → GoesOn b c → GoesOn a c
goes_on a b c ab bc = record {
  later = omega (arith, ab.later, bc.later);
  splits = λ t x le left. ⊎_elim
      (λ was. ⊎_elim (λ w. inl w) (λ w. inr (bc.keeps a.now x ab.later w)) (ab.splits t x le was))
      (λ new. inr (c.earlier a.now b.now x ab.later new))
      (bc.splits t x (omega (arith, le, ab.later)) left);
  keeps = λ t x le was. bc.keeps t x (omega (arith, le, ab.later)) (ab.keeps t x le was);
  syncs = λ s le.
      let first = ab.syncs s le in
      let second = bc.syncs s (omega (arith, le, ab.later)) in
      (λ new. first.0 (second.0 new), λ was. second.1 (first.1 was));
}

-- one more call
pub more : (P : List ℕ → Type 0) (a b c : Past) → Leaves P a b → GoesOn b c → ((x : List ℕ) → c.left_since b.now x → P x) → Leaves P a c
more P a b c so_far goes since = record {
  goes = goes_on a b c so_far.goes goes;
  each = λ x left. ⊎_elim (so_far.each x) (since x) (goes.splits a.now x so_far.goes.later left);
}

-- two runs that add no image
pub adds_none : (a b c : Past) → GoesOn a b → AddsNone a b → GoesOn b c → AddsNone b c → AddsNone a c
adds_none a b c ab none_first bc none_then x left = ⊎_elim
    (λ was. none_first x was)
    (λ new. none_first x (b.earlier a.now b.now x ab.later (none_then x new)))
    (bc.splits a.now x ab.later left)

pub le_or_lt : (s n : ℕ) → (s ≤ n) ⊎ (n < s)
le_or_lt zero n = inl (omega arith)
le_or_lt (suc s) zero = inr (omega arith)
le_or_lt (suc s) (suc n) = ⊎_elim (λ le. inl (omega (arith, le))) (λ lt. inr (omega (arith, lt))) (le_or_lt s n)

-- the images from the first successful sync on split at a later moment
pub splits_since_sync : (b c : Past) → GoesOn b c → (t : ℕ) (x : List ℕ) → LeftSinceSync c t x → LeftSinceSync b t x ⊎ c.left_since b.now x
splits_since_sync b c goes t x left =
    ⊎_elim
    (λ le. ⊎_elim
    (λ was. inl (left.0, left.1, (goes.syncs left.0 le).0 left.2, was))
    (λ new. inr new)
    (goes.splits left.0 x le left.3))
    (λ lt. inr (c.earlier b.now left.0 x (omega (arith, lt)) left.3))
    (le_or_lt left.0 b.now)

-- and both parts are among them, if there was a successful sync by then
pub keeps_since_sync : (b c : Past) → GoesOn b c → (t : ℕ) → HasSynced b t → (x : List ℕ)
    → LeftSinceSync b t x ⊎ c.left_since b.now x → LeftSinceSync c t x
keeps_since_sync b c goes t come x =
    let since : c.left_since b.now x → LeftSinceSync c t x =
    λ new. (come.0, come.1, (goes.syncs come.0 come.2).1 come.3, c.earlier come.0 b.now x come.2 new) in
    ⊎_elim (λ was. ⊎_elim (λ le. (was.0, was.1, (goes.syncs was.0 le).1 was.2, goes.keeps was.0 x le was.3))
    (λ lt. since (goes.keeps b.now x (omega arith) (b.earlier b.now was.0 x (omega (arith, lt)) was.3))) (le_or_lt was.0 b.now)) since

-- so they split
pub split_since_sync : (b c : Past) → GoesOn b c → (t : ℕ) → SplitsSinceSync b c t
split_since_sync b c goes t = record {
  splits = λ x left. splits_since_sync b c goes t x left;
  keeps = keeps_since_sync b c goes t;
}

-- ---- Runs of calls of a disk: the images over them, and the contents afterwards. For crates with clauses about each
-- moment of a call.

-- two runs that add no image
pub no_image_on : (a b c : Past) → AddsNoImage a b → AddsNoImage b c → AddsNoImage a c
no_image_on a b c ab bc = record { goes = goes_on a b c ab.goes bc.goes; none = adds_none a b c ab.goes ab.none bc.goes bc.none }

-- two runs that leave a disk as it was
pub still_as_it_was : {told mid now : Option (List ℕ)} {a b c : Past} → StaysAsItWas told mid a b → StaysAsItWas mid now b c → StaysAsItWas told now a c
still_as_it_was {a = a} {b = b} {c = c} first second =
    record { reads = second.reads ∙ first.reads; images = no_image_on a b c first.images second.images }

-- a write over the only image
pub over : (step : List ℕ → List ℕ → Type 0) (a b : Past) (old : List ℕ) → Only a old → GoesOn a b
    → Follow step a b → Leaves (step old) a b
over step a b old only goes follow = record {
  goes = goes;
  each = λ x left. let from = follow x left in subst (λ d. step d x) (only from.0 from.1) from.2;
}

-- a run that adds no image to the only one
pub stays_only : (P : List ℕ → Type 0) (a b : Past) (old : List ℕ) → Only a old → AddsNoImage a b → ((x : List ℕ) → x ≡ old → P x) → Leaves P a b
stays_only P a b old only ab to = record { goes = ab.goes; each = λ x left. to x (only x (ab.none x left)) }

-- the only image is the only one after such a run
pub only_after : (a b : Past) (old : List ℕ) → Only a old → AddsNoImage a b → Only b old
only_after a b old only ab x image = only x (ab.none x (b.earlier a.now b.now x ab.goes.later image))

-- one run after another
pub then_on : (P : List ℕ → Type 0) (a b c : Past) → Leaves P a b → Leaves P b c → Leaves P a c
then_on P a b c first second = more P a b c first second.goes second.each

-- a property of each image, weakened
pub weaker : (P Q : List ℕ → Type 0) (a b : Past) → Leaves P a b → ((x : List ℕ) → P x → Q x) → Leaves Q a b
weaker P Q a b leaves to = record { goes = leaves.goes; each = λ x left. to x (leaves.each x left) }

-- the contents of a disk stay the same
pub turns_same : (old new : Option (List ℕ)) (R : List ℕ → List ℕ → Type 0) → new ≡ old → ((x : List ℕ) → old ≡ Some x → R x x) → Turns old new R
turns_same old new R same to = record {
  forward = λ x told. (x, same ∙ told, to x told);
  back = λ y told. let was = sym same ∙ told in (y, was, to y was);
}

-- over one run and the next
pub turns_on : (a b c : Option (List ℕ)) (R S : List ℕ → List ℕ → Type 0) → Turns a b R
    → Turns b c S → Turns a c (λ x z. (y : List ℕ) × R x y × S y z)
turns_on a b c R S first second = record {
  forward = λ x told.
      let at = first.forward x told in
      let end = second.forward at.0 at.1 in
      (end.0, end.1, (at.0, at.2, end.2));
  back = λ z told.
      let at = second.back z told in
      let start = first.back at.0 at.1 in
      (start.0, start.1, (at.0, start.2, at.2));
}

-- the contents of a disk, by a weaker relation
pub turns_weaker : (old new : Option (List ℕ)) (R S : List ℕ → List ℕ → Type 0) → ((x y : List ℕ) → old ≡ Some x → R x y → S x y)
    → Turns old new R → Turns old new S
turns_weaker old new R S to turns = record {
  forward = λ x told. let at = turns.forward x told in (at.0, at.1, to x at.0 told at.2);
  back = λ y told. let at = turns.back y told in (at.0, at.1, to at.0 y at.1 at.2);
}

-- ---- Torn and unchanged bytes. For crates that ask what an image means.

-- nothing has changed
pub torn_same : (at n : ℕ) (xs : List ℕ) → Torn at n xs xs
torn_same at n xs = record { before = refl; after = refl; no_shorter = omega arith; no_longer = omega arith }

-- a write that starts within the bytes or at their end
module _ (at : ℕ) (bytes old : List ℕ) (within : at ≤ length old) where
  front : length (take at old ++ bytes) ≡ at + length bytes
  front = length-append (take at old) bytes ∙ ap (λ k. k + length bytes) (length-take-le at old within)

  pub length_overwritten : length (overwritten at bytes old) ≡ max (length old) (at + length bytes)
  length_overwritten = omega (arith, length-append (take at old ++ bytes) (drop (at + length bytes) old), front, length-drop (at + length bytes) old)

  -- a complete write leaves one of the images that it may leave
  pub overwritten_is_torn : Torn at (length bytes) old (overwritten at bytes old)
  overwritten_is_torn = record {
    before = ap (take at) (append_assoc (take at old) bytes (drop (at + length bytes) old))
        ∙ take_at (take at old) (bytes ++ drop (at + length bytes) old) at (length-take-le at old within);
    after = drop_at (take at old ++ bytes) (drop (at + length bytes) old) (at + length bytes) front;
    no_shorter = omega (arith, length_overwritten);
    no_longer = omega (arith, length_overwritten);
  }

-- a write that only extends the bytes, with zeros
module _ (at n : ℕ) (old : List ℕ) (within : at ≤ length old) where
  pub length_lengthened : length (old ++ replicate (at + n - length old) 0) ≡ max (length old) (at + n)
  length_lengthened = omega (arith, length-append old (replicate (at + n - length old) 0), length-replicate {A = ℕ} (at + n - length old) 0)

  behind : drop (at + n) (old ++ replicate (at + n - length old) 0) ≡ drop (at + n) old
  behind = ⊎_elim
      (λ shorter.
      let none : at + n - length old ≡ 0 = omega (arith, shorter) in
      ap (λ k. drop (at + n) (old ++ replicate k 0)) none ∙ ap (drop (at + n)) (append-nil old))
      (λ longer. drop_of_length-le (old ++ replicate (at + n - length old) 0) (omega (arith, longer, length_lengthened)) ∙ sym (drop_of_length-le old longer))
      (cases_lt (at + n) (length old))

  pub lengthened_is_torn : Torn at n old (old ++ replicate (at + n - length old) 0)
  lengthened_is_torn = record {
    before = take-append-le at old (replicate (at + n - length old) 0) within;
    after = behind;
    no_shorter = omega (arith, length_lengthened);
    no_longer = omega (arith, length_lengthened);
  }

-- ---- The effect of one more step on a past.

-- no successful sync is later than now
pub synced_by_now : (steps : List Step) (s : ℕ) → WasSynced steps s → s ≤ length steps
synced_by_now [] s never = absurd never
synced_by_now (Wrote written ∷ earlier) s was = omega (arith, synced_by_now earlier s was)
synced_by_now (Synced ∷ earlier) s (inl just) = omega (arith, just)
synced_by_now (Synced ∷ earlier) s (inr was) = omega (arith, synced_by_now earlier s was)

-- an image of now is one since any moment
pub left_image : (first : List ℕ) (steps : List Step) (t : ℕ) (c : List ℕ) → IsImage first steps c → WasLeft first steps t c
left_image first [] t c image = image
left_image first (step ∷ earlier) t c image = inl image

none_since : (h : DiskHistory) (s : ℕ) → length h.steps < s → WasSynced h.steps s → ⊥
none_since h s lt was = omega (arith, lt, synced_by_now h.steps s was)

-- one more write
module _ (at : ℕ) (bytes : List ℕ) (h : DiskHistory) (within : at ≤ length (reads_of h)) where
  torn_from : (c : List ℕ) → IsImage h.first (Wrote (record { at = at; bytes = bytes }) ∷ h.steps) c → (d : List ℕ) × Images (past_of h) d × Torn at (length bytes) d c
  torn_from c (inl is) = (reads_of h, left_now h.first h.steps (length h.steps), subst (Torn at (length bytes) (reads_of h)) (sym is) (overwritten_is_torn at bytes (reads_of h) within))
  torn_from c (inr was) = (was.0, left_image h.first h.steps (length h.steps) was.0 was.1, was.2)

  torn_or_same : Follow (Torn at (length bytes)) (past_of h) (past_of (with_write at bytes h))
  torn_or_same c = ⊎_elim (torn_from c) (λ was. (c, was.1, torn_same at (length bytes) c))

  pub follows_write : (new : DiskHistory) → new ≡ with_write at bytes h → Follow (Torn at (length bytes)) (past_of h) (past_of new)
  follows_write new is = subst (λ n. Follow (Torn at (length bytes)) (past_of h) (past_of n)) (sym is) torn_or_same

-- one more successful sync
read_then : (h : DiskHistory) → AddsNone (past_of h) (past_of (with_step Synced h))
read_then h c = ⊎_elim (λ is. subst (Images (past_of h)) (sym is) (left_now h.first h.steps (length h.steps))) (λ was. was.1)

pub adds_none_by_sync : (h new : DiskHistory) → new ≡ with_step Synced h → AddsNone (past_of h) (past_of new)
adds_none_by_sync h new is = subst (λ n. AddsNone (past_of h) (past_of n)) (sym is) (read_then h)

only_then : (h : DiskHistory) (s : ℕ) → length h.steps < s → WasSynced (Synced ∷ h.steps) s → s ≡ suc (length h.steps)
only_then h s lt (inl just) = just
only_then h s lt (inr was) = absurd (none_since h s lt was)

pub one_sync : (h new : DiskHistory) → new ≡ with_step Synced h → OneSync (past_of h) (past_of new)
one_sync h new is = subst (λ n. OneSync (past_of h) (past_of n)) (sym is) (record { later = omega arith; synced = inl refl; no_other = only_then h })
