-- The result of a pick is an image.
use Rattle.std.proofs.Common.{◌≡◌, inr, ℕ, ◌+◌, ◌<◌, ◌≤◌, max, List, [], ◌∷◌, ◌++◌, length, get_or, take, drop, replicate, refl, sym, ◌∙◌, ap, subst, arith}
use Rattle.std.proofs.lemmas.List.{length-replicate, reverse-append, take_more, take-append-drop}
use Rattle.std.specs.Prelude.{reverse}
use Rattle.st_io.specs.Histories.{torn_by, crashed, DiskHistory, IsImage, reads_after, past_of, overwritten, Torn}
use Rattle.st_io.specs.inside.Histories.{BeginsWithin, AllBeganWithin}
use Rattle.st_io.specs.Past.{Images}
use Rattle.st_io.specs.declared.history.Step.{Step}
use Rattle.st_io.specs.declared.history.Step.TheVariants.{Wrote, Synced}
use Rattle.st_io.specs.declared.history.Written.{Written}
use Rattle.st_io.specs.declared.history.Pick.{Pick}
use Rattle.st_io.specs.declared.history.Pick.TheVariants.{Old, New, Fill}
use Rattle.st_io.proofs.HistoryLemmas.{left_image, length_overwritten, overwritten_is_torn, length_lengthened, lengthened_is_torn}

length_torn : (pick : Pick) (written : Written) (image : List ℕ) → written.at ≤ length image
    → length (torn_by pick written image) ≡ max (length image) (written.at + length written.bytes)
length_torn Old written image within = length_lengthened written.at (length written.bytes) image within
length_torn New written image within = length_overwritten written.at written.bytes image within
length_torn (Fill byte) written image within =
    length_overwritten written.at (replicate (length written.bytes) byte) image within
    ∙ ap (λ n. max (length image) (written.at + n)) (length-replicate (length written.bytes) byte)

is_torn : (pick : Pick) (written : Written) (image : List ℕ) → written.at ≤ length image
    → Torn written.at (length written.bytes) image (torn_by pick written image)
is_torn Old written image within = lengthened_is_torn written.at (length written.bytes) image within
is_torn New written image within = overwritten_is_torn written.at written.bytes image within
is_torn (Fill byte) written image within =
    subst (λ n. Torn written.at n image (torn_by (Fill byte) written image)) (length-replicate (length written.bytes) byte)
    (overwritten_is_torn written.at (replicate (length written.bytes) byte) image within)

-- an image of any pick is as long as the contents
length_crashed : (pick : Pick) (first : List ℕ) (steps : List Step) → AllBeganWithin first steps
    → length (crashed pick first steps) ≡ length (reads_after first steps)
length_crashed pick first [] within = refl
length_crashed pick first (Wrote written ∷ earlier) within =
    let same = length_crashed pick first earlier within.1 in
    length_torn pick written (crashed pick first earlier) (omega (arith, same, within.0))
    ∙ ap (λ n. max n (written.at + length written.bytes)) same
    ∙ sym (length_overwritten written.at written.bytes (reads_after first earlier) within.0)
length_crashed pick first (Synced ∷ earlier) within = refl

crash_is_image : (pick : Pick) (first : List ℕ) (steps : List Step) → AllBeganWithin first steps
    → IsImage first steps (crashed pick first steps)
crash_is_image pick first [] within = refl
crash_is_image pick first (Wrote written ∷ earlier) within =
    let same = length_crashed pick first earlier within.1 in
    inr (crashed pick first earlier, crash_is_image pick first earlier within.1, is_torn pick written (crashed pick first earlier) (omega (arith, same, within.0)))
crash_is_image pick first (Synced ∷ earlier) within = refl

pub is_image_of : (pick : Pick) (h : DiskHistory) → AllBeganWithin h.first h.steps → (image : List ℕ) → image ≡ crashed pick h.first h.steps → Images (past_of h) image
is_image_of pick h within image is =
    subst (Images (past_of h)) (sym is) (left_image h.first h.steps (length h.steps) (crashed pick h.first h.steps) (crash_is_image pick h.first h.steps within))

-- with the new bytes it is the contents
pub newest_crash : (first : List ℕ) (steps : List Step) → crashed New first steps ≡ reads_after first steps
newest_crash first [] = refl
newest_crash first (Wrote written ∷ earlier) = ap (overwritten written.at written.bytes) (newest_crash first earlier)
newest_crash first (Synced ∷ earlier) = refl

-- one more step of those listed with the oldest first
one_more : (steps : List Step) (i : ℕ) (step : Step) → i < length steps → step ≡ get_or steps i step
    → reverse (take (i + 1) steps) ≡ step ∷ reverse (take i steps)
one_more steps i step lt is =
    ap reverse (take_more steps i step lt) ∙ reverse-append (take i steps) (get_or steps i step ∷ []) ∙ ap (λ s. s ∷ reverse (take i steps)) (sym is)

older : (first : List ℕ) (newer steps : List Step) → AllBeganWithin first (newer ++ steps) → AllBeganWithin first steps
older first [] steps within = within
older first (Wrote written ∷ newer) steps within = older first newer steps within.1
older first (Synced ∷ newer) steps within = older first newer steps within

so_far : (first : List ℕ) (steps : List Step) (i : ℕ) → AllBeganWithin first (reverse steps) → AllBeganWithin first (reverse (take i steps))
so_far first steps i within =
    older first (reverse (drop i steps)) (reverse (take i steps))
    (subst (AllBeganWithin first) (ap reverse (sym (take-append-drop i steps)) ∙ reverse-append (take i steps) (drop i steps)) within)

-- the contents and the torn image, after the i oldest steps
pub record HasGone (pick : Pick) (first : List ℕ) (steps : List Step) (i : ℕ) (reads image : List ℕ) : Type 0 where
  pub reads_are : reads ≡ reads_after first (reverse (take i steps))
  pub image_is : image ≡ crashed pick first (reverse (take i steps))

begins_within : (pick : Pick) (first : List ℕ) (step : Step) (earlier : List Step) → AllBeganWithin first (step ∷ earlier)
    → BeginsWithin step (reads_after first earlier) (crashed pick first earlier)
begins_within pick first (Wrote written) earlier within = (within.0, omega (arith, within.0, length_crashed pick first earlier within.1))
begins_within pick first Synced earlier within = tt

module _ {pick : Pick} {first : List ℕ} {steps : List Step} {i : ℕ} {reads image : List ℕ} (gone : HasGone pick first steps i reads image) (step : Step) (lt : i < length steps) (is : step ≡ get_or steps i step) where
  -- the next step starts within both
  pub next_begins : AllBeganWithin first (reverse steps) → BeginsWithin step reads image
  next_begins within =
      let next = subst (AllBeganWithin first) (one_more steps i step lt is) (so_far first steps (i + 1) within) in
      subst (λ r. BeginsWithin step r image) (sym gone.reads_are)
      (subst (BeginsWithin step (reads_after first (reverse (take i steps)))) (sym gone.image_is)
      (begins_within pick first step (reverse (take i steps)) next))
