-- One line of a machine with its journal.
use Rattle.std.proofs.Common.{◌≡◌, ◌∙◌, ◌⊎◌, inl, inr, ⊎_elim, ◌++◌, ◌+◌, ℕ, true, List, [], ◌∷◌, Option, Some, None, refl, ap, sym, subst, length}
use Rattle.std.proofs.Math.Path.{subst₂}
use Rattle.std.proofs.lemmas.Bool.{false≢true}
use Rattle.std.specs.Prelude.{IsSome}
use Rattle.st_io.specs.Past.{Past, Images, Leaves}
use Rattle.st_io.specs.Histories.{IfTold}
use Rattle.st_drive.specs.OnDisk.{AllHold, GaveUpOnDisk, IsTold, RanOnDisk, Store, recording}
use Rattle.st_drive.proofs.OnDiskLemmas.{gave_up_recording, has_recorded}
use Rattle.st_journal.specs.Image.{records, IsBeforeOrAfter, with_record, JournalValue, at_end}
use Rattle.st_journal_lines.specs.Answering.{Answering, grown, recorder_of}

module _ {M C : Type 0} (answering : Answering M C) where
  -- if the contents are revealed, all images have the records of the contents
  there : (told : Option (List ℕ)) (past : Past) (r : List (List ℕ)) → IfTold told (Images past)
      → AllHold (recording (recorder_of answering)) r past → IfTold told (λ image. records image ≡ Some r)
  there told past r is all image here = all image (is image here)

  -- one more record, or not yet
  moments_of : (told : Option (List ℕ)) (a b : Past) (line : List ℕ) (r : List (List ℕ)) → IsSome told → IfTold told (λ image. records image ≡ Some r)
      → IfTold told (λ old. Leaves (IsBeforeOrAfter (records old) line) a b)
      → Leaves (λ image. (records image ≡ Some r) ⊎ (records image ≡ Some (r ++ line ∷ []))) a b
  moments_of None a b line r some is moments = absurd (false≢true some)
  moments_of (Some old) a b line r some is moments =
      let m = moments old refl in
      let here = is old refl in
      record {
        goes = m.goes;
        each = λ image left. ⊎_elim (λ before. inl (before ∙ here)) (λ more. inr (more ∙ ap (with_record line) here)) (m.each image left);
      }

  lasting_of : (told : Option (List ℕ)) (b : Past) (line : List ℕ) (r : List (List ℕ)) → IsSome told → IfTold told (λ image. records image ≡ Some r)
      → IfTold told (λ old. (image : List ℕ) → Images b image → records image ≡ with_record line (records old))
      → AllHold (recording (recorder_of answering)) (r ++ line ∷ []) b
  lasting_of None b line r some is lasting image here = absurd (false≢true some)
  lasting_of (Some old) b line r some is lasting image here = lasting old refl image here ∙ ap (with_record line) (is old refl)

  module _ {D : Type 0} (store : Store D) (m : M) (journal : JournalValue) (line : List ℕ) (c d : C) (a b : D)
      (is : answering.changes m line ≡ true) (image : IfTold (store.reads a) (Images (store.past a)))
      (moments : IfTold (store.reads a) (λ old. Leaves (IsBeforeOrAfter (records old) line) (store.past a) (store.past b)))
      {self : M × JournalValue} (viewed : (m, journal) ≡ self) where
    moments_told : IsTold store a → (r : List (List ℕ)) → AllHold (recording (recorder_of answering)) r (store.past a)
        → Leaves (λ x. (records x ≡ Some r) ⊎ (records x ≡ Some (r ++ line ∷ []))) (store.past a) (store.past b)
    moments_told t r all =
        moments_of (store.reads a) (store.past a) (store.past b) line r t (there (store.reads a) (store.past a) r image all) moments

    -- the line was recorded
    pub ran_recorded : (n : M) (longer : JournalValue) {after : M × JournalValue} → after ≡ (n, longer)
        → answering.effect.ran m c (line ∷ []) n d → (IsTold store a → IsTold store b)
        → ◌≡◌ {A = M × JournalValue} (n, longer) (answering.next m line, at_end (journal.end + 5 + length line))
        → IfTold (store.reads a) (λ old. (x : List ℕ) → Images (store.past b) x → records x ≡ with_record line (records old))
        → RanOnDisk (recording (recorder_of answering)) store self (c, a) (line ∷ []) after (d, b)
    ran_recorded n longer same ran told came lasting =
        subst₂ (λ x y. RanOnDisk (recording (recorder_of answering)) store x (c, a) (line ∷ []) y (d, b)) viewed (sym same)
        (has_recorded (recorder_of answering) (record {
          changes = is;
          effect = ran;
          told = told;
          came = λ t. came ∙ ap (λ j. (answering.next m line, j)) (sym (ap (λ t. grown t journal line) is));
          moments = moments_told;
          now = λ t r all. lasting_of (store.reads a) (store.past b) line r t (there (store.reads a) (store.past a) r image all) lasting;
        }))

    -- the machine gave up at it
    pub gave_recorded : answering.effect.gave_up m c (line ∷ []) d
        → GaveUpOnDisk (recording (recorder_of answering)) store self (c, a) (line ∷ []) (d, b)
    gave_recorded gave =
        subst (λ x. GaveUpOnDisk (recording (recorder_of answering)) store x (c, a) (line ∷ []) (d, b)) viewed
        (gave_up_recording (recorder_of answering) (record { changes = is; effect = gave; moments = moments_told }))
