-- The result of opening a journal, and the machine after it.
use Rattle.std.proofs.Common.{◌≡◌, ◌≢◌, ◌∙◌, ◌⊎◌, ◌<◌, inl, inr, ⊎_elim, ℕ, Bool, true, false, List, [], Option, Some, None, Result, Ok, Err, refl, ap, sym, subst, length, nat_le, ◌^◌, ◌++◌, ◌+◌, append-nil, drop, ◌∷◌}
use Rattle.std.proofs.lemmas.Option.{same_Some}
use Rattle.std.specs.Option.{ok_or}
use Rattle.std.specs.Prelude.{IfErr, IfSome, IsErrOf, IsTrue, OnOk, OnErr}
use Rattle.st_base.specs.Answers.{◌>>◌, holds_or}
use Rattle.st_io.specs.Past.{Past, StaysAsItWas}
use Rattle.st_journal.proofs.OpeningLemmas.{given_all, given_damaged, given_more, given_none}
use Rattle.st_journal.proofs.ImageLemmas.{map_some}
use Rattle.st_journal.specs.Opening.{Comes, StandFrom, put_before, record_at, opened, refusal_of}
use Rattle.st_journal.specs.Image.{records}
use Rattle.st_journal.specs.declared.journal.JournalRefused.{JournalRefused}
use Rattle.st_journal.specs.declared.journal.JournalRefused.TheVariants.{TooLong, Damaged, DiskFault, WantOfMemory}
use Rattle.st_drive.specs.OnDisk.{EffectLaws}
use Rattle.st_drive.specs.Runs.{Begins}
use Rattle.st_drive.specs.Tables.{is_end}
use Rattle.st_journal_lines.specs.Answering.{Answering, StayedOrWent, behind, behind_opened, AnsweringLaws}
use Rattle.st_journal_lines.specs.Journalled.{WentWithin}

abbrev value_or : {A E : Type 0} → A → Result A E → A
value_or other (Ok x) = x
value_or other (Err e) = other

abbrev error_or : {A E : Type 0} → E → Result A E → E
error_or other (Ok x) = other
error_or other (Err e) = e

-- a value in place of a refusal
pub ok_some : {A E : Type 0} (o : Option A) (e : E) (x : A) → ok_or o e ≡ Ok x → o ≡ Some x
ok_some None e x is = absurd (let no = is in cc)
ok_some (Some y) e x is = ap Some (ap (value_or y) is)

records_by : (short : Bool) (found : Option (List (List ℕ))) (r : List (List ℕ)) → (holds_or short TooLong >> ok_or found Damaged) ≡ Ok r
    → found ≡ Some r
records_by false found r is = absurd (let no = is in cc)
records_by true None r is = absurd (let no = is in cc)
records_by true (Some x) r is = ap Some (ap (value_or x) is)

-- a journal that was opened has these records
pub opened_records : (image : List ℕ) (r : List (List ℕ)) → opened image ≡ Ok r → records image ≡ Some r
opened_records image r is = records_by (nat_le (length image) (2 ^ 40)) (records image) r is

module _ {M C : Type 0} (answering : Answering M C) (m : M) where
  machine_by : (opening : Result (List (List ℕ)) JournalRefused) (n : M) (r : List (List ℕ)) → behind_opened answering m opening ≡ Ok n
      → opening ≡ Ok r → n ≡ behind answering m r
  machine_by (Ok x) n r gives is = sym (ap (value_or n) gives) ∙ ap (behind answering m) (ap (value_or x) is)
  machine_by (Err e) n r gives is = absurd (let no = gives in cc)

  -- the machine is the one after the records
  pub machine_is : (image : List ℕ) (n : M) (r : List (List ℕ)) → behind_opened answering m (opened image) ≡ Ok n → opened image ≡ Ok r
      → n ≡ behind answering m r
  machine_is image n r gives is = machine_by (opened image) n r gives is

  refusal_by : (opening : Result (List (List ℕ)) JournalRefused) (refusal : JournalRefused) → behind_opened answering m opening ≡ Err refusal
      → opening ≡ Err refusal
  refusal_by (Ok r) refusal is = absurd (let no = is in cc)
  refusal_by (Err e) refusal is = ap Err (ap (error_or e) is)

  -- the meaning of a refusal for the journal
  refusal_is : (image : List ℕ) (refusal : JournalRefused) → behind_opened answering m (opened image) ≡ Err refusal → opened image ≡ Err refusal
  refusal_is image refusal is = refusal_by (opened image) refusal is

  -- the refusal of an error, if it is one
  abbrev SaysOf : List ℕ → JournalRefused → Type 0
  SaysOf image error = IfSome (refusal_of error) (λ refusal. behind_opened answering m (opened image) ≡ Err refusal)

  pub damaged_is : (image : List ℕ) (error : JournalRefused) → SaysOf image error → error ≡ Damaged → opened image ≡ Err Damaged
  damaged_is image error says is = refusal_is image Damaged (subst (SaysOf image) is says)

  pub too_long_is : (image : List ℕ) (error : JournalRefused) → SaysOf image error → error ≡ TooLong → opened image ≡ Err TooLong
  too_long_is image error says is = refusal_is image TooLong (subst (SaysOf image) is says)

  -- a refusal while the journal is opened is a refusal
  pub refused_by : (opening : Result (List (List ℕ)) JournalRefused) (error : JournalRefused) → IfSome (refusal_of error) (λ refusal. opening ≡ Err refusal)
      → IfSome (refusal_of error) (λ refusal. behind_opened answering m opening ≡ Err refusal)
  refused_by opening TooLong is = ap (behind_opened answering m) is
  refused_by opening Damaged is = ap (behind_opened answering m) is
  refused_by opening DiskFault is = tt
  refused_by opening WantOfMemory is = tt

  gave_by : (opening : Result (List (List ℕ)) JournalRefused) (n : M) (refusal : JournalRefused) → behind_opened answering m opening ≡ Ok n
      → opening ≡ Err refusal → ⊥
  gave_by (Ok r) n refusal gives is = let no = is in cc
  gave_by (Err e) n refusal gives is = let no = gives in cc

  -- a machine that is there was not refused
  pub not_refused : (image : List ℕ) (n : M) (refusal : JournalRefused) → behind_opened answering m (opened image) ≡ Ok n
      → opened image ≡ Err refusal → ⊥
  not_refused image n refusal gives is = gave_by (opened image) n refusal gives is

  -- the context is the one after at most the records
  pub within_records : {cap : ℕ} {c d : C} (r : List (List ℕ)) → EffectLaws answering.effect cap → StayedOrWent answering m r c d
      → WentWithin answering m c d r
  within_records {c = c} {d = d} r laws stayed = ⊎_elim
      (λ same. ([], (r, refl), inl (m, subst (λ x. answering.effect.ran m c [] m x) (sym same) (laws.ran_none m c))))
      (λ gave. (gave.0, gave.1, inr gave.2))
      stayed

-- the statuses of a run whose journal was opened are not those of one that was refused
pub no_end : (status other : ℕ) → IsTrue (is_end status) → (is_end other ≡ false) → status ≡ other → ⊥
no_end status other end none is = let here : is_end other ≡ true = subst (λ s. is_end s ≡ true) is end in cc

-- ---- the records are replayed after a disk was opened

pub on_ok : {T E P : Type 0} (r : Result T E) → P → OnOk r P
on_ok (Ok x) p = p
on_ok (Err e) p = tt

-- a journal that is refused while its records are read had some left
pub some_left : {T : Type 0} (result : Result T JournalRefused) {left : ℕ} → IfErr result (λ refused. 0 < left)
    → IsErrOf result Damaged ⊎ IsErrOf result TooLong → 0 < left
some_left (Ok x) some is = absurd (⊎_elim (λ no. cc) (λ no. cc) is)
some_left (Err e) some is = some

-- the error is the same, whatever the result would be without it
pub same_error : {T U : Type 0} {error other : JournalRefused} → IsErrOf {T = T} (Err error) other → IsErrOf {T = U} (Err error) other
same_error {error = error} is = ap Err (ap (error_or error) is)

-- a disk that could not be opened is unchanged, unless it failed
pub stays_unopened : {T : Type 0} {error : JournalRefused} {told now : Option (List ℕ)} {a b : Past} → (error ≢ DiskFault → StaysAsItWas told now a b)
    → IsErrOf {T = T} (Err error) Damaged ⊎ IsErrOf {T = T} (Err error) TooLong → StaysAsItWas told now a b
stays_unopened {error = error} stays (inl is) = stays (λ fault. let no = sym fault ∙ ap (error_or error) is in cc)
stays_unopened {error = error} stays (inr is) = stays (λ fault. let no = sym fault ∙ ap (error_or error) is in cc)

-- ---- A machine that replays the records of a journal as they are read.

-- Of the remaining records, some were read, and the rest remains: the machine n at d has executed those, from m at c,
-- or has done nothing yet.
pub record Replayed {M C : Type 0} (answering : Answering M C) (m : M) (c : C) (from to : ℕ) (image : List ℕ)
    (all rest : Option (List (List ℕ))) (n : M) (d : C) : Type 0 where
  pub done : List (List ℕ)
  pub stand : StandFrom from done to image
  pub split : all ≡ put_before done rest
  pub machine : n ≡ behind answering m done
  pub context : answering.effect.ran m c done n d
  pub stayed : (d ≡ c) ⊎ answering.effect.gave_up m c done d

stand_more : (image : List ℕ) (from : ℕ) (done : List (List ℕ)) (to : ℕ) (lines : List (List ℕ)) (end : ℕ) → StandFrom from done to image
    → StandFrom to lines end image → StandFrom from (done ++ lines) end image
stand_more image from [] to lines end stand more = subst (λ place. StandFrom place lines end image) stand more
stand_more image from (body ∷ done) to lines end stand more =
    (stand.0, stand_more image (from + (5 + length body)) done to lines end stand.1 more)

-- the next of the remaining records, up to this place
pub record Next (image : List ℕ) (to end : ℕ) (rest more : Option (List (List ℕ))) (line : List ℕ) : Type 0 where
  pub split : rest ≡ put_before (line ∷ []) more
  pub stand : StandFrom to (line ∷ []) end image

begins_so_far : (first : List (List ℕ)) (all rest : Option (List (List ℕ))) (r : List (List ℕ)) → all ≡ put_before first rest → all ≡ Some r → Begins first r
begins_so_far first all rest r split is = let more = map_some (λ x. first ++ x) rest r (sym split ∙ is) in (more.0, more.2)

module _ {M C : Type 0} {answering : Answering M C} {cap : ℕ} (laws : AnsweringLaws answering cap) where
  behind_more : (m : M) (first : List (List ℕ)) (line : List ℕ) → behind answering m (first ++ line ∷ []) ≡ answering.next (behind answering m first) line
  behind_more m [] line = refl
  behind_more m (l ∷ first) line = behind_more (answering.next m l) first line

  pub replayed_none : (m : M) (c : C) (place : ℕ) (image : List ℕ) (rest : Option (List (List ℕ))) → Replayed answering m c place place image rest rest m c
  replayed_none m c place image rest = record { done = []; stand = refl; split = given_none rest; machine = refl; context = laws.effect.ran_none m c; stayed = inl refl }

  module _ {m n : M} {c d : C} {from to : ℕ} {image : List ℕ} {all rest : Option (List (List ℕ))}
      (so_far : Replayed answering m c from to image all rest n d) where
    -- one more record
    pub replayed_more : {o : M} {e : C} {line : List ℕ} {more : Option (List (List ℕ))} {end : ℕ} → Next image to end rest more line
        → o ≡ answering.next n line → answering.effect.ran n d (line ∷ []) o e → Replayed answering m c from end image all more o e
    replayed_more {o} {e} {line} {more} {end} next stepped ran = record {
      done = so_far.done ++ line ∷ [];
      stand = stand_more image from so_far.done to (line ∷ []) end so_far.stand next.stand;
      split = given_more so_far.done so_far.split line more next.split;
      machine = stepped ∙ ap (λ x. answering.next x line) so_far.machine ∙ sym (behind_more m so_far.done line);
      context = laws.effect.ran_more m n o c d e so_far.done (line ∷ []) so_far.context ran;
      stayed = inr (laws.effect.gave_up_more m n c d e so_far.done (line ∷ []) so_far.context (laws.gave_up_behind n o d e line ran));
    }

    -- no more records
    pub replayed_all : rest ≡ Some [] → behind_opened answering m (ok_or all Damaged) ≡ Ok n
    replayed_all end =
        ap (λ r. behind_opened answering m (ok_or r Damaged)) (given_all so_far.done so_far.split end) ∙ ap Ok (sym so_far.machine)

    pub ran_all : rest ≡ Some [] → (r : List (List ℕ)) → all ≡ Some r → answering.effect.ran m c r n d
    ran_all end r is =
        subst (λ rs. answering.effect.ran m c rs n d) (same_Some so_far.done r (sym (given_all so_far.done so_far.split end) ∙ is)) so_far.context

    -- the next record is refused
    pub refused_as : (more : Option (List (List ℕ))) (error : JournalRefused) → Comes rest more (Err error)
        → IfSome (refusal_of error) (λ refusal. behind_opened answering m (ok_or all Damaged) ≡ Err refusal)
    refused_as more TooLong is = absurd is
    refused_as more Damaged is = ap (λ r. behind_opened answering m (ok_or r Damaged)) (given_damaged so_far.done so_far.split is)
    refused_as more DiskFault is = tt
    refused_as more WantOfMemory is = tt

    -- the first records were replayed, and then the next one was refused
    pub first_within : (first : List (List ℕ)) × (end : ℕ) × StandFrom from first end image × StayedOrWent answering m first c d
    first_within = (
      so_far.done,
      to,
      so_far.stand,
      ⊎_elim (λ same. inl same) (λ gave. inr (so_far.done, ([], append-nil so_far.done), gave)) so_far.stayed,
    )

    -- or the machine gave up at it
    pub first_gave : {e : C} {line : List ℕ} → record_at (drop to image) ≡ Some (Some line) → answering.effect.gave_up n d (line ∷ []) e
        → (first : List (List ℕ)) × (end : ℕ) × StandFrom from first end image × StayedOrWent answering m first c e
    first_gave {e} {line} here gave = (
      so_far.done ++ line ∷ [],
      to + (5 + length line),
      stand_more image from so_far.done to (line ∷ []) (to + (5 + length line)) so_far.stand (here, refl),
      inr (
        so_far.done ++ line ∷ [],
        ([], append-nil (so_far.done ++ line ∷ [])),
        laws.effect.gave_up_more m n c d e so_far.done (line ∷ []) so_far.context gave,
      ),
    )

    pub stayed_within : (r : List (List ℕ)) → all ≡ Some r → StayedOrWent answering m r c d
    stayed_within r is = ⊎_elim
        (λ same. inl same)
        (λ gave. inr (so_far.done, begins_so_far so_far.done all rest r so_far.split is, gave))
        so_far.stayed

    -- the machine gave up at it
    pub gave_within : {e : C} {line : List ℕ} (more : Option (List (List ℕ))) → rest ≡ put_before (line ∷ []) more
        → answering.effect.gave_up n d (line ∷ []) e → (r : List (List ℕ)) → all ≡ Some r → StayedOrWent answering m r c e
    gave_within {e} {line} more next gave r is = inr (
      so_far.done ++ line ∷ [],
      begins_so_far (so_far.done ++ line ∷ []) all more r (given_more so_far.done so_far.split line more next) is,
      laws.effect.gave_up_more m n c d e so_far.done (line ∷ []) so_far.context gave,
    )

-- a journal that is refused while its records are read has this property, if it has it where some were left
pub if_left : {T : Type 0} (P : Type 0) (result : Result T JournalRefused) {left : ℕ} → IfErr result (λ refused. 0 < left)
    → (0 < left → OnErr result P) → OnErr result P
if_left P (Ok x) some all = tt
if_left P (Err e) some all = all some

-- the contents are not too long
pub not_long : (found : Option (List (List ℕ))) → ok_or found Damaged ≡ Err TooLong → ⊥
not_long None is = absurd (let no = is in cc)
not_long (Some r) is = absurd (let no = is in cc)
