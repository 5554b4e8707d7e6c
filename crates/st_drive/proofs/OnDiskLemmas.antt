-- A machine on a disk: one step, the end of its run, and the run from before its disk is opened.
use Rattle.std.proofs.Common.{◌≡◌, ◌∙◌, ◌⊎◌, inl, inr, ⊎_elim, ◌++◌, ◌+◌, ◌≤◌, ℕ, List, [], ◌∷◌, refl, ap, sym, subst, arith, append_assoc, append-nil, length, length-append, true, Some}
use Rattle.std.proofs.lemmas.List.{nil_from_length}
use Rattle.st_io.proofs.HistoryLemmas.{goes_on, splits_since_sync}
use Rattle.st_io.specs.Past.{Past, Images, Leaves}
use Rattle.st_drive.proofs.RunLemmas.{begins_trans}
use Rattle.st_drive.specs.DiskLaws.{head_is}
use Rattle.st_drive.specs.OnDisk.{Rules, replies, after, AllHold, HoldsFirst, Went, GaveUp, Store, IsTold, disk_meaning, HasReleased, kept, RanOnDisk, GaveUpOnDisk, Recorder, recorded, recording, changing, HasPrefix, HasRepliedPrefix, KeepsPrefixes, KeepsRecords, EndsReplied}
use Rattle.st_drive.specs.Runs.{Begins, NearlyReplied, course}
use Rattle.st_drive.specs.Tables.{AnsweredFirst}
use Rattle.st_drive.specs.inside.OnDisk.{HoldsEither, LeavesOnDisk, Opens, RunLeaves, HoldsReplied, LeavesOneMore, HasRecorded, GaveUpRecording}

-- ---- prefixes of lists

abbrev tail_of : {A : Type 0} → List A → List A
tail_of [] = []
tail_of (z ∷ zs) = zs

-- a list is split in two, and around an item: the item is in the first part, or the first part is a prefix of the
-- items before it
pub before_or_after : {A : Type 0} (first rest before : List A) (item : A) (later : List A) → first ++ rest ≡ before ++ item ∷ later
    → Begins (before ++ item ∷ []) first ⊎ Begins first before
before_or_after [] rest before item later e = inr (before, refl)
before_or_after (x ∷ first) rest [] item later e = inl (first, ap (λ y. y ∷ first) (sym (head_is x item (first ++ rest) later e)))
before_or_after (x ∷ first) rest (y ∷ before) item later e =
    let same = head_is x y (first ++ rest) (before ++ item ∷ later) e in
    ⊎_elim
    (λ b. inl (b.0, ap (λ xs. y ∷ xs) b.1 ∙ ap (λ z. z ∷ first) (sym same)))
    (λ b. inr (b.0, ap (λ xs. x ∷ xs) b.1 ∙ ap (λ z. z ∷ before) same))
    (before_or_after first rest before item later (ap tail_of e))

begins_length : {A : Type 0} (first all : List A) → Begins first all → length first ≤ length all
begins_length first all b = omega (arith, ap length b.1, length-append first b.0)

-- a prefix of another list that is no shorter equals it
begins_all : {A : Type 0} (first all : List A) → Begins first all → length all ≤ length first → all ≡ first
begins_all first all b long =
    let none : b.0 ≡ [] = nil_from_length b.0 (omega (arith, ap length b.1, length-append first b.0)) in
    sym b.1 ∙ ap (λ xs. first ++ xs) none ∙ append-nil first

-- the answered lines and the next one are a prefix of all
behind : (answered : List (List ℕ)) (line : List ℕ) (rest later lines : List (List ℕ)) → later ≡ line ∷ rest → answered ++ later ≡ lines
    → Begins (answered ++ line ∷ []) lines
behind answered line rest later lines next all = (rest, append_assoc answered (line ∷ []) rest ∙ ap (λ xs. answered ++ xs) (sym next) ∙ all)

-- a prefix of some lines and one more that may only miss the last starts with the others
nearly : (answered : List (List ℕ)) (line : List ℕ) (first : List (List ℕ)) → Begins first (answered ++ line ∷ [])
    → length (answered ++ line ∷ []) ≤ length first + 1 → Begins answered first
nearly answered line first b long = ⊎_elim
    (λ more. begins_trans answered (answered ++ line ∷ []) first (line ∷ [], refl) more)
    (λ less.
    let same = begins_all first answered less (omega (arith, long, length-append answered (line ∷ []))) in
    ([], append-nil answered ∙ same))
    (before_or_after first b.0 answered line [] b.1)

-- ---- one line, for the step of a machine

module _ {M C K : Type 0} (rules : Rules M C K) (m : M) (k : K) (line : List ℕ) where
  first_of_one : (image : List ℕ) → HoldsEither rules m k line image → HoldsFirst rules m k (line ∷ []) image
  first_of_one image either = ⊎_elim (λ before. ([], (line ∷ [], refl), before)) (λ now. (line ∷ [], ([], refl), now)) either

  -- the line was answered
  pub line_went : (a b : Past) → Leaves (HoldsEither rules m k line) a b → AllHold rules (rules.keep m k line) b → Went rules m k (line ∷ []) a b
  line_went a b leaves all = record {
    goes = leaves.goes;
    moments = λ image left. first_of_one image (leaves.each image left);
    now = all;
  }

  -- the machine gave up at it
  pub line_gave : (a b : Past) → Leaves (HoldsEither rules m k line) a b → GaveUp rules m k (line ∷ []) a b
  line_gave a b leaves = record {
    goes = leaves.goes;
    moments = λ image left. first_of_one image (leaves.each image left);
    now = λ image is.
        let h = first_of_one image (leaves.each image (b.earlier a.now b.now image leaves.goes.later is)) in
        (h.0, h.1, omega arith, h.2);
  }

module _ {M C K : Type 0} (rules : Rules M C K) where
  -- the machine has replied to a line
  pub replied : (m n : M) (line reply : List ℕ) → reply ≡ rules.reply m line → n ≡ rules.next m line
      → (more : List (List ℕ)) → replies rules m (line ∷ more) ≡ reply ++ replies rules n more
  replied m n line reply is next more =
      ap (λ x. x ++ replies rules (rules.next m line) more) (sym is) ∙ ap (λ x. reply ++ replies rules x more) (sym next)

  pub replies_more : (m : M) (lines more : List (List ℕ)) → replies rules m (lines ++ more) ≡ replies rules m lines ++ replies rules (after rules m lines) more
  replies_more m [] more = refl
  replies_more m (line ∷ lines) more =
      ap (λ xs. rules.reply m line ++ xs) (replies_more (rules.next m line) lines more)
      ∙ sym (append_assoc (rules.reply m line) (replies rules (rules.next m line) lines) (replies rules (after rules (rules.next m line) lines) more))

  -- the replies to a prefix are a prefix of the replies
  pub replies_begin : (m : M) (first lines : List (List ℕ)) → Begins first lines → Begins (replies rules m first) (replies rules m lines)
  replies_begin m first lines b = (replies rules (after rules m first) b.0, sym (replies_more m first b.0) ∙ ap (replies rules m) b.1)

  -- if all replies except the last are written, this holds for a prefix of the lines
  pub nearly_first : (m : M) (written : List ℕ) (first lines : List (List ℕ)) → Begins first lines → NearlyReplied (replies rules m) written lines
      → NearlyReplied (replies rules m) written first
  nearly_first m written first lines b (inl all) =
      inl (begins_trans (replies rules m first) (replies rules m lines) written (replies_begin m first lines b) all)
  nearly_first m written first lines b (inr r) = ⊎_elim
      (λ whole.
      let same : lines ≡ first =
      begins_all first lines b (omega (arith, begins_length (r.0 ++ r.1 ∷ []) first whole, ap length r.2)) in
      subst (NearlyReplied (replies rules m) written) same (inr r))
      (λ less. inl (begins_trans (replies rules m first) (replies rules m r.0) written (replies_begin m first r.0 less) r.3))
      (before_or_after first b.0 r.0 r.1 [] (b.1 ∙ sym r.2))

-- ---- a run, from before its disk is opened

module _ {M C K : Type 0} (rules : Rules M C K) (m : M) (k : K) (lines : List (List ℕ)) where
  -- the images while the disk is opened
  while_opened : (a b : Past) → Opens rules k a b → (image : List ℕ) → b.left_since a.now image
      → Images a image ⊎ HoldsFirst rules m k lines image
  while_opened a b opens image left = ⊎_elim inl (λ holds. inr ([], (lines, refl), holds)) (opens.moments image left)

  -- it was opened, and then lines were answered
  pub run_leaves : (written : List ℕ) (a b c : Past) → Opens rules k a b
      → LeavesOnDisk rules m k lines written b c → RunLeaves rules m k lines written a c
  run_leaves written a b c opens leaves = record {
    goes = goes_on a b c opens.goes leaves.goes;
    moments = λ image left. ⊎_elim (while_opened a b opens image) (λ new. inr (leaves.moments image new))
        (leaves.goes.splits a.now image opens.goes.later left);
    synced = λ image left. ⊎_elim (λ was. ([], (lines, refl), opens.synced image was)) (leaves.moments image)
        (splits_since_sync b c leaves.goes a.now image left);
    end = λ image is. inr (leaves.end image is);
  }

  -- it could not be opened, and nothing was written
  pub run_opens : (a b : Past) → Opens rules k a b → RunLeaves rules m k lines [] a b
  run_opens a b opens = record {
    goes = opens.goes;
    moments = while_opened a b opens;
    synced = λ image left. ([], (lines, refl), opens.synced image left);
    end = λ image is. ⊎_elim
        (λ was. inl (was, refl))
        (λ holds. inr (record {
          first = [];
          begins = (lines, refl);
          released = λ before line later e out. absurd (omega (arith, out));
          replied = inl ([], refl);
          holds = holds;
        }))
        (opens.moments image (b.earlier a.now b.now image opens.goes.later is));
  }

module _ {M C K D : Type 0} (rules : Rules M C K) (store : Store D) where
  -- ---- the end of a run

  module _ {m : M} {c d : C × D} {written : List ℕ} {lines : List (List ℕ)} (told : IsTold store c.1)
      (first : AnsweredFirst (course (disk_meaning rules store) m c d) written lines) where
    -- each line with a written byte of its reply was answered
    released : HasReleased rules m lines written first.answered
    released before line later e out = ⊎_elim
        (λ b. b)
        (λ b. absurd (
        let some = begins_length written (replies rules m first.answered) (first.replies told) in
        let more = begins_length (replies rules m first.answered) (replies rules m before) (replies_begin rules m first.answered before b) in
        omega (arith, some, more, out)))
        (before_or_after first.answered first.later before line later (first.all ∙ sym e))

    pub leaves_on_disk : (k : K) → AllHold rules k (store.past c.1) → LeavesOnDisk rules m k lines written (store.past c.1) (store.past d.1)
    leaves_on_disk k all = ⊎_elim
        (λ ran.
        let went = ran.0.1.disk told k all in
        record {
          goes = went.goes;
          moments = λ image left. let h = went.moments image left in (h.0, begins_trans h.0 first.answered lines h.1 (first.later, first.all), h.2);
          end = λ image is. record {
            first = first.answered;
            begins = (first.later, first.all);
            released = released;
            replied = ran.1 tt told;
            holds = went.now image is;
          };
        })
        (λ gave.
        let gone = gave.3.0.disk told k all in
        let here = behind first.answered gave.0 gave.1 first.later lines gave.2 first.all in
        record {
          goes = gone.goes;
          moments = λ image left. let h = gone.moments image left in (h.0, begins_trans h.0 (first.answered ++ gave.0 ∷ []) lines h.1 here, h.2);
          end = λ image is.
              let h = gone.now image is in
              let had = nearly first.answered gave.0 h.0 h.1 h.2 in
              record {
                first = h.0;
                begins = begins_trans h.0 (first.answered ++ gave.0 ∷ []) lines h.1 here;
                released = λ before line later e out. begins_trans
                    (before ++ line ∷ []) first.answered h.0 (released before line later e out) had;
                replied = nearly_first rules m written h.0 (first.answered ++ gave.0 ∷ []) h.1 (gave.3.1 tt told);
                holds = h.3;
              };
        })
        first.context

    -- and from before the disk was opened
    pub run_on_disk : (k : K) (old : Past) → Opens rules k old (store.past c.1)
        → AllHold rules k (store.past c.1) → RunLeaves rules m k lines written old (store.past d.1)
    run_on_disk k old opens all = run_leaves rules m k lines written old (store.past c.1) (store.past d.1) opens (leaves_on_disk k all)

-- ---- Machines that record the lines that change them.

module _ {M C : Type 0} (recorder : Recorder M C) where
  abbrev rules : Rules M C (List (List ℕ))
  rules = recording recorder

  -- its state is the earlier one, and then the changing lines
  pub kept_is : (m : M) (r lines : List (List ℕ)) → kept rules m r lines ≡ r ++ changing recorder m lines
  kept_is m r [] = sym (append-nil r)
  kept_is m r (line ∷ lines) =
      kept_is (recorder.next m line) (r ++ recorded (recorder.changes m line) line) lines
      ∙ append_assoc r (recorded (recorder.changes m line) line) (changing recorder (recorder.next m line) lines)

  -- ---- one step

  either : (m : M) (line : List ℕ) (r : List (List ℕ)) (a b : Past) → recorder.changes m line ≡ true → AllHold rules r a
      → LeavesOneMore recorder line a b → Leaves (HoldsEither rules m r line) a b
  either m line r a b is all leaves =
      let more = leaves r all in
      record {
        goes = more.goes;
        each = λ image left. ⊎_elim inl (λ has. inr (has ∙ ap (λ t. Some (r ++ recorded t line)) (sym is))) (more.each image left);
      }

  -- a changing line was recorded, by the journal's clauses
  pub has_recorded : {D : Type 0} {store : Store D} {m n : M} {c d : C × D} {line : List ℕ} → HasRecorded recorder store m c line n d
      → RanOnDisk rules store m c (line ∷ []) n d
  has_recorded {D} {store} {m} {n} {c} {d} {line} p = record {
    effect = p.effect;
    told = p.told;
    came = p.came;
    disk = λ told r all. line_went rules m r line (store.past c.1) (store.past d.1)
        (either m line r (store.past c.1) (store.past d.1) p.changes all (p.moments told))
        (λ image here. p.now told r all image here ∙ ap (λ t. Some (r ++ recorded t line)) (sym p.changes));
  }

  -- the machine gave up at it
  pub gave_up_recording : {D : Type 0} {store : Store D} {m : M} {c d : C × D} {line : List ℕ} → GaveUpRecording recorder store m c line d
      → GaveUpOnDisk rules store m c (line ∷ []) d
  gave_up_recording {D} {store} {m} {c} {d} {line} p = record {
    effect = p.effect;
    disk = λ told r all. line_gave rules m r line (store.past c.1) (store.past d.1)
        (either m line r (store.past c.1) (store.past d.1) p.changes all (p.moments told));
  }

  -- ---- a whole run

  has_prefix : (m : M) (r lines : List (List ℕ)) (image : List ℕ) → HoldsFirst rules m r lines image → HasPrefix recorder m r lines image
  has_prefix m r lines image h = (h.0, h.1, h.2 ∙ ap Some (kept_is m r h.0))

  has_replied_prefix : (m : M) (r lines : List (List ℕ)) (written image : List ℕ) → HoldsReplied rules m r lines written image
      → HasRepliedPrefix recorder m r lines written image
  has_replied_prefix m r lines written image h = record {
    prefix = h.first;
    begins = h.begins;
    released = h.released;
    replied = h.replied;
    records_are = h.holds ∙ ap Some (kept_is m r h.first);
  }

  pub ends_replied : (m : M) (r lines : List (List ℕ)) (written : List ℕ) (old new : Past) → LeavesOnDisk rules m r lines written old new
      → EndsReplied recorder m r lines written new
  ends_replied m r lines written old new leaves image is = has_replied_prefix m r lines written image (leaves.end image is)

  module _ (m : M) (r lines : List (List ℕ)) (written : List ℕ) (old new : Past) (leaves : RunLeaves rules m r lines written old new) where
    pub keeps_prefixes : KeepsPrefixes recorder m r lines old new
    keeps_prefixes = record {
      moments = λ image left. ⊎_elim inl (λ h. inr (has_prefix m r lines image h)) (leaves.moments image left);
      synced = λ image left. has_prefix m r lines image (leaves.synced image left);
    }

    pub keeps_records : KeepsRecords recorder m r lines written old new
    keeps_records image is = ⊎_elim inl (λ h. inr (has_replied_prefix m r lines written image h)) (leaves.end image is)
