-- The laws of the meaning of machines on a disk: effects compose, and a truncated line is answered like the whole
-- one.
use Rattle.std.proofs.Common.{◌≡◌, ◌∙◌, ◌⊎◌, inl, inr, ⊎_elim, ◌++◌, ◌<◌, ◌^◌, ℕ, List, [], ◌∷◌, refl, ap, sym, subst, arith, append_assoc, length, length-append, take}
use Rattle.st_io.specs.Past.{Past, GoesOn}
use Rattle.st_io.proofs.HistoryLemmas.{stands, goes_on}
use Rattle.st_drive.specs.Lines.{Laws}
use Rattle.st_drive.specs.Runs.{Begins}
use Rattle.st_drive.specs.OnDisk.{Rules, replies, after, kept, AllHold, HoldsFirst, HoldsNearlyAll, Went, GaveUp, Store, RanOnDisk, GaveUpOnDisk, disk_meaning, RulesLaws}

-- ---- prefixes of lists

pub begins_more : {A : Type 0} (first lines more : List A) → Begins first lines → Begins first (lines ++ more)
begins_more first lines more b = (b.0 ++ more, sym (append_assoc first b.0 more) ∙ ap (λ xs. xs ++ more) b.1)

pub begins_after : {A : Type 0} (lines first more : List A) → Begins first more → Begins (lines ++ first) (lines ++ more)
begins_after lines first more b = (b.0, append_assoc lines first b.0 ∙ ap (λ xs. lines ++ xs) b.1)

-- the first of these, or else this one
abbrev pub head_or : {A : Type 0} → A → List A → A
head_or x [] = x
head_or x (z ∷ zs) = z

pub head_is : {A : Type 0} (x y : A) (xs ys : List A) → x ∷ xs ≡ y ∷ ys → x ≡ y
head_is x y xs ys e = ap (head_or x) e

-- a prefix of one line is nothing or that line
one_line : (line : List ℕ) (first rest : List (List ℕ)) → first ++ rest ≡ line ∷ [] → (first ≡ []) ⊎ (first ≡ line ∷ [])
one_line line [] rest e = inl refl
one_line line (x ∷ []) rest e = inr (ap (λ y. y ∷ []) (head_is x line rest [] e))
one_line line (x ∷ y ∷ ys) rest e = absurd (let both = ap length e in omega arith)

module _ {M C K : Type 0} (rules : Rules M C K) where
  -- ---- over some lines, and then over others

  pub after_more : (m : M) (lines more : List (List ℕ)) → after rules m (lines ++ more) ≡ after rules (after rules m lines) more
  after_more m [] more = refl
  after_more m (line ∷ lines) more = after_more (rules.next m line) lines more

  pub kept_more : (m : M) (k : K) (lines more : List (List ℕ)) → kept rules m k (lines ++ more) ≡ kept rules (after rules m lines) (kept rules m k lines) more
  kept_more m k [] more = refl
  kept_more m k (line ∷ lines) more = kept_more (rules.next m line) (rules.keep m k line) lines more

  -- ---- the contents of images

  holds_more : (m : M) (k : K) (lines more : List (List ℕ)) (image : List ℕ) → HoldsFirst rules m k lines image → HoldsFirst rules m k (lines ++ more) image
  holds_more m k lines more image h = (h.0, begins_more h.0 lines more h.1, h.2)

  holds_after : (m : M) (k : K) (lines more : List (List ℕ)) (image : List ℕ)
      → HoldsFirst rules (after rules m lines) (kept rules m k lines) more image → HoldsFirst rules m k (lines ++ more) image
  holds_after m k lines more image h =
      (lines ++ h.0, begins_after lines h.0 more h.1, subst (λ x. rules.holds x image) (sym (kept_more m k lines h.0)) h.2)

  nearly_after : (m : M) (k : K) (lines more : List (List ℕ)) (image : List ℕ)
      → HoldsNearlyAll rules (after rules m lines) (kept rules m k lines) more image → HoldsNearlyAll rules m k (lines ++ more) image
  nearly_after m k lines more image h = (
    lines ++ h.0,
    begins_after lines h.0 more h.1,
    omega (arith, h.2, length-append lines more, length-append lines h.0),
    subst
        (λ x. rules.holds x image) (sym (kept_more m k lines h.0)) h.3,
  )

  pub went_nowhere : (m : M) (k : K) (past : Past) → AllHold rules k past → Went rules m k [] past past
  went_nowhere m k past all = record {
    goes = stands past;
    moments = λ image left. ([], ([], refl), all image left);
    now = all;
  }

  -- images since the start of a run are those from then up to a moment, and those since that moment
  moments_on : (m : M) (k : K) (lines more : List (List ℕ)) (a b c : Past) → GoesOn a b → GoesOn b c
      → ((image : List ℕ) → b.left_since a.now image → HoldsFirst rules m k lines image)
      → ((image : List ℕ) → c.left_since b.now image → HoldsFirst rules (after rules m lines) (kept rules m k lines) more image)
      → (image : List ℕ) → c.left_since a.now image → HoldsFirst rules m k (lines ++ more) image
  moments_on m k lines more a b c ab bc first second image left = ⊎_elim
      (λ was. holds_more m k lines more image (first image was))
      (λ new. holds_after m k lines more image (second image new))
      (bc.splits a.now image ab.later left)

  pub went_on : (m : M) (k : K) (lines more : List (List ℕ)) (a b c : Past) → Went rules m k lines a b
      → Went rules (after rules m lines) (kept rules m k lines) more b c → Went rules m k (lines ++ more) a c
  went_on m k lines more a b c p q = record {
    goes = goes_on a b c p.goes q.goes;
    moments = moments_on m k lines more a b c p.goes q.goes p.moments q.moments;
    now = λ image is. subst (λ x. rules.holds x image) (sym (kept_more m k lines more)) (q.now image is);
  }

  pub gave_up_on : (m : M) (k : K) (lines more : List (List ℕ)) (a b c : Past) → Went rules m k lines a b
      → GaveUp rules (after rules m lines) (kept rules m k lines) more b c → GaveUp rules m k (lines ++ more) a c
  gave_up_on m k lines more a b c p q = record {
    goes = goes_on a b c p.goes q.goes;
    moments = moments_on m k lines more a b c p.goes q.goes p.moments q.moments;
    now = λ image is. nearly_after m k lines more image (q.now image is);
  }

  -- ---- a truncated line

  module _ {cap : ℕ} (laws : RulesLaws rules cap) where
    cut_first : (m : M) (k : K) (line image : List ℕ) → length line < 2 ^ 62
        → HoldsFirst rules m k (take cap line ∷ []) image → HoldsFirst rules m k (line ∷ []) image
    cut_first m k line image short h = ⊎_elim
        (λ none. ([], (line ∷ [], refl), subst (λ ls. rules.holds (kept rules m k ls) image) none h.2))
        (λ one. (
          line ∷ [],
          ([], refl),
          subst (λ x. rules.holds x image) (laws.cut_keep m k line short)
              (subst (λ ls. rules.holds (kept rules m k ls) image) one h.2),
        ))
        (one_line (take cap line) h.0 h.1.0 h.1.1)

    cut_nearly : (m : M) (k : K) (line image : List ℕ) → length line < 2 ^ 62
        → HoldsNearlyAll rules m k (take cap line ∷ []) image → HoldsNearlyAll rules m k (line ∷ []) image
    cut_nearly m k line image short h =
        let first = cut_first m k line image short (h.0, h.1, h.3) in
        (first.0, first.1, omega arith, first.2)

    cut_went : (m : M) (k : K) (line : List ℕ) (a b : Past) → length line < 2 ^ 62
        → Went rules m k (take cap line ∷ []) a b → Went rules m k (line ∷ []) a b
    cut_went m k line a b short p = record {
      goes = p.goes;
      moments = λ image left. cut_first m k line image short (p.moments image left);
      now = λ image is. subst (λ x. rules.holds x image) (laws.cut_keep m k line short) (p.now image is);
    }

    cut_gave : (m : M) (k : K) (line : List ℕ) (a b : Past) → length line < 2 ^ 62
        → GaveUp rules m k (take cap line ∷ []) a b → GaveUp rules m k (line ∷ []) a b
    cut_gave m k line a b short p = record {
      goes = p.goes;
      moments = λ image left. cut_first m k line image short (p.moments image left);
      now = λ image is. cut_nearly m k line image short (p.now image is);
    }

-- ---- the laws of its meaning

module _ {M C K D : Type 0} (rules : Rules M C K) (store : Store D) where
  ran_on : {cap : ℕ} (laws : RulesLaws rules cap) (m n o : M) (c d e : C × D) (lines more : List (List ℕ)) → RanOnDisk rules store m c lines n d
      → RanOnDisk rules store n d more o e → RanOnDisk rules store m c (lines ++ more) o e
  ran_on laws m n o c d e lines more p q = record {
    told = λ told. q.told (p.told told);
    came = λ told. q.came (p.told told) ∙ ap (λ x. after rules x more) (p.came told) ∙ sym (after_more rules m lines more);
    effect = laws.effect.ran_more m n o c.0 d.0 e.0 lines more p.effect q.effect;
    disk = λ told k all.
        let went = p.disk told k all in
        let then : Went rules (after rules m lines) (kept rules m k lines) more (store.past d.1) (store.past e.1)
        = subst (λ x. Went rules x (kept rules m k lines) more (store.past d.1) (store.past e.1)) (p.came told)
        (q.disk (p.told told) (kept rules m k lines) went.now) in
        went_on rules m k lines more (store.past c.1) (store.past d.1) (store.past e.1) went then;
  }

  gave_on : {cap : ℕ} (laws : RulesLaws rules cap) (m n : M) (c d e : C × D) (lines more : List (List ℕ)) → RanOnDisk rules store m c lines n d
      → GaveUpOnDisk rules store n d more e → GaveUpOnDisk rules store m c (lines ++ more) e
  gave_on laws m n c d e lines more p q = record {
    effect = laws.effect.gave_up_more m n c.0 d.0 e.0 lines more p.effect q.effect;
    disk = λ told k all.
        let went = p.disk told k all in
        let then : GaveUp rules (after rules m lines) (kept rules m k lines) more (store.past d.1) (store.past e.1)
        = subst (λ x. GaveUp rules x (kept rules m k lines) more (store.past d.1) (store.past e.1)) (p.came told)
        (q.disk (p.told told) (kept rules m k lines) went.now) in
        gave_up_on rules m k lines more (store.past c.1) (store.past d.1) (store.past e.1) went then;
  }

  pub disk_laws : {cap : ℕ} → RulesLaws rules cap → Laws (disk_meaning rules store) cap
  disk_laws {cap} laws = record {
    silent = λ m. refl;
    positive = laws.positive;
    cut_answers = λ m line more short.
        ap (λ x. x ++ replies rules (rules.next m (take cap line)) more) (laws.cut_reply m line short)
        ∙ ap (λ x. rules.reply m line ++ replies rules x more) (laws.cut_next m line short);
    cut_ran = λ m n c d line short p. record {
      told = p.told;
      came = λ told. p.came told ∙ laws.cut_next m line short;
      effect = laws.effect.cut_ran m n c.0 d.0 line short p.effect;
      disk = λ told k all. cut_went rules laws m k line (store.past c.1) (store.past d.1) short (p.disk told k all);
    };
    cut_gave_up = λ m c d line short p. record {
      effect = laws.effect.cut_gave_up m c.0 d.0 line short p.effect;
      disk = λ told k all. cut_gave rules laws m k line (store.past c.1) (store.past d.1) short (p.disk told k all);
    };
    told_stays = λ m n c d lines p told. p.told told;
    ran_none = λ m c. record {
      told = λ told. told;
      came = λ told. refl;
      effect = laws.effect.ran_none m c.0;
      disk = λ told k all. went_nowhere rules m k (store.past c.1) all;
    };
    ran_more = ran_on laws;
    gave_up_more = gave_on laws;
  }
