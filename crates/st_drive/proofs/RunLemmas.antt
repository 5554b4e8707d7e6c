-- Lemmas on runs of a machine.
use Rattle.std.proofs.Common.{◌≡◌, ◌∙◌, ◌++◌, ◌+◌, ◌≤◌, ◌<◌, ◌^◌, ℕ, List, [], ◌∷◌, refl, ap, sym, subst, inl, inr, arith, append_assoc, append-nil, length, length-append, take, ◌⊎◌, ⊎_elim}
use Rattle.std.proofs.lemmas.List.Elements.{Contains-append_left, Contains-append_right, Contains-append_cases, Contains-push_cases}
use Rattle.std.specs.Prelude.{Contains}
use Rattle.st_drive.proofs.LineLemmas.{cut_append, cut_length}
use Rattle.st_drive.specs.Lines.{CutTo, Meaning, Laws}
use Rattle.st_drive.specs.Runs.{Goes, Stops, GoesOverCut, StopsOverCut, Begins, RanOver, GaveUpOver, NearlyReplied, CarriedOut, EndsWithin}
use Rattle.st_drive.specs.Tables.{NoneTwice, Run, AreChained, all_released}
use Rattle.st_drive.specs.inside.Parts.{Ascend}

pub begins_trans : {A : Type 0} (a b c : List A) → Begins a b → Begins b c → Begins a c
begins_trans a b c p q = (p.0 ++ q.0, sym (append_assoc a p.0 q.0) ∙ ap (λ xs. xs ++ q.0) p.1 ∙ q.1)

pub begins_behind : {A : Type 0} (a b c : List A) → Begins b c → Begins (a ++ b) (a ++ c)
begins_behind a b c p = (p.0, append_assoc a b p.0 ∙ ap (λ xs. a ++ xs) p.1)

-- ---- the end of a run

-- with more lines after
ends_longer : (ran gave : List (List ℕ) → Type 0) (answered later ks : List (List ℕ)) → EndsWithin ran gave answered later
    → EndsWithin ran gave answered (later ++ ks)
ends_longer ran gave answered later ks (inl r) = inl r
ends_longer ran gave answered later ks (inr r) = inr (r.0, r.1 ++ ks, ap (λ xs. xs ++ ks) r.2, r.3)

module _ (ran gave over given : List (List ℕ) → Type 0) (answered later : List (List ℕ)) where
  -- a property of some lines that implies one of others
  pub ends_map : ((ls : List (List ℕ)) → ran ls → over ls) → ((ls : List (List ℕ)) → gave ls → given ls) → EndsWithin ran gave answered later
      → EndsWithin over given answered later
  ends_map f g (inl r) = inl (f answered r)
  ends_map f g (inr r) = inr (r.0, r.1, r.2, g (answered ++ r.0 ∷ []) r.3)

  -- with more lines before
  ends_behind : (ls : List (List ℕ)) → ((ks : List (List ℕ)) → ran ks → over (ls ++ ks)) → ((ks : List (List ℕ)) → gave ks → given (ls ++ ks))
      → EndsWithin ran gave answered later → EndsWithin over given (ls ++ answered) later
  ends_behind ls f g (inl r) = inl (f answered r)
  ends_behind ls f g (inr r) = inr (r.0, r.1, r.2, subst given (sym (append_assoc ls answered (r.0 ∷ []))) (g (answered ++ r.0 ∷ []) r.3))

  -- at most one line was executed
  ends_few : length (answered ++ later) ≤ 1 → ((ls : List (List ℕ)) → length ls ≤ 1 → ran ls → over ls)
      → ((ls : List (List ℕ)) → length ls ≤ 1 → gave ls → given ls) → EndsWithin ran gave answered later → EndsWithin over given answered later
  ends_few few f g (inl r) = inl (f answered (omega (arith, few, length-append answered later)) r)
  ends_few few f g (inr r) =
      let next = ap length r.2 in
      inr (r.0, r.1, r.2, g (answered ++ r.0 ∷ []) (omega (arith, few, next, length-append answered later, length-append answered (r.0 ∷ []))) r.3)

module _ {M C : Type 0} {means : Meaning M C} {cap : ℕ} (laws : Laws means cap) where
  -- the lines executed from m at c to d, with these written replies
  abbrev Ran : Type 0 → (m : M) (c d : C) → List ℕ → List (List ℕ) → Type 0
  Ran prompt m c d written = CarriedOut (means.told c) prompt (means.answers m) written (RanOver means m c d)

  abbrev Gave : Type 0 → (m : M) (c d : C) → List ℕ → List (List ℕ) → Type 0
  Gave prompt m c d written = CarriedOut (means.told c) prompt (means.answers m) written (GaveUpOver means m c d)

  -- ---- the replies that are written

  -- those to at most one line
  nearly_few : (m : M) (written : List ℕ) (lines : List (List ℕ)) → length lines ≤ 1 → NearlyReplied (means.answers m) written lines
  nearly_few m written [] few = inl (written, ap (λ xs. xs ++ written) (laws.silent m))
  nearly_few m written (line ∷ []) few = inr ([], line, refl, (written, ap (λ xs. xs ++ written) (laws.silent m)))
  nearly_few m written (line ∷ next ∷ lines) few = absurd (omega arith)

  -- ---- some lines were executed

  module _ {m n : M} {c d : C} {ls : List (List ℕ)} {w : List ℕ} (p : Goes means m c ls w n d) where
    -- all replies to them
    nearly_all : means.told c → Begins (means.answers m ls) w
    nearly_all told = (
      [],
      append-nil (means.answers m ls) ∙ ap (means.answers m) (sym (append-nil ls)) ∙ p.on told [] ∙ ap (λ xs. w ++ xs) (laws.silent n) ∙ append-nil w,
    )

    -- the replies to more lines
    nearly_behind : (v : List ℕ) → means.told c → (lines : List (List ℕ))
        → Begins (means.answers n lines) v → Begins (means.answers m (ls ++ lines)) (w ++ v)
    nearly_behind v told lines b = (
      b.0,
      ap (λ xs. xs ++ b.0) (p.on told lines) ∙ append_assoc w (means.answers n lines) b.0 ∙ ap (λ xs. w ++ xs) b.1,
    )

    nearly_more : (v : List ℕ) → means.told c → (lines : List (List ℕ))
        → NearlyReplied (means.answers n) v lines → NearlyReplied (means.answers m) (w ++ v) (ls ++ lines)
    nearly_more v told lines (inl b) = inl (nearly_behind v told lines b)
    nearly_more v told lines (inr r) = inr (
      ls ++ r.0,
      r.1,
      append_assoc ls r.0 (r.1 ∷ []) ∙ ap (λ xs. ls ++ xs) r.2,
      nearly_behind v told r.0 r.3,
    )

    -- the context after them and the rest
    ends_more : {prompt : Type 0} {e : C} (answered later : List (List ℕ)) (v : List ℕ)
        → EndsWithin (Ran prompt n d e v) (Gave prompt n d e v) answered later
        → EndsWithin (Ran prompt m c e (w ++ v)) (Gave prompt m c e (w ++ v)) (ls ++ answered) later
    ends_more {prompt} {e} answered later v =
        ends_behind (Ran prompt n d e v) (Gave prompt n d e v) (Ran prompt m c e (w ++ v)) (Gave prompt m c e (w ++ v)) answered later ls
        (λ ks r. (
          (r.0.0, laws.ran_more m n r.0.0 c d e ls ks p.context r.0.1),
          λ now told. nearly_more v told ks (r.1 now (laws.told_stays m n c d ls p.context told)),
        ))
        (λ ks r. (
          laws.gave_up_more m n c d e ls ks p.context r.0,
          λ now told. nearly_more v told ks (r.1 now (laws.told_stays m n c d ls p.context told)),
        ))

    goes_more : {o : M} {e : C} {ks : List (List ℕ)} {v : List ℕ} → Goes means n d ks v o e
        → Goes means m c (ls ++ ks) (w ++ v) o e
    goes_more {o} {e} {ks} {v} q = record {
      on =
          λ told more. ap (means.answers m) (append_assoc ls ks more) ∙ p.on told (ks ++ more) ∙ ap (λ xs. w ++ xs)
          (q.on (laws.told_stays m n c d ls p.context told) more)
          ∙ sym (append_assoc w v (means.answers o more));
      context = laws.ran_more m n o c d e ls ks p.context q.context;
    }

    stops_more : {prompt : Type 0} {e : C} {ks : List (List ℕ)} {v : List ℕ}
        → Stops prompt means n d ks v e → Stops prompt means m c (ls ++ ks) (w ++ v) e
    stops_more {v = v} q = record {
      answered = ls ++ q.answered;
      later = q.later;
      all = append_assoc ls q.answered q.later ∙ ap (λ xs. ls ++ xs) q.all;
      off = λ told more. let r = q.off (laws.told_stays m n c d ls p.context told) more in (
        r.0,
        append_assoc w v r.0 ∙ ap (λ xs. w ++ xs) r.1 ∙ sym (p.on told (q.answered ++ more)) ∙ sym
            (ap (means.answers m) (append_assoc ls q.answered more)),
      );
      context = ends_more q.answered q.later v q.context;
    }

    -- it may stop at any moment
    pub goes_stops : {prompt : Type 0} (ks : List (List ℕ)) → Stops prompt means m c (ls ++ ks) w d
    goes_stops ks = record {
      answered = ls;
      later = ks;
      all = refl;
      off = λ told more. (means.answers n more, sym (p.on told more));
      context = inl ((n, p.context), λ now told. inl (nearly_all told));
    }

  -- ---- for whole lines

  pub stops_longer : {prompt : Type 0} {m : M} {c d : C} (ls ks : List (List ℕ)) (w : List ℕ) → Stops prompt means m c ls w d
      → Stops prompt means m c (ls ++ ks) w d
  stops_longer {prompt} {m} {c} {d} ls ks w p = record {
    answered = p.answered;
    later = p.later ++ ks;
    all = sym (append_assoc p.answered p.later ks) ∙ ap (λ xs. xs ++ ks) p.all;
    off = p.off;
    context = ends_longer (Ran prompt m c d w) (Gave prompt m c d w) p.answered p.later ks p.context;
  }

  -- only a part of the written bytes is known
  stops_shorter : {m : M} {c d : C} {ls : List (List ℕ)} (w v : List ℕ) → Stops ⊥ means m c ls w d → Begins v w
      → Stops ⊥ means m c ls v d
  stops_shorter {m} {c} {d} w v p q = record {
    answered = p.answered;
    later = p.later;
    all = p.all;
    off = λ told more. begins_trans v w (means.answers m (p.answered ++ more)) q (p.off told more);
    context = ends_map (Ran ⊥ m c d w) (Gave ⊥ m c d w) (Ran ⊥ m c d v) (Gave ⊥ m c d v) p.answered p.later
        (λ ls r. (r.0, λ now. absurd now)) (λ ls r. (r.0, λ now. absurd now)) p.context;
  }

  -- for at most one line
  stops_few : {prompt : Type 0} {m : M} {c d : C} {ls : List (List ℕ)} {w : List ℕ} → length ls ≤ 1 → Stops ⊥ means m c ls w d
      → Stops prompt means m c ls w d
  stops_few {prompt} {m} {c} {d} {ls} {w} few p = record {
    answered = p.answered;
    later = p.later;
    all = p.all;
    off = p.off;
    context = ends_few (Ran ⊥ m c d w) (Gave ⊥ m c d w) (Ran prompt m c d w) (Gave prompt m c d w) p.answered p.later (let both = ap length p.all in omega (arith, few, both))
        (λ ls short r. (r.0, λ now told. nearly_few m w ls short)) (λ ls short r. (r.0, λ now told. nearly_few m w ls short)) p.context;
  }

  -- for a machine that isn't prompt
  stops_slow : {prompt : Type 0} {m : M} {c d : C} {ls : List (List ℕ)} {w : List ℕ} → (prompt → ⊥) → Stops ⊥ means m c ls w d
      → Stops prompt means m c ls w d
  stops_slow {prompt} {m} {c} {d} {ls} {w} slow p = record {
    answered = p.answered;
    later = p.later;
    all = p.all;
    off = p.off;
    context = ends_map (Ran ⊥ m c d w) (Gave ⊥ m c d w) (Ran prompt m c d w) (Gave prompt m c d w) p.answered p.later
        (λ ls r. (r.0, λ now. absurd (slow now))) (λ ls r. (r.0, λ now. absurd (slow now))) p.context;
  }

  -- ---- for all lines that are truncated to the kept ones

  goes_none : (m : M) (c : C) (lines : List (List ℕ)) → CutTo cap lines [] → Goes means m c lines [] m c
  goes_none m c [] cut = record { on = λ told more. refl; context = laws.ran_none m c }
  goes_none m c (line ∷ lines) cut = absurd cut

  pub went_none : (m : M) (c : C) → GoesOverCut means cap m c [] [] m c
  went_none m c = record { of = goes_none m c }

  module _ {m n : M} {c d : C} {ls : List (List ℕ)} {w : List ℕ} (p : GoesOverCut means cap m c ls w n d) where
    pub went_more : {o : M} {e : C} {ks : List (List ℕ)} {v : List ℕ}
        → GoesOverCut means cap n d ks v o e → GoesOverCut means cap m c (ls ++ ks) (w ++ v) o e
    went_more {o} {e} {ks} {v} q = record {
      of = λ lines cut. let s = cut_append cap lines ls ks cut in subst (λ xs. Goes means m c xs (w ++ v) o e) s.2
          (goes_more (p.of s.0 s.3) (q.of s.1 s.4));
    }

    pub stopped_more : {prompt : Type 0} {e : C} {ks : List (List ℕ)} {v : List ℕ}
        → StopsOverCut prompt means cap n d ks v e → StopsOverCut prompt means cap m c (ls ++ ks) (w ++ v) e
    stopped_more {prompt} {e} {ks} {v} q = record {
      of = λ lines cut. let s = cut_append cap lines ls ks cut in subst (λ xs. Stops prompt means m c xs (w ++ v) e) s.2
          (stops_more (p.of s.0 s.3) (q.of s.1 s.4));
    }

    -- it may stop at any moment
    pub went_stopped : {prompt : Type 0} (ks : List (List ℕ)) → StopsOverCut prompt means cap m c (ls ++ ks) w d
    went_stopped {prompt} ks = record {
      of = λ lines cut. let s = cut_append cap lines ls ks cut in subst (λ xs. Stops prompt means m c xs w d) s.2
          (goes_stops (p.of s.0 s.3) s.1);
    }

  pub stopped_longer : {prompt : Type 0} {m : M} {c d : C} {ls : List (List ℕ)} {w : List ℕ} (ks : List (List ℕ))
      → StopsOverCut prompt means cap m c ls w d → StopsOverCut prompt means cap m c (ls ++ ks) w d
  stopped_longer {prompt} {m} {c} {d} {ls} {w} ks p = record {
    of = λ lines cut. let s = cut_append cap lines ls ks cut in subst (λ xs. Stops prompt means m c xs w d) s.2 (stops_longer s.0 s.1 w (p.of s.0 s.3));
  }

  pub stopped_shorter : {m : M} {c d : C} {ls : List (List ℕ)} {w : List ℕ} (v : List ℕ)
      → StopsOverCut ⊥ means cap m c ls w d → Begins v w → StopsOverCut ⊥ means cap m c ls v d
  stopped_shorter {w = w} v p q = record { of = λ lines cut. stops_shorter w v (p.of lines cut) q }

  -- within at most one line, so at most one reply is missing
  pub stopped_few : {prompt : Type 0} {m : M} {c d : C} {ls : List (List ℕ)} {w : List ℕ} → length ls ≤ 1
      → StopsOverCut ⊥ means cap m c ls w d → StopsOverCut prompt means cap m c ls w d
  stopped_few {ls = ls} few p = record {
    of = λ lines cut. stops_few (let same = cut_length cap lines ls cut in omega (arith, few, same)) (p.of lines cut);
  }

  -- it isn't prompt
  pub stopped_slow : {prompt : Type 0} {m : M} {c d : C} {ls : List (List ℕ)} {w : List ℕ} → (prompt → ⊥)
      → StopsOverCut ⊥ means cap m c ls w d → StopsOverCut prompt means cap m c ls w d
  stopped_slow slow p = record { of = λ lines cut. stops_slow slow (p.of lines cut) }

  -- nothing is done yet
  pub stopped_none : (m : M) (c : C) (ls : List (List ℕ)) → StopsOverCut ⊥ means cap m c ls [] c
  stopped_none m c ls = record {
    of = λ lines cut. record {
      answered = [];
      later = lines;
      all = refl;
      off = λ told more. (means.answers m more, refl);
      context = inl ((m, laws.ran_none m c), λ now. absurd now);
    };
  }

  -- ---- one step

  -- lines that are truncated to one are one line
  one_cut : (line : List ℕ) (lines : List (List ℕ)) → CutTo cap lines (line ∷ [])
      → (whole : List ℕ) × (whole ∷ [] ≡ lines) × (length whole < 2 ^ 62) × (take cap whole ≡ line)
  one_cut line [] cut = absurd cut
  one_cut line (whole ∷ []) cut = (whole, refl, cut.0, cut.1)
  one_cut line (whole ∷ next ∷ lines) cut = absurd cut.2

  pub went_one : {m n : M} {c d : C} (line reply : List ℕ)
      → (means.told c → (more : List (List ℕ)) → means.answers m (line ∷ more) ≡ reply ++ means.answers n more)
      → means.ran m c (line ∷ []) n d → GoesOverCut means cap m c (line ∷ []) reply n d
  went_one {m} {n} {c} {d} line reply p r = record {
    of = λ lines cut. let s = one_cut line lines cut in subst (λ xs. Goes means m c xs reply n d) s.1 (record {
      on = λ told more. sym (laws.cut_answers m s.0 more s.2) ∙ ap (λ xs. means.answers m (xs ∷ more)) s.3 ∙ p told more;
      context = laws.cut_ran m n c d s.0 s.2 (subst (λ xs. means.ran m c (xs ∷ []) n d) (sym s.3) r);
    });
  }

  pub stopped_one : {m : M} {c d : C} (line : List ℕ) → means.gave_up m c (line ∷ []) d
      → StopsOverCut ⊥ means cap m c (line ∷ []) [] d
  stopped_one {m} {c} {d} line r = record {
    of = λ lines cut. let s = one_cut line lines cut in subst (λ xs. Stops ⊥ means m c xs [] d) s.1 (record {
      answered = [];
      later = s.0 ∷ [];
      all = refl;
      off = λ told more. (means.answers m more, refl);
      context = inr (s.0, [], refl, (laws.cut_gave_up m c d s.0 s.2 (subst (λ xs. means.gave_up m c (xs ∷ []) d) (sym s.3) r), λ now. absurd now));
    });
  }

-- ---- Numbers that ascend, and numbers over runs.

pub none_in : (q : ℕ) → Contains [] q → ⊥
none_in q c = let lt = c.1 in absurd (omega arith)

pub one_in : (x q : ℕ) → Contains (x ∷ []) q → x ≡ q
one_in x q c = ⊎_elim (λ none. absurd (none_in q none)) (λ is. is) (Contains-push_cases [] x q c)

-- the first item of a list, or one of the others
first_or_other : (x q : ℕ) (xs : List ℕ) → Contains (x ∷ xs) q → (x ≡ q) ⊎ Contains xs q
first_or_other x q xs c = ⊎_elim (λ first. inl (one_in x q first)) inr (Contains-append_cases (x ∷ []) xs q c)

-- ---- ascending lists

pub ascend_lower : (a b : ℕ) (qs : List ℕ) → a ≤ b → Ascend b qs → Ascend a qs
ascend_lower a b [] le p = tt
ascend_lower a b (q ∷ qs) le p = (omega (arith, le, p.0), p.1)

pub at_least : (least q : ℕ) (qs : List ℕ) → Ascend least qs → Contains qs q → least ≤ q
at_least least q [] p c = absurd (none_in q c)
at_least least q (x ∷ qs) p c = ⊎_elim
    (λ is. omega (arith, is, p.0))
    (λ other. omega (arith, p.0, at_least (x + 1) q qs p.1 other))
    (first_or_other x q qs c)

pub none_twice : (least : ℕ) (qs : List ℕ) → Ascend least qs → NoneTwice qs
none_twice least [] p = tt
none_twice least (q ∷ qs) p = (λ c. let above = at_least (q + 1) q qs p.1 c in absurd (omega arith), none_twice (q + 1) qs p.1)

-- ---- over runs

module _ (spent : List ℕ → ℕ → Type 0) where
  -- numbers released in these runs were not spent in the image that they start on
  never_spent : (image : List ℕ) (runs : List Run) → AreChained spent image runs
      → (q : ℕ) → Contains (all_released runs) q → spent image q → ⊥
  never_spent image [] follow q c was = none_in q c
  never_spent image (run ∷ runs) follow q c was =
      let here = subst (λ i. spent i q) (sym follow.0) was in
      ⊎_elim
      (λ first. follow.1.fresh q first here)
      (λ other. never_spent run.left runs follow.2 q other (follow.1.stays q here))
      (Contains-append_cases run.released (all_released runs) q c)

  none_twice_both : (qs rs : List ℕ) → NoneTwice qs → NoneTwice rs → ((q : ℕ) → Contains qs q → Contains rs q → ⊥) → NoneTwice (qs ++ rs)
  none_twice_both [] rs p r apart = r
  none_twice_both (q ∷ qs) rs p r apart = (
    λ c. ⊎_elim
        (λ again. p.0 again)
        (λ other. apart q (Contains-append_left (q ∷ []) qs q (0, omega arith, refl)) other)
        (Contains-append_cases qs rs q c),
    none_twice_both qs rs p.1 r (λ x first other. apart x (Contains-append_right (q ∷ []) qs x first) other),
  )

  -- no number is released twice over these runs
  pub never_twice : (image : List ℕ) (runs : List Run) → AreChained spent image runs → NoneTwice (all_released runs)
  never_twice image [] follow = tt
  never_twice image (run ∷ runs) follow =
      none_twice_both run.released (all_released runs) follow.1.once (never_twice run.left runs follow.2)
      (λ q first other. never_spent run.left runs follow.2 q other (follow.1.durable q first))
