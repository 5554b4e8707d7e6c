-- Machines that spend a number on their disk before they release it.
use Rattle.std.proofs.Common.{◌≡◌, ◌∙◌, ◌⊎◌, inl, inr, ⊎_elim, ◌++◌, ◌+◌, ◌-◌, ◌≤◌, ◌<◌, ℕ, zero, suc, List, [], ◌∷◌, Option, Some, None, refl, ap, sym, subst, arith, append_assoc, append-nil, length, length-append}
use Rattle.std.specs.Prelude.{Contains}
use Rattle.std.proofs.lemmas.List.Elements.{Contains-append_left, Contains-append_right, Contains-append_cases}
use Rattle.st_io.specs.Past.{Past, Images, Only, Leaves, KeepsSpent, SpentInAll}
use Rattle.st_drive.specs.OnDisk.{Rules, replies, after, kept, AllHold, Went, GaveUp, Store, RanOnDisk, GaveUpOnDisk}
use Rattle.st_drive.specs.inside.OnDisk.{HoldsEither, HoldsReplied, Opens, LeavesOnDisk, RunLeaves, NumberLaws, NextLaws, HasSpent, GaveUpSpending}
use Rattle.st_drive.specs.Tables.{KeepsNumbers}
use Rattle.st_drive.specs.inside.Parts.{Ascend}
use Rattle.st_drive.specs.Runs.{Begins, NearlyReplied}
use Rattle.st_drive.specs.Spending.{Spender, listed, numbers, AllSpent, spending, released, StandsReplied, KeepsStanding, EndsOpened, EndsStanding, CostsOne, LosesOne, KeptNumbers, run_of}
use Rattle.st_drive.proofs.OnDiskLemmas.{line_went, line_gave, run_opens}
use Rattle.st_drive.proofs.RunLemmas.{none_in, one_in, ascend_lower, at_least, none_twice}

at_or_above : (x q : ℕ) → (q ≤ x) ⊎ (suc x ≤ q)
at_or_above x q = search arith

where_is : (q least count : ℕ) → q < least + count + 1 → (q < least) ⊎ (((least ≤ q) × (q < least + count)) ⊎ (q ≡ least + count))
where_is q least count most = search arith

module _ {M C : Type 0} (spender : Spender M C) where
  abbrev rules : Rules M C (List ℕ ⊎ M)
  rules = spending spender

  -- ---- one step, and the opening

  holds_on : (k : List ℕ) (a b : Past) → KeepsSpent spender.spent a b → AllHold rules (inl k) a
      → (image : List ℕ) → b.left_since a.now image → AllSpent spender.spent k image
  holds_on k a b stays all image left = λ q has. stays.stays q (λ y is. all y is q has) image left

  -- numbers spent in every image are so in every later one
  pub all_after : (k : List ℕ) (a b : Past) → KeepsSpent spender.spent a b → AllHold rules (inl k) a
      → AllHold rules (inl k) b
  all_after k a b stays all image is = holds_on k a b stays all image (b.earlier a.now b.now image stays.goes.later is)

  -- spent numbers stay so at each moment
  either : (m : M) (line k : List ℕ) (a b : Past) → KeepsSpent spender.spent a b → AllHold rules (inl k) a
      → Leaves (HoldsEither rules m (inl k) line) a b
  either m line k a b stays all = record { goes = stays.goes; each = λ image left. inl (holds_on k a b stays all image left) }

  of_listed : (o : Option ℕ) (past : Past) → ((q : ℕ) → o ≡ Some q → SpentInAll spender.spent past q)
      → (image : List ℕ) → Images past image → AllSpent spender.spent (listed o) image
  of_listed None past given image is = λ q has. absurd (none_in q has)
  of_listed (Some x) past given image is = λ q has. subst (spender.spent image) (one_in x q has) (given x refl image is)

  -- and the number of the reply is spent
  now_spent : (m : M) (line k : List ℕ) (a b : Past) → KeepsSpent spender.spent a b → AllHold rules (inl k) a
      → ((q : ℕ) → spender.number m line ≡ Some q → SpentInAll spender.spent b q) → AllHold rules (rules.keep m (inl k) line) b
  now_spent m line k a b stays all given image is = λ q has. ⊎_elim
      (λ old. all_after k a b stays all image is q old)
      (λ new. of_listed (spender.number m line) b given image is q new)
      (Contains-append_cases k (listed (spender.number m line)) q has)

  -- a disk is opened
  pub spending_opens : (k : List ℕ) (a b : Past) → KeepsSpent spender.spent a b → AllHold rules (inl k) a
      → Opens rules (inl k) a b
  spending_opens k a b stays all = record {
    goes = stays.goes;
    moments = λ image left. inr (holds_on k a b stays all image left);
    synced = λ image left. holds_on k a b stays all image (b.earlier a.now left.0 image (let lt = left.1 in omega arith) left.3);
  }

  -- a property of both kinds of state is one of all
  of_both : (P : List ℕ ⊎ M → Type 0) → ((k : List ℕ) → P (inl k)) → ((before : M) → P (inr before))
      → (k : List ℕ ⊎ M) → P k
  of_both P numbers machine (inl k) = numbers k
  of_both P numbers machine (inr before) = machine before

  -- a step with a reply, as a step of a run
  pub has_spent : {D : Type 0} {store : Store D} {m n : M} {c d : C × D} {line : List ℕ} → HasSpent spender store m c line n d
      → RanOnDisk rules store m c (line ∷ []) n d
  has_spent {D} {store} {m} {n} {c} {d} {line} p = record {
    effect = p.effect;
    told = p.told;
    came = p.came;
    disk = λ told.
        let a = store.past c.1 in
        let b = store.past d.1 in
        of_both (λ k. AllHold rules k a → Went rules m k (line ∷ []) a b)
        (λ k all. line_went rules m (inl k) line a b (either m line k a b (p.stays told) all) (now_spent m line k a b (p.stays told) all (p.given told)))
        (λ before all. line_went rules m (inr before) line a b (p.moments told before all) (p.now told before all));
  }

  -- and one that gave up
  pub gave_up_spending : {D : Type 0} {store : Store D} {m : M} {c d : C × D} {line : List ℕ} → GaveUpSpending spender store m c line d
      → GaveUpOnDisk rules store m c (line ∷ []) d
  gave_up_spending {D} {store} {m} {c} {d} {line} p = record {
    effect = p.effect;
    disk = λ told.
        let a = store.past c.1 in
        let b = store.past d.1 in
        of_both (λ k. AllHold rules k a → GaveUp rules m k (line ∷ []) a b)
        (λ k all. line_gave rules m (inl k) line a b (either m line k a b (p.stays told) all))
        (λ before all. line_gave rules m (inr before) line a b (p.moments told before all));
  }

  -- ---- released numbers

  -- a released number is that of a line with a written byte of its reply
  record IsReleased (m : M) (lines : List (List ℕ)) (n q : ℕ) : Type 0 where
    pub before : List (List ℕ)
    pub line : List ℕ
    pub later : List (List ℕ)
    pub all : before ++ line ∷ later ≡ lines
    pub number_is : spender.number (after rules m before) line ≡ Some q
    pub out : length (replies rules m before) < n

  listed_is : (o : Option ℕ) (q : ℕ) → Contains (listed o) q → o ≡ Some q
  listed_is None q c = absurd (none_in q c)
  listed_is (Some x) q c = ap Some (one_in x q c)

  is_released : (m : M) (lines : List (List ℕ)) (n q : ℕ) → Contains (released spender m lines n) q → IsReleased m lines n q
  is_released m [] n q c = absurd (none_in q c)
  is_released m (line ∷ lines) zero q c = absurd (none_in q c)
  is_released m (line ∷ lines) (suc n) q c =
      let left = suc n - length (spender.reply m line) in
      ⊎_elim
      (λ here. record {
        before = [];
        line = line;
        later = lines;
        all = refl;
        number_is = listed_is (spender.number m line) q here;
        out = omega arith;
      })
      (λ other.
      let r = is_released (spender.next m line) lines left q other in
      record {
        before = line ∷ r.before;
        line = r.line;
        later = r.later;
        all = ap (λ ls. line ∷ ls) r.all;
        number_is = r.number_is;
        out = omega (arith, r.out, length-append (spender.reply m line) (replies rules (spender.next m line) r.before));
      })
      (Contains-append_cases (listed (spender.number m line)) (released spender (spender.next m line) lines left) q c)

  module _ {lowest : M → ℕ} (laws : NumberLaws spender lowest) where
    after_one : (m : M) (line qs : List ℕ) (o : Option ℕ) → spender.number m line ≡ o
        → Ascend (lowest (spender.next m line)) qs → Ascend (lowest m) (listed o ++ qs)
    after_one m line qs None is p = ascend_lower (lowest m) (lowest (spender.next m line)) qs (laws.rises m line) p
    after_one m line qs (Some q) is p =
        let given = laws.given m line q is in
        (given.0, ascend_lower (q + 1) (lowest (spender.next m line)) qs (omega (arith, given.1)) p)

    -- they ascend from the machine's lowest on
    released_ascend : (m : M) (lines : List (List ℕ)) (n : ℕ) → Ascend (lowest m) (released spender m lines n)
    released_ascend m [] n = tt
    released_ascend m (line ∷ lines) zero = tt
    released_ascend m (line ∷ lines) (suc n) =
        let left = suc n - length (spender.reply m line) in
        after_one m line (released spender (spender.next m line) lines left) (spender.number m line) refl
        (released_ascend (spender.next m line) lines left)

  -- ---- its state over lines

  kept_numbers_are : (m : M) (k : List ℕ) (lines : List (List ℕ)) → kept rules m (inl k) lines ≡ inl (k ++ numbers spender m lines)
  kept_numbers_are m k [] = ap (λ (xs : List ℕ). inl xs) (sym (append-nil k))
  kept_numbers_are m k (line ∷ lines) =
      kept_numbers_are (spender.next m line) (k ++ listed (spender.number m line)) lines
      ∙ ap (λ (xs : List ℕ). inl xs) (append_assoc k (listed (spender.number m line)) (numbers spender (spender.next m line) lines))

  kept_machine_is : (m : M) (lines : List (List ℕ)) → kept rules m (inr m) lines ≡ inr (after rules m lines)
  kept_machine_is m [] = refl
  kept_machine_is m (line ∷ lines) = kept_machine_is (spender.next m line) lines

  numbers_held : (m : M) (k : List ℕ) (first : List (List ℕ)) (image : List ℕ) → rules.holds (kept rules m (inl k) first) image
      → AllSpent spender.spent (k ++ numbers spender m first) image
  numbers_held m k first image = subst (λ x. rules.holds x image) (kept_numbers_are m k first)

  machine_held : (m : M) (first : List (List ℕ)) (image : List ℕ) → rules.holds (kept rules m (inr m) first) image
      → spender.stands (after rules m first) image
  machine_held m first image = subst (λ x. rules.holds x image) (kept_machine_is m first)

  listed_has : (o : Option ℕ) (q : ℕ) → o ≡ Some q → Contains (listed o) q
  listed_has o q is = subst (λ p. Contains (listed p) q) (sym is) (0, omega arith, refl)

  numbers_more : (m : M) (lines more : List (List ℕ)) → numbers spender m (lines ++ more) ≡ numbers spender m lines ++ numbers spender (after rules m lines) more
  numbers_more m [] more = refl
  numbers_more m (line ∷ lines) more =
      ap (λ xs. listed (spender.number m line) ++ xs) (numbers_more (spender.next m line) lines more)
      ∙ sym (append_assoc (listed (spender.number m line)) (numbers spender (spender.next m line) lines) (numbers spender (after rules (spender.next m line) lines) more))

  -- the number of a line is in the state if that line is in the prefix
  numbers_have : (m : M) (before : List (List ℕ)) (line : List ℕ) (first : List (List ℕ)) (q : ℕ) → Begins (before ++ line ∷ []) first
      → spender.number (after rules m before) line ≡ Some q → Contains (numbers spender m first) q
  numbers_have m before line first q has is =
      let upto = before ++ line ∷ [] in
      let here = numbers_more m before (line ∷ []) in
      let one = Contains-append_left (listed (spender.number (after rules m before) line)) [] q (listed_has (spender.number (after rules m before) line) q is) in
      let some : Contains (numbers spender m upto) q =
      subst (λ xs. Contains xs q) (sym here) (Contains-append_right (numbers spender m before) (listed (spender.number (after rules m before) line) ++ []) q one) in
      subst (λ ls. Contains (numbers spender m ls) q) has.1
      (subst (λ xs. Contains xs q) (sym (numbers_more m upto has.0)) (Contains-append_left (numbers spender m upto) (numbers spender (after rules m upto) has.0) q some))

  -- ---- a whole run

  module _ (m : M) (lines : List (List ℕ)) (written : List ℕ) (old new : Past)
      (leaves : (k : List ℕ) → AllHold rules (inl k) old → RunLeaves rules m (inl k) lines written old new) where
    one_held : (q : ℕ) → SpentInAll spender.spent old q → AllHold rules (inl (q ∷ [])) old
    one_held q all image is = λ x has. subst (spender.spent image) (one_in q x has) (all image is)

    -- numbers spent in every image at the start are so at each moment
    pub stays_spent : (q : ℕ) → SpentInAll spender.spent old q → (image : List ℕ) → new.left_since old.now image → spender.spent image q
    stays_spent q all image left = ⊎_elim
        (λ was. all image was)
        (λ h. numbers_held m (q ∷ []) h.0 image h.2 q (Contains-append_left (q ∷ []) (numbers spender m h.0) q (0, omega arith, refl)))
        ((leaves (q ∷ []) (one_held q all)).moments image left)

    none_held : AllHold rules (inl []) old
    none_held image is = λ q has. absurd (none_in q has)

    spent_at_end : (q : ℕ) → Contains (released spender m lines (length written)) q → SpentInAll spender.spent new q
    spent_at_end q out image is =
        let r = is_released m lines (length written) q out in
        ⊎_elim
        (λ was. absurd (let none = ap length was.1 in omega (arith, r.out, none)))
        (λ h. numbers_held m [] h.first image h.holds q
        (numbers_have m r.before r.line h.first q (h.released r.before r.line r.later r.all r.out) r.number_is))
        ((leaves [] none_held).end image is)

    module _ (lowest : M → ℕ) (laws : NumberLaws spender lowest) (image : List ℕ)
        (below : (q : ℕ) → spender.spent image q → q < lowest m) where
      pub kept_numbers : KeptNumbers spender m image lines written new
      kept_numbers =
          let out = released spender m lines (length written) in
          let ascend = released_ascend laws m lines (length written) in
          record {
            fresh = λ q is was. omega (arith, below q was, at_least (lowest m) q out ascend is);
            once = none_twice (lowest m) out ascend;
            durable = spent_at_end;
          }

      -- so it is one of the runs that release no number twice
      pub keeps_numbers : Only old image → (left : List ℕ) → Images new left
          → KeepsNumbers spender.spent (run_of spender m image lines written left)
      keeps_numbers only left is =
          let kept = kept_numbers in
          let goes = (leaves [] none_held).goes in
          record {
            fresh = kept.fresh;
            once = kept.once;
            durable = λ q out. kept.durable q out left is;
            stays = λ q was. stays_spent q (λ y here. subst (λ i. spender.spent i q) (sym (only y here)) was) left
                (new.earlier old.now new.now left goes.later is);
          }

  -- the disk could not be opened, and nothing was written
  pub spending_opened : (m : M) (lines : List (List ℕ)) (old new : Past) → KeepsSpent spender.spent old new
      → (k : List ℕ) → AllHold rules (inl k) old → RunLeaves rules m (inl k) lines [] old new
  spending_opened m lines old new stays k all = run_opens rules m (inl k) lines old new (spending_opens k old new stays all)

  -- ---- the machine of the disk's image

  stands_replied : (m : M) (lines : List (List ℕ)) (written image : List ℕ) → HoldsReplied rules m (inr m) lines written image
      → StandsReplied spender m lines written image
  stands_replied m lines written image h = record {
    first = h.first;
    begins = h.begins;
    released = h.released;
    replied = h.replied;
    stands = machine_held m h.first image h.holds;
  }

  pub ends_opened : (m : M) (lines : List (List ℕ)) (written : List ℕ) (old new : Past) → LeavesOnDisk rules m (inr m) lines written old new
      → EndsOpened spender m lines written new
  ends_opened m lines written old new leaves image is = stands_replied m lines written image (leaves.end image is)

  module _ (m : M) (lines : List (List ℕ)) (written : List ℕ) (old new : Past) (leaves : RunLeaves rules m (inr m) lines written old new) where
    pub keeps_standing : KeepsStanding spender m lines old new
    keeps_standing = record {
      moments = λ image left. ⊎_elim inl (λ h. inr (h.0, h.1, machine_held m h.0 image h.2)) (leaves.moments image left);
      synced = λ image left. let h = leaves.synced image left in (h.0, h.1, machine_held m h.0 image h.2);
    }

    pub ends_standing : EndsStanding spender m lines written old new
    ends_standing image is = ⊎_elim inl (λ h. inr (stands_replied m lines written image h)) (leaves.end image is)

  -- ---- at most one number is lost

  module _ {lowest : M → ℕ} (laws : NextLaws spender lowest) where
    lowest_one : (m : M) (line : List ℕ) (o : Option ℕ) → spender.number m line ≡ o → lowest (spender.next m line) ≡ lowest m + length (listed o)
    lowest_one m line None is = omega (arith, laws.stays m line is)
    lowest_one m line (Some q) is = let given = laws.given m line q is in omega (arith, given.0, given.1)

    -- the lowest number rises by the count of numbers used
    lowest_behind : (m : M) (lines : List (List ℕ)) → lowest (after rules m lines) ≡ lowest m + length (numbers spender m lines)
    lowest_behind m [] = omega arith
    lowest_behind m (line ∷ lines) =
        omega (
          arith,
          lowest_one m line (spender.number m line) refl,
          lowest_behind (spender.next m line) lines,
          length-append (listed (spender.number m line)) (numbers spender (spender.next m line) lines),
        )

    -- a reply with a number has at least one byte
    silent_one : (m : M) (line : List ℕ) (o : Option ℕ) → spender.number m line ≡ o → length (spender.reply m line) ≡ 0 → length (listed o) ≡ 0
    silent_one m line None is none = refl
    silent_one m line (Some q) is none = absurd (let given = laws.given m line q is in omega (arith, none, given.2))

    silent_none : (m : M) (lines : List (List ℕ)) → length (replies rules m lines) ≡ 0 → length (numbers spender m lines) ≡ 0
    silent_none m [] none = refl
    silent_none m (line ∷ lines) none =
        let both = length-append (spender.reply m line) (replies rules (spender.next m line) lines) in
        omega (
          arith,
          silent_one m line (spender.number m line) refl (omega (arith, none, both)),
          silent_none (spender.next m line) lines (omega (arith, none, both)),
          length-append (listed (spender.number m line)) (numbers spender (spender.next m line) lines),
        )

    -- the numbers of lines whose replies are written are released
    all_out : (m : M) (first rest : List (List ℕ)) (n : ℕ) → length (replies rules m first) ≤ n
        → length (numbers spender m first) ≤ length (released spender m (first ++ rest) n)
    all_out m [] rest n le = omega arith
    all_out m (line ∷ first) rest zero le = omega (arith, silent_none m (line ∷ first) (omega (arith, le)))
    all_out m (line ∷ first) rest (suc n) le =
        let both = length-append (spender.reply m line) (replies rules (spender.next m line) first) in
        let left = suc n - length (spender.reply m line) in
        omega (
          arith,
          all_out (spender.next m line) first rest left (omega (arith, le, both)),
          length-append (listed (spender.number m line)) (numbers spender (spender.next m line) first),
          length-append (listed (spender.number m line)) (released spender (spender.next m line) (first ++ rest) left),
        )

    -- released numbers follow one another
    one_more_out : (m : M) (line : List ℕ) (o : Option ℕ) → spender.number m line ≡ o → (q : ℕ) (qs : List ℕ) → lowest m ≤ q
        → (lowest (spender.next m line) ≤ q → Contains qs q) → Contains (listed o ++ qs) q
    one_more_out m line None is q qs least more = more (omega (arith, least, laws.stays m line is))
    one_more_out m line (Some x) is q qs least more =
        let given = laws.given m line x is in
        ⊎_elim
        (λ (le : q ≤ x). Contains-append_left (x ∷ []) qs q (let same : x ≡ q = omega (arith, given.0, least, le) in subst (λ y. Contains (x ∷ []) y) same (0, omega arith, refl)))
        (λ (above : suc x ≤ q). Contains-append_right (x ∷ []) qs q (more (omega (arith, given.1, above))))
        (at_or_above x q)

    out_has : (m : M) (lines : List (List ℕ)) (n q : ℕ) → lowest m ≤ q → q < lowest m + length (released spender m lines n)
        → Contains (released spender m lines n) q
    out_has m [] n q least most = absurd (omega (arith, least, most))
    out_has m (line ∷ lines) zero q least most = absurd (omega (arith, least, most))
    out_has m (line ∷ lines) (suc n) q least most =
        let left = suc n - length (spender.reply m line) in
        let qs = released spender (spender.next m line) lines left in
        one_more_out m line (spender.number m line) refl q qs least
        (λ above. out_has (spender.next m line) lines left q above
        (omega (arith, most, lowest_one m line (spender.number m line) refl, length-append (listed (spender.number m line)) qs)))

    one_at_most : (m : M) (line : List ℕ) (o : Option ℕ) → spender.number m line ≡ o → length (listed o) ≤ 1
    one_at_most m line None is = omega arith
    one_at_most m line (Some q) is = omega arith

    -- at most one number of a prefix of the lines is not released
    nearly_out : (m : M) (written : List ℕ) (first rest : List (List ℕ)) → NearlyReplied (replies rules m) written first
        → length (numbers spender m first) ≤ length (released spender m (first ++ rest) (length written)) + 1
    nearly_out m written first rest (inl all) =
        let long = ap length all.1 in
        omega (arith, all_out m first rest (length written) (omega (arith, long, length-append (replies rules m first) all.0)))
    nearly_out m written first rest (inr r) =
        let long = ap length r.3.1 in
        let out = all_out m r.0 (r.1 ∷ rest) (length written) (omega (arith, long, length-append (replies rules m r.0) r.3.0)) in
        let all : r.0 ++ r.1 ∷ rest ≡ first ++ rest = sym (append_assoc r.0 (r.1 ∷ []) rest) ∙ ap (λ ls. ls ++ rest) r.2 in
        let same = ap (λ ls. length (released spender m ls (length written))) all in
        let last = spender.number (after rules m r.0) r.1 in
        let count = ap length (ap (numbers spender m) (sym r.2) ∙ numbers_more m r.0 (r.1 ∷ [])) in
        omega (arith, out, same, count, one_at_most (after rules m r.0) r.1 last refl, length-append (numbers spender m r.0) (listed last ++ []), length-append (listed last) [])

    of_cost : (q least : ℕ) (out : List ℕ) → (least ≤ q → q < least + length out → Contains out q) → q < least + length out + 1
        → CostsOne least out q
    of_cost q least out has most = ⊎_elim
        (λ (lower : q < least). inl lower)
        (λ (here : ((least ≤ q) × (q < least + length out)) ⊎ (q ≡ least + length out)). ⊎_elim
        (λ among. inr (inl (has among.0 among.1)))
        (λ (is : q ≡ least + length out). inr (inr is))
        here)
        (where_is q least (length out) most)

    module _ (m : M) (lines : List (List ℕ)) (written : List ℕ) (old new : Past) (leaves : RunLeaves rules m (inr m) lines written old new) where
      loses_replied : (image : List ℕ) → StandsReplied spender m lines written image → (q : ℕ) → spender.spent image q
          → CostsOne (lowest m) (released spender m lines (length written)) q
      loses_replied image h q spent =
          let below = laws.below (after rules m h.first) image q h.stands spent in
          let few = nearly_out m written h.first h.begins.0 h.replied in
          let same = ap (λ ls. length (released spender m ls (length written))) h.begins.1 in
          of_cost q (lowest m) (released spender m lines (length written)) (λ least most. out_has m lines (length written) q least most)
          (omega (arith, below, few, same, lowest_behind m h.first))

      pub loses_one : LosesOne spender lowest m lines written old new
      loses_one image is = ⊎_elim inl (λ h. inr (loses_replied image (stands_replied m lines written image h))) (leaves.end image is)
