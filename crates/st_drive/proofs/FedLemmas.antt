-- Lemmas on replies that are buffered and written.
use Rattle.std.proofs.Common.{◌≡◌, ◌∙◌, ◌++◌, ◌<◌, Bool, true, false, List, ℕ, zero, suc, [], refl, ap, sym, arith, append_assoc, append-nil, ◌∷◌, take, subst, ◌+◌, ◌≤◌, length}
use Rattle.std.proofs.KnownBytes.{Appends-nil, Appends-trans}
use Rattle.std.specs.Io.KnownBytes.{Appends}
use Rattle.std.specs.Prelude.{Result, Ok, Err, IfOk, OnErr}
use Rattle.std.specs.declared.option.Option.{Option}
use Rattle.st_base.specs.Texts.{HasNo}
use Rattle.st_drive.proofs.EndLemmas.{wrote_less, wrote_more}
use Rattle.st_drive.proofs.LineLemmas.{capped_line, capped_open, open_append, capped_append}
use Rattle.st_drive.proofs.RunLemmas.{begins_trans, begins_behind, went_none, went_more, stopped_more, went_stopped, stopped_longer, stopped_shorter, stopped_few}
use Rattle.st_drive.specs.Lines.{capped, Meaning, Laws}
use Rattle.st_drive.specs.Runs.{StopsOverCut, WroteSome, Wrote, Begins}
use Rattle.st_drive.specs.declared.machine.Stop.{Stop}
use Rattle.st_drive.specs.inside.Parts.{IsOneLine, Outlet, Passes, PassesSome, outlet, Gathered, GatheredSome}

-- nothing was written and nothing is lost
pub none_lost : (held : Option (List ℕ)) (had : List ℕ) → PassesSome (outlet held had held had) []
none_lost held had = record {
  part = [];
  front = ([], append-nil had ∙ sym (append-nil had));
  writes = Appends-nil held;
}

-- only a part of the buffer was written, and the rest is lost
pub some_lost : (held holds : Option (List ℕ)) (had reply has : List ℕ) → has ≡ []
    → ((part : List ℕ) × Begins part had × Appends held holds part)
    → PassesSome (outlet held had holds has) reply
some_lost held holds had reply has none p = record {
  part = p.0;
  front = (
    p.1.0 ++ reply,
    ap (λ xs. xs ++ (p.1.0 ++ reply)) (ap (λ xs. p.0 ++ xs) none ∙ append-nil p.0) ∙ sym (append_assoc p.0 p.1.0 reply) ∙ ap (λ xs. xs ++ reply) p.1.1,
  );
  writes = p.2;
}

-- one reply is passed on and then another
pub passes_more : {one : Outlet} {holds : Option (List ℕ)} {has first second : List ℕ}
    → Passes one first → Passes (outlet one.holds one.has holds has) second
    → Passes (outlet one.held one.had holds has) (first ++ second)
passes_more {one} {holds} {has} {first} {second} p q = record {
  part = p.part ++ q.part;
  all =
      append_assoc p.part q.part has ∙ ap (λ xs. p.part ++ xs) q.all ∙ sym (append_assoc p.part one.has second)
      ∙ ap (λ xs. xs ++ second) p.all ∙ append_assoc one.had first second;
  writes = Appends-trans one.held one.holds holds p.part q.part p.writes q.writes;
}

-- one reply is passed on, and a part of another is lost
pub passes_less : {one : Outlet} {holds : Option (List ℕ)} {has first second : List ℕ}
    → Passes one first → PassesSome (outlet one.holds one.has holds has) second
    → PassesSome (outlet one.held one.had holds has) (first ++ second)
passes_less {one} {holds} {has} {first} {second} p q = record {
  part = p.part ++ q.part;
  front = (
    q.front.0,
    ap (λ xs. xs ++ q.front.0) (append_assoc p.part q.part has) ∙ append_assoc p.part (q.part ++ has) q.front.0
        ∙ ap (λ xs. p.part ++ xs) q.front.1 ∙ sym (append_assoc p.part one.has second) ∙ ap (λ xs. xs ++ second) p.all ∙ append_assoc one.had first second,
  );
  writes = Appends-trans one.held one.holds holds p.part q.part p.writes q.writes;
}

-- a write never finishes a sink
pub still_unfinished : (start old new : Bool) (n : ℕ) → (0 < n → new ≡ false) × (n ≡ 0 → new ≡ old)
    → (old ≡ true → start ≡ true) → new ≡ true → start ≡ true
still_unfinished start old new zero wrote before done = before (sym (wrote.1 refl) ∙ done)
still_unfinished start old new (suc n) wrote before done = absurd (let none = wrote.0 (omega arith) in cc)

-- ---- The answers of a machine to a piece that it was fed, and which of them are written or buffered.

-- all these bytes are these lines, and then those of `more`
pub record Pieces (cap : ℕ) (all : List ℕ) (lines : List (List ℕ)) (more : List ℕ) : Type 0 where
  pub is : capped cap all ≡ (lines ++ (capped cap more).0, (capped cap more).1)

pub no_pieces : (cap : ℕ) (all : List ℕ) → Pieces cap all [] all
no_pieces cap all = record { is = refl }

-- an unfinished line, and bytes that end it with `front` and have `after` behind it
pub record Ended (line rest : List ℕ) : Type 0 where
  pub front : List ℕ
  pub after : List ℕ
  pub open_line : HasNo 10 line
  pub open_front : HasNo 10 front
  pub cut : rest ≡ front ++ 10 ∷ after

-- one more line is complete
pub one_more : {cap : ℕ} {all line rest : List ℕ} {lines : List (List ℕ)}
    → Pieces cap all lines (line ++ rest) → (ended : Ended line rest)
    → Pieces cap all (lines ++ take cap (line ++ ended.front) ∷ []) ended.after
one_more {cap} {all} {line} {rest} {lines} pieces ended =
    let front = ended.front in
    let after = ended.after in
    let kept = take cap (line ++ front) in
    let whole : capped cap (line ++ rest) ≡ (kept ∷ (capped cap after).0, (capped cap after).1) =
    ap (λ xs. capped cap (line ++ xs)) ended.cut ∙ ap (capped cap) (sym (append_assoc line front (10 ∷ after))) ∙ capped_line cap
    (line ++ front) after (open_append line front ended.open_line ended.open_front) in
    record {
      is = pieces.is ∙ ap (λ p. (lines ++ p.0, p.1)) whole ∙ ap (λ ls. (ls, (capped cap after).1)) (sym (append_assoc lines (kept ∷ []) (capped cap after).0));
    }

-- no line remains
pub all_pieces : {cap : ℕ} {all more : List ℕ} {lines : List (List ℕ)} → Pieces cap all lines more
    → HasNo 10 more → capped cap all ≡ (lines, take cap more)
all_pieces {cap} {all} {more} {lines} pieces none =
    pieces.is ∙ ap (λ p. (lines ++ p.0, p.1)) (capped_open cap more none) ∙ ap (λ ls. (ls, take cap more)) (append-nil lines)

module _ {M C : Type 0} {means : Meaning M C} {cap : ℕ} (laws : Laws means cap) where
  pub gathered_none : (m : M) (c : C) (held : Option (List ℕ)) (had : List ℕ)
      → Gathered means cap m c [] m c (outlet held had held had)
  gathered_none m c held had = record {
    reply = [];
    went = went_none laws m c;
    passes = record { part = []; all = sym (append-nil had); writes = Appends-nil held };
  }

  -- lines were executed
  module _ {m n : M} {c d : C} {ls : List (List ℕ)} {held between : Option (List ℕ)} {had kept : List ℕ}
      (p : Gathered means cap m c ls n d (outlet held had between kept)) where
    -- and then others
    pub gathered_more : {o : M} {e : C} {ks : List (List ℕ)} {holds : Option (List ℕ)} {has : List ℕ}
        → Gathered means cap n d ks o e (outlet between kept holds has)
        → Gathered means cap m c (ls ++ ks) o e (outlet held had holds has)
    gathered_more q = record {
      reply = p.reply ++ q.reply;
      went = went_more laws p.went q.went;
      passes = passes_more p.passes q.passes;
    }

    -- and then others within which the machine was stopped
    pub gathered_less : {e : C} {ks : List (List ℕ)} {holds : Option (List ℕ)} {has : List ℕ}
        → GatheredSome means cap n d ks e (outlet between kept holds has)
        → GatheredSome means cap m c (ls ++ ks) e (outlet held had holds has)
    gathered_less q = record {
      reply = p.reply ++ q.reply;
      stopped = stopped_more laws p.went q.stopped;
      passes = passes_less p.passes q.passes;
    }

    -- and the machine may be stopped after them
    pub gathered_some : GatheredSome means cap m c ls d (outlet held had between kept)
    gathered_some = record {
      reply = p.reply;
      stopped = subst (λ xs. StopsOverCut ⊥ means cap m c xs p.reply d) (append-nil ls) (went_stopped laws p.went []);
      passes = record {
        part = p.passes.part;
        front = ([], append-nil (p.passes.part ++ kept) ∙ p.passes.all);
        writes = p.passes.writes;
      };
    }

  -- the machine was stopped within lines
  module _ {m : M} {c d : C} {ls : List (List ℕ)} {outlet : Outlet}
      (p : GatheredSome means cap m c ls d outlet) where
    -- which are a prefix of all lines
    pub some_of_all : {all more : List ℕ} → Pieces cap all ls more
        → GatheredSome means cap m c (capped cap all).0 d outlet
    some_of_all {all} {more} pieces = record {
      reply = p.reply;
      stopped = subst (λ xs. StopsOverCut ⊥ means cap m c xs p.reply d) (sym (ap (λ q. q.0) pieces.is)) (stopped_longer laws (capped cap more).0 p.stopped);
      passes = p.passes;
    }

    -- what was written before and a part of the buffer are a prefix of the reply
    part_of_reply : outlet.had ≡ [] → (part : List ℕ) → Begins part outlet.has
        → Begins (p.passes.part ++ part) p.reply
    part_of_reply none part first =
        let front = p.passes.part in
        subst (Begins (front ++ part)) (ap (λ xs. xs ++ p.reply) none)
        (begins_trans (front ++ part) (front ++ outlet.has) (outlet.had ++ p.reply) (begins_behind front part outlet.has first) p.passes.front)

    -- a part of the buffer is written
    pub wrote_some : {holds : Option (List ℕ)} → outlet.had ≡ []
        → ((part : List ℕ) × Begins part outlet.has × Appends outlet.holds holds part)
        → WroteSome ⊥ means cap m c ls d outlet.held holds
    wrote_some {holds} none wrote = record {
      written = p.passes.part ++ wrote.0;
      stopped = stopped_shorter laws (p.passes.part ++ wrote.0) p.stopped (part_of_reply none wrote.0 wrote.1);
      writes = Appends-trans outlet.held outlet.holds holds p.passes.part wrote.0 p.passes.writes wrote.2;
    }

-- a property that follows from either outcome
pub either_way : {T : Type 0} {Q : T → Type 0} {P : Type 0} (outcome : Result T Stop) → IfOk outcome Q
    → OnErr outcome P → ((x : T) → Q x → P) → P
either_way (Ok x) ok err follows = follows x ok
either_way (Err stop) ok err follows = err

-- ---- A piece that is fed line by line, so that each reply is written before the next line is executed.

-- after the kept bytes of an unfinished line
module _ (cap : ℕ) (kept : List ℕ) where
  -- the bytes of one more line
  pub pieces_more : {all rest : List ℕ} {lines : List (List ℕ)} (line after : List ℕ)
      → Pieces cap all lines (kept ++ rest) → line ++ after ≡ rest
      → Pieces cap all (lines ++ (capped cap (kept ++ line)).0) ((capped cap (kept ++ line)).1 ++ after)
  pieces_more {all} {rest} {lines} line after pieces cut =
      let next = capped cap (kept ++ line) in
      let both = ap (capped cap) (sym (append_assoc kept line after ∙ ap (λ xs. kept ++ xs) cut)) ∙ capped_append cap (kept ++ line) after in
      record {
        is = pieces.is ∙ ap (λ p. (lines ++ p.0, p.1)) both
            ∙ ap (λ ls. (ls, (capped cap (next.1 ++ after)).1)) (sym (append_assoc lines next.0 (capped cap (next.1 ++ after)).0));
      }

  -- one line feed ends one line, and none ends none
  pub one_line_few : (line : List ℕ) → HasNo 10 kept → IsOneLine line → length (capped cap (kept ++ line)).0 ≤ 1
  one_line_few line none one =
      let bytes = kept ++ one.line in
      let is : capped cap (kept ++ line) ≡ capped cap (bytes ++ 10 ∷ []) =
      ap (λ xs. capped cap (kept ++ xs)) one.is ∙ ap (capped cap) (sym (append_assoc kept one.line (10 ∷ []))) in
      let count = ap (λ p. length p.0) (is ∙ capped_line cap bytes [] (open_append kept one.line none one.none)) in
      omega (arith, count)

  pub open_few : (rest : List ℕ) → HasNo 10 kept → HasNo 10 rest → length (capped cap (kept ++ rest)).0 ≤ 1
  open_few rest none open_rest =
      let count = ap (λ p. length p.0) (capped_open cap (kept ++ rest) (open_append kept rest none open_rest)) in
      omega (arith, count)

-- lines were answered
module _ {M C : Type 0} {means : Meaning M C} {cap : ℕ} (laws : Laws means cap) {m n : M} {c d e : C}
    {lines : List (List ℕ)} {held between holds : Option (List ℕ)} (wrote : Wrote means cap m c lines n d held between) where
  -- and then all others
  pub fed_all : {o : M} {all more : List ℕ} → Pieces cap all lines more
      → Wrote means cap n d (capped cap more).0 o e between holds
      → Wrote means cap m c (capped cap all).0 o e held holds
  fed_all {o} pieces rest =
      subst (λ ls. Wrote means cap m c ls o e held holds) (sym (ap (λ p. p.0) pieces.is)) (wrote_more laws wrote rest)

  -- the machine was stopped within at most one more
  fed_few : {prompt : Type 0} {ks : List (List ℕ)} → length ks ≤ 1
      → WroteSome ⊥ means cap n d ks e between holds
      → WroteSome prompt means cap m c (lines ++ ks) e held holds
  fed_few few some =
      wrote_less laws wrote (record { written = some.written; stopped = stopped_few laws few some.stopped; writes = some.writes })

  -- which was the last
  pub fed_some : {prompt : Type 0} {all more : List ℕ} → Pieces cap all lines more
      → length (capped cap more).0 ≤ 1 → WroteSome ⊥ means cap n d (capped cap more).0 e between holds
      → WroteSome prompt means cap m c (capped cap all).0 e held holds
  fed_some {prompt} pieces few some =
      subst (λ ls. WroteSome prompt means cap m c ls e held holds) (sym (ap (λ p. p.0) pieces.is)) (fed_few few some)

  -- or had others after it
  pub fed_line : {prompt : Type 0} {all more : List ℕ} {ks : List (List ℕ)}
      → Pieces cap all (lines ++ ks) more → length ks ≤ 1 → WroteSome ⊥ means cap n d ks e between holds
      → WroteSome prompt means cap m c (capped cap all).0 e held holds
  fed_line {prompt} {all} {more} pieces few some =
      let first = fed_few few some in
      record {
        written = first.written;
        stopped = subst (λ ls. StopsOverCut prompt means cap m c ls first.written e) (sym (ap (λ p. p.0) pieces.is))
            (stopped_longer laws (capped cap more).0 first.stopped);
        writes = first.writes;
      }
