-- The ends of a run.
use Rattle.std.proofs.Common.{◌<◌, ◌≤◌, ◌^◌, ◌≡◌, ◌∙◌, ◌⊎◌, ◌++◌, ◌+◌, length, take, ℕ, List, [], Some, None, Ok, Err, Result, refl, inl, ap, sym, subst, arith, append_assoc, append-nil, length-append}
use Rattle.std.proofs.KnownBytes.{Appends-nil, Appends-trans, Consumes-nil, Consumes-trans, Consumes-kept}
use Rattle.std.proofs.lemmas.List.{take_at}
use Rattle.std.specs.Io.KnownBytes.{Appends, Consumes, Keeps, IsAtEnd}
use Rattle.std.specs.Prelude.{IfSome, OnOk, OnErr, IfErr}
use Rattle.std.specs.declared.option.Option.{Option}
use Rattle.st_drive.proofs.LineLemmas.{whole_cut, all_cut, split_append, capped_append, capped_nil}
use Rattle.st_drive.proofs.RunLemmas.{went_none, went_more, went_stopped, stopped_more, stops_longer}
use Rattle.st_drive.specs.Lines.{split, capped, whole_lines, last_line, all_lines, CutTo, Meaning, Laws, Streams}
use Rattle.st_drive.specs.Runs.{Goes, Stops, GoesOverCut, StopsOverCut, Wrote, WroteSome, Begins, Course, course, IsAnswerStop}
use Rattle.st_drive.specs.Tables.{Answered, AnsweredFirst, RunTable, SoFar, status_by, status_of}
use Rattle.st_drive.specs.declared.machine.Stop.{Stop}
use Rattle.st_drive.specs.declared.machine.Stop.TheVariants.{ReadFault, WriteFault, DeviceFault, OverLimit, WantOfMemory}

-- a machine and its context, the rest of the source, and the bytes of the sink
pub record Place (M C : Type 0) : Type 0 where
  pub machine : M
  pub context : C
  pub left : Option (List ℕ)
  pub holds : Option (List ℕ)

-- The bytes taken from the start on are answered up to their last line feed, and `line` is the rest after it. There
-- is room for `room` more bytes.
pub record Taken {M C : Type 0} (means : Meaning M C) (cap limit room : ℕ) (line : List ℕ) (start now : Place M C) : Type 0 where
  pub taken : List ℕ
  pub takes : Consumes start.left now.left taken
  pub line_is : line ≡ (capped cap taken).1
  pub wrote : Wrote means cap start.machine start.context (capped cap taken).0 now.machine now.context start.holds now.holds
  pub budget : length taken + room ≡ limit

-- one read returned these bytes, a prefix that fits the room, and at most one more
pub record Read (room : ℕ) (left rest : Option (List ℕ)) (piece extra : List ℕ) : Type 0 where
  pub takes : Consumes left rest (piece ++ extra)
  pub fits : length piece ≤ room
  pub most : length (piece ++ extra) ≤ room + 1

pub if_some : {X : Type 0} {P : X → Type 0} (o : Option X) → ((x : X) → P x) → IfSome o P
if_some None f = tt
if_some (Some x) f = f x

pub if_some_map : {X : Type 0} {P Q : X → Type 0} (o : Option X) → IfSome o P → ((x : X) → P x → Q x) → IfSome o Q
if_some_map None p f = tt
if_some_map (Some x) p f = f x p

-- these lines are a prefix of all lines of the bytes
abbrev pub AreFirst : List (List ℕ) → List ℕ → Type 0
AreFirst lines bytes = (later : List (List ℕ)) × (lines ++ later ≡ all_lines bytes)

-- the whole lines of some bytes are a prefix of the lines of more
pub whole_first : (bytes more : List ℕ) → AreFirst (whole_lines bytes) (bytes ++ more)
whole_first bytes more =
    let e = split_append bytes more in
    let next = (split bytes).1 ++ more in
    let rest = whole_lines next ++ last_line (split next).1 in
    (rest, sym (ap (λ p. p.0 ++ last_line p.1) e ∙ append_assoc (whole_lines bytes) (whole_lines next) (last_line (split next).1)))

-- all lines are those of a source that is at its end
all_at_end : (bytes : List ℕ) (left : Option (List ℕ)) → IsAtEnd left → IfSome left (λ rest. AreFirst (all_lines bytes) (bytes ++ rest))
all_at_end bytes None end = tt
all_at_end bytes (Some rest) end =
    ([], append-nil (all_lines bytes) ∙ ap all_lines (sym (ap (λ xs. bytes ++ xs) end ∙ append-nil bytes)))

-- the status of a run that ended early: a fault of the sink or the device, or out of memory
pub record IsCutShort (status : ℕ) : Type 0 where
  pub late : 3 ≤ status
  pub within : status ≡ 5 → ⊥
  pub is : (status ≡ 5) ⊎ (status ≡ 3) ⊎ (status ≡ 4) ⊎ (status ≡ 6)

-- a run that was stopped while it answered did
pub cut_short : (rose device : Type 0) (stop : Stop) → IsAnswerStop rose device stop
    → IsCutShort (status_by stop)
cut_short rose device ReadFault cause = absurd cause
cut_short rose device WriteFault cause = search arith
cut_short rose device DeviceFault cause = search arith
cut_short rose device OverLimit cause = absurd cause
cut_short rose device WantOfMemory cause = search arith

-- the table of a run that ended early, by the bytes that it took and those that it wrote
cut_table : {over : Course} {limit : ℕ} {io : Streams} {status : ℕ} → IsCutShort status
    → (took : (taken : List ℕ) × Consumes io.had io.left taken × (length taken ≤ limit + 1))
    → (wrote : (written : List ℕ) × Appends io.held io.holds written)
    → SoFar over io.left took.0 wrote.0 → RunTable over limit io status
cut_table short took wrote so_far = record {
  took = record {
    taken = took.0;
    takes = took.1;
    done = λ e. let late = short.late in absurd (omega arith);
    over = λ e. absurd (short.within e);
    bound = took.2;
    exceeds = λ e. short.is;
  };
  written = wrote.0;
  writes = wrote.1;
  done = λ e. let late = short.late in absurd (omega arith);
  read_fault = λ e. let late = short.late in absurd (omega arith);
  over = λ e. absurd (short.within e);
  so_far = so_far;
}

module _ {M C : Type 0} {means : Meaning M C} {cap : ℕ} (laws : Laws means cap) where
  -- no line was answered
  none_answered : (m : M) (c : C) (lines : List (List ℕ)) → AnsweredFirst (course means m c c) [] lines
  none_answered m c lines = record {
    answered = [];
    later = lines;
    all = refl;
    replies = λ told. (means.answers m [], refl);
    context = inl ((m, laws.ran_none m c), λ now told. inl ([], ap (λ xs. xs ++ []) (laws.silent m)));
  }

  -- before its first read a run has done nothing
  pub nothing_yet : (m : M) (c : C) (left : Option (List ℕ))
      → SoFar (course means m c c) left [] []
  nothing_yet m c left = record {
    of_taken = none_answered m c [];
    of_all = if_some left (λ rest. none_answered m c (all_lines rest));
    all_replies = if_some left (λ rest told. (means.answers m (all_lines rest), refl));
  }

  pub taken_start : (start : Place M C) (limit : ℕ) → Taken means cap limit limit [] start start
  taken_start start limit = record {
    taken = [];
    takes = Consumes-nil start.left;
    line_is = sym (capped_nil cap);
    wrote = record { written = []; went = went_none laws start.machine start.context; writes = Appends-nil start.holds };
    budget = omega arith;
  }

  -- ---- lines that were executed, with their replies in the sink

  module _ {m n : M} {c d : C} {ls : List (List ℕ)} {held between : Option (List ℕ)}
      (p : Wrote means cap m c ls n d held between) where
    -- others were executed too
    pub wrote_more : {o : M} {e : C} {ks : List (List ℕ)} {holds : Option (List ℕ)}
        → Wrote means cap n d ks o e between holds → Wrote means cap m c (ls ++ ks) o e held holds
    wrote_more {holds = holds} q = record {
      written = p.written ++ q.written;
      went = went_more laws p.went q.went;
      writes = Appends-trans held between holds p.written q.written p.writes q.writes;
    }

    -- it was stopped within others
    pub wrote_less : {prompt : Type 0} {e : C} {ks : List (List ℕ)} {holds : Option (List ℕ)}
        → WroteSome prompt means cap n d ks e between holds
        → WroteSome prompt means cap m c (ls ++ ks) e held holds
    wrote_less {holds = holds} q = record {
      written = p.written ++ q.written;
      stopped = stopped_more laws p.went q.stopped;
      writes = Appends-trans held between holds p.written q.written p.writes q.writes;
    }

    -- it may be stopped after them
    pub wrote_stops : {prompt : Type 0} → StopsOverCut prompt means cap m c ls p.written d
    wrote_stops {prompt} =
        subst (λ xs. StopsOverCut prompt means cap m c xs p.written d) (append-nil ls) (went_stopped laws p.went [])

  -- ---- bytes that were taken

  module _ {limit room : ℕ} {line : List ℕ} {start now : Place M C}
      (t : Taken means cap limit room line start now) where
    -- their lines and those of a piece
    piece_lines : (piece : List ℕ)
        → capped cap (t.taken ++ piece) ≡ ((capped cap t.taken).0 ++ (capped cap (line ++ piece)).0, (capped cap (line ++ piece)).1)
    piece_lines piece =
        capped_append cap t.taken piece
        ∙ ap (λ l. ((capped cap t.taken).0 ++ (capped cap (l ++ piece)).0, (capped cap (l ++ piece)).1)) (sym t.line_is)

    -- all their lines, including the one without a line feed
    last_cut : limit < 2 ^ 62 → CutTo cap (all_lines t.taken) ((capped cap t.taken).0 ++ last_line line)
    last_cut small =
        subst (λ l. CutTo cap (all_lines t.taken) ((capped cap t.taken).0 ++ last_line l)) (sym t.line_is)
        (all_cut cap t.taken laws.positive (omega (arith, t.budget)))

    -- a piece was taken too, and its lines were answered
    pub taken_more : {less : ℕ} {next : List ℕ} (new : Place M C) (piece : List ℕ)
        → Consumes now.left new.left piece → length piece + less ≡ room
        → Wrote means cap now.machine now.context (capped cap (line ++ piece)).0
        new.machine new.context now.holds new.holds
        → next ≡ (capped cap (line ++ piece)).1 → Taken means cap limit less next start new
    taken_more new piece takes count more line_is =
        let lines = piece_lines piece in
        record {
          taken = t.taken ++ piece;
          takes = Consumes-trans start.left now.left new.left t.taken piece t.takes takes;
          line_is = line_is ∙ sym (ap (λ p. p.1) lines);
          wrote = subst (λ ls. Wrote means cap start.machine start.context ls new.machine new.context start.holds new.holds) (sym (ap (λ p. p.0) lines))
              (wrote_more t.wrote more);
          budget = omega (arith, t.budget, length-append t.taken piece);
        }

  -- ---- the lines that were answered

  module _ {m : M} {c d : C} {written : List ℕ} where
    -- the written replies of executed lines
    answered_of : {n : M} {lines : List (List ℕ)} → Goes means m c lines written n d
        → Answered (course means m c d) written lines
    answered_of {n} {lines} p = (
      λ told. sym (append-nil written) ∙ ap (λ xs. written ++ xs) (sym (laws.silent n)) ∙ sym (p.on told []) ∙ ap (means.answers m)
          (append-nil lines),
      (n, p.context),
    )

    answered_whole : {n : M} (bytes : List ℕ) → length bytes < 2 ^ 62
        → GoesOverCut means cap m c (capped cap bytes).0 written n d
        → Answered (course means m c d) written (whole_lines bytes)
    answered_whole bytes short p = answered_of (p.of (whole_lines bytes) (whole_cut cap bytes short))

    -- a run that stopped within a prefix of all lines answered a prefix of them
    answered_first : {lines : List (List ℕ)} (all : List (List ℕ))
        → Stops means.prompt means m c lines written d → (more : List (List ℕ)) × (lines ++ more ≡ all)
        → AnsweredFirst (course means m c d) written all
    answered_first {lines} all stops more =
        let longer = stops_longer laws lines more.0 written stops in
        record {
          answered = longer.answered;
          later = longer.later;
          all = longer.all ∙ more.1;
          replies = λ told. subst (λ ls. Begins written (means.answers m ls)) (append-nil longer.answered) (longer.off told []);
          context = longer.context;
        }

    -- the properties of a run that stopped within a prefix of the lines taken
    comes_so_far : {lines : List (List ℕ)} (taken : List ℕ) (left : Option (List ℕ))
        → Stops means.prompt means m c lines written d → AreFirst lines taken
        → IfSome left (λ rest. AreFirst lines (taken ++ rest))
        → SoFar (course means m c d) left taken written
    comes_so_far taken left stops now all = record {
      of_taken = answered_first (all_lines taken) stops now;
      of_all = if_some_map left all (λ rest more. answered_first (all_lines (taken ++ rest)) stops more);
      all_replies =
          if_some_map left all (λ rest more told. subst (λ ls. Begins written (means.answers m ls))
          (sym (append_assoc stops.answered stops.later more.0) ∙ ap (λ ls. ls ++ more.0) stops.all ∙ more.1) (stops.off told (stops.later ++ more.0)));
    }

    -- it stopped within the whole lines of the bytes taken before `extra`
    so_far_whole : (bytes extra : List ℕ) (left : Option (List ℕ)) → length bytes < 2 ^ 62
        → StopsOverCut means.prompt means cap m c (capped cap bytes).0 written d
        → SoFar (course means m c d) left (bytes ++ extra) written
    so_far_whole bytes extra left short p =
        comes_so_far (bytes ++ extra) left (p.of (whole_lines bytes) (whole_cut cap bytes short)) (whole_first bytes extra)
        (if_some left (λ rest. let found = whole_first bytes (extra ++ rest) in (found.0, found.1 ∙ ap all_lines (sym (append_assoc bytes extra rest)))))

  -- ---- the table at each end

  module _ {limit room : ℕ} {line : List ℕ} {io : Streams} {m : M} {c : C} {now : Place M C} (small : limit < 2 ^ 62)
      (t : Taken means cap limit room line (record { machine = m; context = c; left = io.had; holds = io.held }) now) where
    -- a read failed
    pub table_read_fault : now.holds ≡ io.holds → Keeps now.left io.left
        → RunTable (course means m c now.context) limit io 2
    table_read_fault same kept =
        let b = t.budget in
        record {
          took = record {
            taken = t.taken;
            takes = Consumes-kept io.had now.left io.left t.taken t.takes kept;
            done = λ e. absurd (omega arith);
            over = λ e. absurd (omega arith);
            bound = omega arith;
            exceeds = λ e. absurd (omega arith);
          };
          written = t.wrote.written;
          writes = subst (λ holds. Appends io.held holds t.wrote.written) same t.wrote.writes;
          done = λ e. absurd (omega arith);
          read_fault = λ e. answered_whole t.taken (omega arith) t.wrote.went;
          over = λ e. absurd (omega arith);
          so_far = subst (λ bytes. SoFar (course means m c now.context) io.left bytes t.wrote.written) (append-nil t.taken)
              (so_far_whole t.taken [] io.left (omega arith) (wrote_stops t.wrote));
        }

    -- the run stopped while it answered the lines of a piece; one byte more may have been taken
    pub table_cut : {piece extra : List ℕ} {e : C} {status : ℕ} → Read room now.left io.left piece extra
        → WroteSome means.prompt means cap now.machine now.context (capped cap (line ++ piece)).0 e
        now.holds io.holds
        → IsCutShort status → RunTable (course means m c e) limit io status
    table_cut {piece} {extra} {e} read cut short =
        let some = subst (λ ls. WroteSome means.prompt means cap m c ls e io.held io.holds) (sym (ap (λ p. p.0) (piece_lines t piece)))
        (wrote_less t.wrote cut) in
        cut_table short (
          t.taken ++ (piece ++ extra),
          Consumes-trans io.had now.left io.left t.taken (piece ++ extra) t.takes read.takes,
          omega (arith, t.budget, read.most, length-append t.taken (piece ++ extra)),
        ) (some.written, some.writes)
        (subst (λ xs. SoFar (course means m c e) io.left xs some.written) (append_assoc t.taken piece extra)
        (so_far_whole (t.taken ++ piece) extra io.left (omega (arith, t.budget, read.fits, length-append t.taken piece)) some.stopped))

    -- one byte more than the limit was read, and the lines before it were answered
    pub table_over : {piece extra : List ℕ} {o : M} {e : C} → Read room now.left io.left piece extra
        → length piece ≡ room → length extra ≡ 1
        → Wrote means cap now.machine now.context (capped cap (line ++ piece)).0 o e now.holds io.holds
        → RunTable (course means m c e) limit io 5
    table_over {piece} {extra} {o} {e} read full one more =
        let bytes = t.taken ++ piece in
        let all = t.taken ++ (piece ++ extra) in
        let wrote = subst (λ ls. Wrote means cap m c ls o e io.held io.holds) (sym (ap (λ p. p.0) (piece_lines t piece)))
        (wrote_more t.wrote more) in
        let b = t.budget in
        let len : length bytes ≡ limit = omega (arith, length-append t.taken piece) in
        let first : take limit all ≡ bytes = ap (take limit) (sym (append_assoc t.taken piece extra)) ∙ take_at bytes extra limit len in
        let count : length all ≡ limit + 1 =
        omega (arith, length-append t.taken (piece ++ extra), length-append piece extra, length-append t.taken piece) in
        record {
          took = record {
            taken = all;
            takes = Consumes-trans io.had now.left io.left t.taken (piece ++ extra) t.takes read.takes;
            done = λ is. absurd (omega arith);
            over = λ is. count;
            bound = omega (arith, count);
            exceeds = λ is. inl refl;
          };
          written = wrote.written;
          writes = wrote.writes;
          done = λ is. absurd (omega arith);
          read_fault = λ is. absurd (omega arith);
          over = λ is. subst (λ xs. Answered (course means m c e) wrote.written (whole_lines xs)) (sym first)
              (answered_whole bytes (omega arith) wrote.went);
          so_far = subst (λ xs. SoFar (course means m c e) io.left xs wrote.written) (append_assoc t.taken piece extra)
              (so_far_whole bytes extra io.left (omega arith) (wrote_stops wrote));
        }

    -- the source is at its end, and the last line was answered, or the run stopped at it
    pub table_of_end : {T : Type 0} {e : C} (rose device : Type 0) (ending : Result T Stop)
        → Consumes now.left io.left [] × IsAtEnd io.left
        → OnOk ending ((next : M) × Wrote means cap now.machine now.context (last_line line) next e
        now.holds io.holds)
        → OnErr ending (WroteSome means.prompt means cap now.machine now.context (last_line line) e
        now.holds io.holds) × IfErr ending (IsAnswerStop rose device)
        → RunTable (course means m c e) limit io (status_of ending)
    table_of_end rose device (Ok x) end ok err =
        let b = t.budget in
        let wrote = wrote_more t.wrote ok.1 in
        record {
          took = record {
            taken = t.taken;
            takes = subst (Consumes io.had io.left) (append-nil t.taken) (Consumes-trans io.had now.left io.left t.taken [] t.takes end.0);
            done = λ e. (end.1, omega arith);
            over = λ e. absurd (omega arith);
            bound = omega arith;
            exceeds = λ e. absurd (omega arith);
          };
          written = wrote.written;
          writes = wrote.writes;
          done = λ e. answered_of (wrote.went.of (all_lines t.taken) (last_cut t small));
          read_fault = λ e. absurd (omega arith);
          over = λ e. absurd (omega arith);
          so_far = comes_so_far t.taken io.left ((wrote_stops wrote).of (all_lines t.taken) (last_cut t small))
              ([], append-nil (all_lines t.taken)) (all_at_end t.taken io.left end.1);
        }
    table_of_end rose device (Err stop) end ok err =
        let b = t.budget in
        let some = wrote_less t.wrote err.0 in
        cut_table (cut_short rose device stop err.1) (
          t.taken,
          subst (Consumes io.had io.left) (append-nil t.taken) (Consumes-trans io.had now.left io.left t.taken [] t.takes end.0),
          omega arith,
        ) (some.written, some.writes)
        (comes_so_far t.taken io.left (some.stopped.of (all_lines t.taken) (last_cut t small)) ([], append-nil (all_lines t.taken))
        (all_at_end t.taken io.left end.1))
