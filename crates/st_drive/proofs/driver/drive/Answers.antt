use Rattle.std.proofs.Common.{◌≡◌, ◌∙◌, ◌≤◌, ◌+◌, ◌-◌, ◌++◌, List, ℕ, [], take, drop, length, refl, sym, subst, ap, arith, take-append-drop, append-nil}
use Rattle.std.proofs.lemmas.List.{length-take-le, length-drop, take-take}
use Rattle.std.specs.Io.KnownBytes.{Consumes}
use Rattle.std.specs.declared.option.Option.{Option}
use Rattle.st_drive.proofs.EndLemmas.{Read, taken_start, taken_more, table_read_fault, table_cut, table_over, table_of_end, cut_short}
use Rattle.st_drive.proofs.driver.drive.Goals as goal

pub pieces-init : goal.pieces-init
pieces-init g c = record {
  fits = (let e = ap length c.new-progress.ensures.line in rw c.new-progress.ensures.machine (g.met.M.Machine.fewer _ _ _ _ (omega arith) c.requires.fits));
  context_later = omega arith;
  source_later = omega arith;
  sink_later = omega arith;
  unfinished = λ done. done;
  taken = rw (c.new-progress.ensures.machine, c.new-progress.ensures.line)
      (taken_start g.met.M.Machine.laws (record {
        machine = c.args.machine;
        context =
            (c.args.context.now, c.args.device.now);
        left = g.S.Source.left c.args.source.now;
        holds = g.K.Sink.written c.args.sink.now;
      }) c.args.limit);
}

-- all bytes that were read fit
read_within : (buffer : List ℕ) (room count : ℕ) (had left : Option (List ℕ)) → count ≤ length buffer → count ≤ room
    → Consumes had left (take count buffer) → Read room had left (take count buffer) []
read_within buffer room count had left bound fits takes =
    let len : length (take count buffer) ≡ count = length-take-le count buffer bound in
    let none = append-nil (take count buffer) in
    let same = ap length none in
    record { takes = subst (Consumes had left) (sym none) takes; fits = omega arith; most = omega arith }

-- the bytes that were read are those that fit, and one more
read_over : (buffer : List ℕ) (room count : ℕ) (had left : Option (List ℕ)) → count ≤ length buffer → count ≡ room + 1
    → Consumes had left (take count buffer) → Read room had left (take room buffer) (drop room (take count buffer))
read_over buffer room count had left bound over takes =
    let len : length (take count buffer) ≡ count = length-take-le count buffer bound in
    let front : length (take room buffer) ≡ room = length-take-le room buffer (omega arith) in
    let both : take room buffer ++ drop room (take count buffer) ≡ take count buffer = ap (λ xs. xs ++ drop room (take count buffer))
    (sym (take-take room count buffer (omega arith))) ∙ take-append-drop room (take count buffer) in
    let same = ap length both in
    record { takes = subst (Consumes had left) (sym both) takes; fits = omega arith; most = omega arith }

pub pieces-preserved : goal.pieces-preserved
pieces-preserved g c =
    let i = c.pieces.invariant in
    let read = c.in-Ok.ensures in
    let fed = c.in-Ok-feed-2.ensures in
    let buffer = c.read_some.new.buffer in
    let count = c.in-Ok.count in
    let len : length (take count buffer) ≡ count = length-take-le count buffer (omega (arith, read.count)) in
    record {
      fits = g.met.M.Machine.fewer _ _ _ _ (omega arith) (fed.fits (c.pieces.room - count + 1) (g.met.M.Machine.fewer _ _ _ _ (omega arith) i.fits));
      context_later = omega (arith, fed.orderly.context_later);
      source_later = omega (arith, read.cause.later);
      sink_later = omega (arith, fed.orderly.later);
      unfinished = λ done. i.unfinished (fed.orderly.unfinished done);
      taken = taken_more g.met.M.Machine.laws i.taken (record {
        machine = c.in-Ok-feed-2.next.machine;
        context =
            (c.feed-in-pieces.new.context, c.feed-in-pieces.new.device);
        left = g.S.Source.left c.read_some.new.source;
        holds = g.K.Sink.written c.feed-in-pieces.new.sink;
      }) (take count buffer) read.bytes (omega arith) fed.writes.ok fed.line;
    }

pub returns-in-Err-clause-table : goal.returns-in-Err-clause-table
returns-in-Err-clause-table g c = table_read_fault g.met.M.Machine.laws c.requires.limit c.pieces.invariant.taken refl c.in-Err.ensures.err

pub returns-then-count-eq0-clause-table : goal.returns-then-count-eq0-clause-table
returns-then-count-eq0-clause-table g c =
    let read = c.in-Ok.ensures in
    let end = c.end_run.ensures in
    let zero = c.if-count-eq0.true in
    let none = subst (λ n. Consumes (g.S.Source.left c.pieces.source) (g.S.Source.left c.read_some.new.source)
    (take n c.read_some.new.buffer)) zero read.bytes in
    table_of_end g.met.M.Machine.laws c.requires.limit c.pieces.invariant.taken _ _ c.end_run.result (none, read.end zero) end.ok (end.err, end.orderly.cause)

pub returns-in-Ok-feed-clause-table : goal.returns-in-Ok-feed-clause-table
returns-in-Ok-feed-clause-table g c =
    let read = c.in-Ok.ensures in
    let buffer = c.read_some.new.buffer in
    let count = c.in-Ok.count in
    let room = c.pieces.room in
    let bound : count ≤ length buffer = omega (arith, read.count) in
    let over : count ≡ room + 1 = omega (arith, read.count) in
    let len : length (take count buffer) ≡ count = length-take-le count buffer bound in
    table_over g.met.M.Machine.laws c.requires.limit c.pieces.invariant.taken (read_over buffer room count _ _ bound over read.bytes)
    (length-take-le room buffer (omega arith)) (omega (arith, length-drop room (take count buffer))) c.in-Ok-feed.ensures.writes.ok

pub returns-in-Err-feed-clause-table : goal.returns-in-Err-feed-clause-table
returns-in-Err-feed-clause-table g c =
    let read = c.in-Ok.ensures in
    let fed = c.in-Err-feed.ensures in
    let bound : c.in-Ok.count ≤ length c.read_some.new.buffer = omega (arith, read.count) in
    let over : c.in-Ok.count ≡ c.pieces.room + 1 = omega (arith, read.count) in
    table_cut g.met.M.Machine.laws c.requires.limit c.pieces.invariant.taken
    (read_over c.read_some.new.buffer c.pieces.room c.in-Ok.count _ _ bound over read.bytes) fed.writes.err (cut_short _ _ c.in-Err-feed.stop fed.orderly.cause)

pub returns-in-Err-feed-2-clause-table : goal.returns-in-Err-feed-2-clause-table
returns-in-Err-feed-2-clause-table g c =
    let read = c.in-Ok.ensures in
    let fed = c.in-Err-feed-2.ensures in
    let bound : c.in-Ok.count ≤ length c.read_some.new.buffer = omega (arith, read.count) in
    table_cut g.met.M.Machine.laws c.requires.limit c.pieces.invariant.taken
    (read_within c.read_some.new.buffer c.pieces.room c.in-Ok.count _ _ bound (omega arith) read.bytes) fed.writes.err
    (cut_short _ _ c.in-Err-feed-2.stop fed.orderly.cause)
