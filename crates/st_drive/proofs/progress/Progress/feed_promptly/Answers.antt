use Rattle.std.proofs.Common.{[], ◌+◌, ◌++◌, List, vec_len, length, length-append, ap, sym, subst, arith}
use Rattle.std.proofs.KnownBytes.{Appends-nil}
use Rattle.st_drive.specs.Lines.{capped}
use Rattle.st_drive.proofs.EndLemmas.{wrote_more}
use Rattle.st_drive.proofs.FedLemmas.{Pieces, no_pieces, fed_all, fed_line, fed_some, one_line_few, open_few, pieces_more}
use Rattle.st_drive.proofs.RunLemmas.{went_none}
use Rattle.st_drive.proofs.progress.Progress.feed_promptly.Goals as goal

pub lines-init : goal.lines-init
lines-init g c = record {
  fits = λ more fits. fits;
  later = omega arith;
  context_later = omega arith;
  unfinished = λ done. done;
  answered = ([], no_pieces _ _, record { written = []; went = went_none g.met.M.Machine.laws _ _; writes = Appends-nil _ });
}

pub feed_at_once-requires : goal.feed_at_once-requires
feed_at_once-requires g c =
    let whole = ap length c.in-Some.ensures.whole in
    record {
      fits = g.met.M.Machine.fewer _ _ (vec_len c.lines.progress.line + length c.lines.rest.now + 0) (vec_len c.lines.progress.line + length c.in-Some.line.now)
          (omega (arith, length-append c.in-Some.line.now c.in-Some.after.now)) (c.lines.invariant.fits 0 (g.met.M.Machine.fewer _ _ _ _ (omega arith) c.requires.fits));
    }

pub feed_at_once-requires-2 : goal.feed_at_once-requires-2
feed_at_once-requires-2 g c = record {
  fits = g.met.M.Machine.fewer _ _ (vec_len c.lines.progress.line + length c.lines.rest.now + 0) (vec_len c.lines.progress.line + length c.lines.rest.now)
      (omega arith) (c.lines.invariant.fits 0 (g.met.M.Machine.fewer _ _ _ _ (omega arith) c.requires.fits));
}

pub lines-preserved : goal.lines-preserved
lines-preserved g c =
    let i = c.lines.invariant in
    let fed = c.in-Ok.ensures in
    let pl = c.lines.progress.line.items in
    let line = c.in-Some.line.now in
    let after = c.in-Some.after.now in
    let whole = ap length c.in-Some.ensures.whole in
    let pieces : Pieces g.M.Machine.CAP (c.args.self.line.items ++ c.args.piece.now) (i.answered.0 ++ (capped g.M.Machine.CAP (pl ++ line)).0) (c.in-Ok.next.line.items ++ after) =
    subst (λ (front : List _). Pieces g.M.Machine.CAP (c.args.self.line.items ++ c.args.piece.now) (i.answered.0 ++ (capped g.M.Machine.CAP (pl ++ line)).0) (front ++ after)) (sym fed.line)
    (pieces_more g.M.Machine.CAP pl line after i.answered.1 c.in-Some.ensures.whole) in
    record {
      fits = λ more fits. g.met.M.Machine.fewer _ _ _ _ (omega arith) (fed.fits (length after + more)
          (g.met.M.Machine.fewer _ _ _ _ (omega (arith, whole, length-append line after)) (i.fits more fits)));
      later = omega (arith, fed.orderly.later);
      context_later = omega (arith, fed.orderly.context_later);
      unfinished = λ done. i.unfinished (fed.orderly.unfinished done);
      answered = (_, pieces, wrote_more g.met.M.Machine.laws i.answered.2 fed.writes.ok);
    }

pub returns-in-Err-clause-writes : goal.returns-in-Err-clause-writes
returns-in-Err-clause-writes g c =
    let i = c.lines.invariant in
    let pl = c.lines.progress.line.items in
    let line = c.in-Some.line.now in
    record {
      ok = tt;
      err = fed_line g.met.M.Machine.laws i.answered.2
          (pieces_more g.M.Machine.CAP pl line c.in-Some.after.now i.answered.1 c.in-Some.ensures.whole)
          (one_line_few g.M.Machine.CAP pl line c.lines.progress.open c.in-Some.ensures.line) c.in-Err.ensures.writes.err;
    }

pub returns-in-Ok-feed_at_once-clause-writes : goal.returns-in-Ok-feed_at_once-clause-writes
returns-in-Ok-feed_at_once-clause-writes g c =
    record { ok = fed_all g.met.M.Machine.laws c.lines.invariant.answered.2 c.lines.invariant.answered.1 c.in-Ok-feed_at_once.ensures.writes.ok; err = tt }

pub returns-in-Err-feed_at_once-clause-writes : goal.returns-in-Err-feed_at_once-clause-writes
returns-in-Err-feed_at_once-clause-writes g c =
    record {
      ok = tt;
      err = fed_some g.met.M.Machine.laws c.lines.invariant.answered.2 c.lines.invariant.answered.1
          (open_few g.M.Machine.CAP c.lines.progress.line.items c.lines.rest.now c.lines.progress.open c.in_default.ensures.none)
          c.in-Err-feed_at_once.ensures.writes.err;
    }
