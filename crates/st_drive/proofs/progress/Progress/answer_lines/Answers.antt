use Rattle.std.proofs.Common.{◌≡◌, ◌∙◌, ◌+◌, ◌++◌, [], ◌∷◌, vec_len, length, length-append, take, rules, ap, sym, subst, arith}
use Rattle.st_base.specs.Texts.{HasNo}
use Rattle.st_drive.specs.inside.Parts.{Gathered, outlet}
use Rattle.st_drive.proofs.LineLemmas.{open_append}
use Rattle.st_drive.proofs.FedLemmas.{no_pieces, one_more, all_pieces, gathered_none, gathered_more, gathered_less, gathered_some, some_of_all}
use Rattle.st_drive.proofs.progress.Progress.answer_lines.Goals as goal

pub lines-init : goal.lines-init
lines-init g c = record {
  fits = λ more fits. fits;
  cap = c.args.self.capped;
  partial = c.args.self.open;
  later = omega arith;
  context_later = omega arith;
  unfinished = λ done. done;
  answered = ([], no_pieces _ _, gathered_none g.met.M.Machine.laws _ _ _ _);
}

pub end_line-requires-clause-fits : goal.end_line-requires-clause-fits
end_line-requires-clause-fits g c =
    let whole = ap length c.in-Some.ensures.whole in
    g.met.M.Machine.fewer _ _ (vec_len c.lines.line + length c.lines.rest.now + 0) (vec_len c.lines.line + length c.in-Some.front.now + 1)
    (omega (arith, length-append c.in-Some.front.now (10 ∷ c.in-Some.after.now))) (c.lines.invariant.fits 0 (g.met.M.Machine.fewer _ _ _ _ (omega arith) c.requires.fits))

pub lines-preserved : goal.lines-preserved
lines-preserved g c =
    let i = c.lines.invariant in
    let cut = c.in-Some.ensures in
    let ended = c.in-Ok.ensures in
    let pieces = one_more i.answered.1 (record { front = _; after = _; open_line = i.partial; open_front = cut.first; cut = cut.whole }) in
    record {
      fits =
          (let whole = ap length cut.whole in let none = ap length ended.emptied in λ more fits.
          g.met.M.Machine.fewer _ _ _ _ (omega arith) (ended.fits (length c.in-Some.after.now + more)
          (g.met.M.Machine.fewer _ _ _ _ (omega (arith, length-append c.in-Some.front.now (10 ∷ c.in-Some.after.now))) (i.fits more fits))));
      cap = (let n = ap length ended.emptied in omega arith);
      partial = subst (HasNo 10) (sym ended.emptied) tt;
      later = omega (arith, ended.orderly.later);
      context_later = omega (arith, ended.orderly.context_later);
      unfinished = λ done. i.unfinished (ended.orderly.unfinished done);
      answered = (_, rw ended.emptied pieces, gathered_more g.met.M.Machine.laws i.answered.2 ended.gathers.ok);
    }

pub returns-in-Err-clause-gathers : goal.returns-in-Err-clause-gathers
returns-in-Err-clause-gathers g c =
    let i = c.lines.invariant in
    let cut = c.in-Some.ensures in
    let pieces = one_more i.answered.1 (record { front = _; after = _; open_line = i.partial; open_front = cut.first; cut = cut.whole }) in
    record { ok = tt; err = some_of_all g.met.M.Machine.laws (gathered_less g.met.M.Machine.laws i.answered.2 c.in-Err.ensures.gathers.err) pieces }

pub returns-then-is_err-clause-gathers : goal.returns-then-is_err-clause-gathers
returns-then-is_err-clause-gathers g c =
    let i = c.lines.invariant in
    record { ok = tt; err = some_of_all g.met.M.Machine.laws (gathered_some g.met.M.Machine.laws i.answered.2) i.answered.1 }

pub returns-clause-gathers : goal.returns-clause-gathers
returns-clause-gathers g c =
    let i = c.lines.invariant in
    let all = all_pieces i.answered.1 (open_append c.lines.line.items c.lines.rest.now i.partial c.in_default.ensures.none) in
    record { ok = subst (λ ls. Gathered g.M.Machine.meaning g.M.Machine.CAP c.args.self.machine (c.args.context.now, c.args.device.now) ls c.lines.machine (c.lines.context, c.lines.device) (outlet (g.K.Sink.written c.args.sink.now) c.args.gathered.now.items (g.K.Sink.written c.lines.sink) c.lines.gathered.items)) (sym (ap (λ p. p.0) all)) i.answered.2; err = tt }

pub returns-clause-line : goal.returns-clause-line
returns-clause-line g c =
    let i = c.lines.invariant in
    let all = all_pieces i.answered.1 (open_append c.lines.line.items c.lines.rest.now i.partial c.in_default.ensures.none) in
    let kept : c.keep_front.new.line.items ≡ take g.M.Machine.CAP (c.lines.line.items ++ c.lines.rest.now) = search rules in
    kept ∙ sym (ap (λ p. p.1) all)
