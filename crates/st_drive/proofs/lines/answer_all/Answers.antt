use Rattle.std.proofs.Common.{◌≡◌, ◌∙◌, ◌+◌, ◌++◌, [], ◌∷◌, length, length-append, ap, sym, subst, arith, append_assoc}
use Rattle.st_drive.specs.Lines.{all_lines, last_line}
use Rattle.st_drive.proofs.LineLemmas.{all_line, all_open}
use Rattle.st_drive.proofs.lines.answer_all.Goals as goal

pub lines-preserved : goal.lines-preserved
lines-preserved g c =
    let i = c.lines.invariant in
    let cut = c.in-Some.ensures in
    let next = c.in_ok-machine.ensures in
    let line = c.in-Some.line.now in
    let first : all_lines c.lines.rest.now ≡ line ∷ all_lines c.in-Some.after.now = all_line c.lines.rest.now line c.in-Some.after.now cut.first cut.whole in
    record {
      fits = (let whole = ap length cut.whole in next.fits (length c.in-Some.after.now + 1) (g.met.M.Machine.fewer _ _ (length c.lines.rest.now + 1) (length line + 1 + (length c.in-Some.after.now + 1)) (omega (arith, length-append line (10 ∷ c.in-Some.after.now))) i.fits));
      later = omega (arith, next.later);
      lines = (
        i.lines.0 ++ line ∷ [],
        append_assoc i.lines.0 (line ∷ []) (all_lines c.in-Some.after.now) ∙ ap (λ ls. i.lines.0 ++ ls) (sym first) ∙ i.lines.1,
        g.met.M.Machine.laws.ran_more _ _ _ _ _ _ i.lines.0 (line ∷ []) i.lines.2 next.ran,
      );
      replies = λ told. sym (next.reply (g.met.M.Machine.laws.told_stays _ _ _ _ i.lines.0 i.lines.2 told) (all_lines c.in-Some.after.now)) ∙ ap (λ ls. c.lines.replies ++ g.M.Machine.meaning.answers c.lines.machine ls) (sym first) ∙ i.replies told;
    }

pub returns-clause-replies : goal.returns-clause-replies
returns-clause-replies g c told =
    let last = all_open c.lines.rest.now c.in_default.ensures.none in
    c.in_ok-answer_rest.ensures.replies (g.met.M.Machine.laws.told_stays _ _ _ _ c.lines.invariant.lines.0 c.lines.invariant.lines.2 told) ∙ ap (λ ls. c.lines.replies ++ g.M.Machine.meaning.answers c.lines.machine ls) (sym last) ∙ c.lines.invariant.replies told

pub returns-clause-ran : goal.returns-clause-ran
returns-clause-ran g c =
    let i = c.lines.invariant.lines in
    let rest = c.in_ok-answer_rest.ensures.ran in
    let all = ap (λ ls. i.0 ++ ls) (sym (all_open c.lines.rest.now c.in_default.ensures.none)) ∙ i.1 in
    (rest.0, subst (λ ls. g.M.Machine.meaning.ran c.args.machine (c.args.context.now, c.args.device.now) ls rest.0 (c.answer_rest.new.context, c.answer_rest.new.device)) all (g.met.M.Machine.laws.ran_more _ _ _ _ _ _ i.0 (last_line c.lines.rest.now) i.2 rest.1))
