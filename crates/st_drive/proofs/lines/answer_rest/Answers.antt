use Rattle.std.proofs.Common.{◌≡◌, [], arith, ap, sym, subst}
use Rattle.std.proofs.lemmas.Bool.Decides.{nat_tests}
use Rattle.std.proofs.lemmas.List.{nil_from_length}
use Rattle.st_drive.specs.Lines.{last_line}
use Rattle.st_drive.proofs.lines.answer_rest.Goals as goal

pub returns-then-is_empty-clause-ran : goal.returns-then-is_empty-clause-ran
returns-then-is_empty-clause-ran g c =
    let empty : c.args.rest.now ≡ [] = nil_from_length c.args.rest.now (grind (arith, nat_tests)) in
    (c.args.machine, subst (λ lines. g.M.Machine.meaning.ran c.args.machine (c.args.context.now, c.args.device.now) lines c.args.machine (c.args.context.now, c.args.device.now)) (sym (ap last_line empty)) (g.met.M.Machine.laws.ran_none c.args.machine (c.args.context.now, c.args.device.now)))
