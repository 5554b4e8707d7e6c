use Rattle.std.proofs.Common.{IsTrue, arith, refl, subst, sym}
use Rattle.st_drive.specs.Runs.{course}
use Rattle.st_drive.specs.Tables.{AnswersLines, is_end}
use Rattle.st_drive.proofs.TableLemmas.{answers_of, ends_by, not_begun}
use Rattle.st_drive.proofs.driver.run_machine.Goals as goal

pub returns-in-Ok : goal.returns-in-Ok
returns-in-Ok g c =
    let driven = c.drive.ensures in
    let is = c.status.ensures.value in
    subst (AnswersLines _ _ _ _) (sym is)
    (answers_of driven.table (ends_by c.drive.result driven.finished driven.unfinished driven.cause) (subst (λ s. IsTrue (is_end s)) is c.status.ensures.known))

pub returns-in-Err : goal.returns-in-Err
returns-in-Err g c = not_begun (record {
  late = omega arith;
  no_write = λ e. absurd (omega arith);
  within = λ e. absurd (omega arith);
  disk_fault = λ e. absurd (omega arith);
}) (record { left_is = refl; holds_is = refl; finished_is = refl })
    (course g.M.Machine.meaning c.args.machine (c.args.context.now, c.args.device.now) (c.args.context.now, c.args.device.now))
    (c.args.machine, g.met.M.Machine.laws.ran_none c.args.machine (c.args.context.now, c.args.device.now))
    (λ told. g.met.M.Machine.laws.silent c.args.machine) refl
