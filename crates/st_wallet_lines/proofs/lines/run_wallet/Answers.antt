use Rattle.std.proofs.Common.{Err, Ok, ap, refl, subst, sym}
use Rattle.st_io.specs.Past.{storage}
use Rattle.st_wallet.specs.Drafts.{Found}
use Rattle.st_wallet.specs.Machine.{OpensOn}
use Rattle.st_wallet_lines.proofs.RunLemmas.{opened_run, unopened_run}
use Rattle.st_wallet_lines.proofs.lines.run_wallet.Goals as goal

pub returns-in-Ok : goal.returns-in-Ok
returns-in-Ok g c =
    opened_run (record { reads = g.D.Disk.reads; past = g.D.Disk.past }) g.D.Disk.faults
    (subst (λ (found : Found). OpensOn (storage g.D.Disk.reads g.D.Disk.past g.D.Disk.faults c.args.disk.now c.open.new.disk) (Ok found)) (sym c.new-lines.ensures) c.in-Ok.ensures.opens)
    c.open.ensures.cause.later c.run_machine.ensures

pub returns-in-Err : goal.returns-in-Err
returns-in-Err g c =
    unopened_run (c.in-Err.ensures.cause.rose (ap Err c.in-Err.ensures.refused)) (record { left_is = refl; holds_is = refl; finished_is = refl }) (refl, refl)
    c.in-Err.ensures.opens
