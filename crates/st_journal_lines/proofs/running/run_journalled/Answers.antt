use Rattle.std.proofs.Common.{refl}
use Rattle.st_journal_lines.proofs.RunLemmas.{opened_run, refused_run}
use Rattle.st_journal_lines.proofs.running.run_journalled.Goals as goal

pub returns-in-Ok : goal.returns-in-Ok
returns-in-Ok g c =
    opened_run g.N.Replayable.answering g.met.N.Replayable.laws.effect (record { reads = g.D.Disk.reads; past = g.D.Disk.past }) g.D.Disk.faults
    c.in-Ok.ensures.opens c.open.ensures.later c.run_machine.ensures

pub returns-in-Err : goal.returns-in-Err
returns-in-Err g c =
    refused_run g.N.Replayable.answering g.met.N.Replayable.laws.effect c.in-Err.refused (record {
      opens = c.in-Err.ensures.opens;
      unread = record { left_is = refl; holds_is = refl; finished_is = refl };
      kept = (refl, refl);
      status = c.refusal_status.ensures;
    })
