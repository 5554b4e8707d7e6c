use Rattle.std.proofs.Common.{◌∙◌, sym}
use Rattle.st_journal_lines.proofs.StepLemmas.{gave_recorded, ran_recorded}
use Rattle.st_journal_lines.proofs.lines.JournalLinesMachine.step.Goals as goal

pub returns-in-Ok-record-clause-ran : goal.returns-in-Ok-record-clause-ran
returns-in-Ok-record-clause-ran g c =
    let line = c.in-Ok-record.ensures in
    ran_recorded g.N.Replayable.answering (record { reads = g.D.Disk.reads; past = g.D.Disk.past }) c.self.inside.machine c.self.inside.journal c.args.line.now
    c.args.context.now c.answer.new.context c.args.device.now c.record.new.disk (sym c.in-Ok.ensures.changes ∙ c.if-changes.true)
    (g.met.D.Disk.is_image c.args.device.now) line.moments c.self.view_is c.in-Ok.next c.in-Ok-record.longer c.new.ensures c.in-Ok.ensures.ran line.told
    (λ i. (c.in-Ok.ensures.next i, line.end i)) line.lasting

pub returns-in-Err-record-clause-gave_up : goal.returns-in-Err-record-clause-gave_up
returns-in-Err-record-clause-gave_up g c =
    gave_recorded g.N.Replayable.answering (record { reads = g.D.Disk.reads; past = g.D.Disk.past }) c.self.inside.machine c.self.inside.journal c.args.line.now
    c.args.context.now c.answer.new.context c.args.device.now c.record.new.disk (sym c.in-Ok.ensures.changes ∙ c.if-changes.true)
    (g.met.D.Disk.is_image c.args.device.now) c.in-Err-record.ensures.moments c.self.view_is
    (g.met.N.Replayable.laws.gave_up_behind c.self.inside.machine c.in-Ok.next c.args.context.now c.answer.new.context c.args.line.now c.in-Ok.ensures.ran)
