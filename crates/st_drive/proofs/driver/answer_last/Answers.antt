use Rattle.std.proofs.Common.{◌≡◌, [], arith, ap, sym, subst, length, ◌<◌}
use Rattle.std.proofs.lemmas.Bool.Decides.{nat_tests}
use Rattle.std.proofs.lemmas.List.{nil_from_length}
use Rattle.std.proofs.KnownBytes.{Appends-nil}
use Rattle.st_drive.specs.Lines.{last_line}
use Rattle.st_drive.specs.Runs.{Wrote, WroteSome}
use Rattle.st_drive.proofs.LineLemmas.{last_fed}
use Rattle.st_drive.proofs.RunLemmas.{went_none}
use Rattle.st_drive.proofs.driver.answer_last.Goals as goal

pub returns-then-is_empty-clause-writes : goal.returns-then-is_empty-clause-writes
returns-then-is_empty-clause-writes g c =
    let empty : c.args.progress.line.items ≡ [] = nil_from_length c.args.progress.line.items (grind (arith, nat_tests)) in
    let none : Wrote g.M.Machine.meaning g.M.Machine.CAP c.args.progress.machine (c.args.context.now, c.args.device.now) [] c.args.progress.machine (c.args.context.now, c.args.device.now) (g.K.Sink.written c.args.sink.now) (g.K.Sink.written c.args.sink.now) =
    record { written = []; went = went_none g.met.M.Machine.laws c.args.progress.machine (c.args.context.now, c.args.device.now); writes = Appends-nil _ } in
    record { ok = subst (λ lines. Wrote g.M.Machine.meaning g.M.Machine.CAP c.args.progress.machine (c.args.context.now, c.args.device.now) lines c.args.progress.machine (c.args.context.now, c.args.device.now) (g.K.Sink.written c.args.sink.now) (g.K.Sink.written c.args.sink.now)) (sym (ap last_line empty)) none; err = tt }

pub returns-in-Ok-clause-writes : goal.returns-in-Ok-clause-writes
returns-in-Ok-clause-writes g c =
    let some : 0 < length c.args.progress.line.items = grind (arith, nat_tests) in
    let lines = last_fed g.M.Machine.CAP c.args.progress.line.items (omega arith) c.args.progress.open some in
    record { ok = subst (λ lines. Wrote g.M.Machine.meaning g.M.Machine.CAP c.args.progress.machine (c.args.context.now, c.args.device.now) lines c.in-Ok.next.machine (c.feed.new.context, c.feed.new.device) (g.K.Sink.written c.args.sink.now) (g.K.Sink.written c.feed.new.sink)) lines c.in-Ok.ensures.writes.ok; err = tt }

pub returns-in-Err-clause-writes : goal.returns-in-Err-clause-writes
returns-in-Err-clause-writes g c =
    let some : 0 < length c.args.progress.line.items = grind (arith, nat_tests) in
    let lines = last_fed g.M.Machine.CAP c.args.progress.line.items (omega arith) c.args.progress.open some in
    record { ok = tt; err = subst (λ lines. WroteSome g.M.Machine.meaning.prompt g.M.Machine.meaning g.M.Machine.CAP c.args.progress.machine (c.args.context.now, c.args.device.now) lines (c.feed.new.context, c.feed.new.device) (g.K.Sink.written c.args.sink.now) (g.K.Sink.written c.feed.new.sink)) lines c.in-Err.ensures.writes.err }
