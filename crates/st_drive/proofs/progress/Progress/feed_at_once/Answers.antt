use Rattle.std.proofs.Common.{[], rules, append-nil}
use Rattle.std.specs.Io.KnownBytes.{Appends}
use Rattle.st_drive.proofs.FedLemmas.{either_way, gathered_some, wrote_some}
use Rattle.st_drive.proofs.progress.Progress.feed_at_once.Goals as goal

pub returns-then-is_err-clause-writes : goal.returns-then-is_err-clause-writes
returns-then-is_err-clause-writes g c =
    let answered = c.answer_lines-outcome.ensures in
    let some = either_way c.answer_lines-outcome.result answered.gathers.ok answered.gathers.err (λ next all. gathered_some g.met.M.Machine.laws all) in
    record { ok = tt; err = wrote_some g.met.M.Machine.laws some c.new-gathered.ensures.items (search rules) }

pub returns-clause-writes : goal.returns-clause-writes
returns-clause-writes g c =
    let gathered = c.answer_lines-outcome.new.gathered.items in
    let all : Appends (g.K.Sink.written c.answer_lines-outcome.new.sink) (g.K.Sink.written c.write_gathered.new.sink) gathered = search rules in
    record { ok = tt; err = wrote_some g.met.M.Machine.laws c.in-Err.ensures.gathers.err c.new-gathered.ensures.items (gathered, ([], append-nil gathered), all) }
