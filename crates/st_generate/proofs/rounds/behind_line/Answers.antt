use Rattle.std.proofs.Common.{ap, drop, sym}
use Rattle.st_generate.proofs.SummaryLemmas.{first_line, no_line}
use Rattle.st_generate.proofs.rounds.behind_line.Goals as goal

pub returns-in-Some : goal.returns-in-Some
returns-in-Some c =
    sym (ap (drop 1) (first_line c.args.reply.now c.in-Some._line.now c.in-Some.more.now c.in-Some.ensures.first c.in-Some.ensures.whole))

pub returns-in-None : goal.returns-in-None
returns-in-None c = sym (ap (drop 1) (no_line c.args.reply.now c.in-None.ensures.none))
