use Rattle.st_plain.proofs.QuotedLemmas.{front_there, front_absent}
use Rattle.st_plain.proofs.quoted.strip.Goals as goal

pub returns-in-Some-clause-some : goal.returns-in-Some-clause-some
returns-in-Some-clause-some c = let found = c.in-Some.ensures.cases in front_there c.args.text.now c.args.front.now c.in-Some.behind.now found.0 found.1

pub returns-in-None-clause-none : goal.returns-in-None-clause-none
returns-in-None-clause-none c = front_absent c.args.text.now c.args.front.now c.in-None.ensures.cases
