use Rattle.std.proofs.Common.{◌∙◌, sym}
use Rattle.st_plain.proofs.MarkLemmas.{no_mark}
use Rattle.st_plain.proofs.spans.next_mark.Goals as goal

pub returns-in-None-clause-none : goal.returns-in-None-clause-none
returns-in-None-clause-none c = sym c.steps.invariant.value ∙ no_mark c.steps.rest.now c.in-None.ensures
