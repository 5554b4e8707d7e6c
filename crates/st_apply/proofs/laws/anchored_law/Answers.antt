use Rattle.st_apply.proofs.ResolvedLemmas.{idle_leaves, resolved_fold, resolved_push}
use Rattle.st_apply.proofs.laws.anchored_law.Goals as goal

pub returns-clause-steps : goal.returns-clause-steps
returns-clause-steps c = resolved_fold

pub returns-clause-one_more : goal.returns-clause-one_more
returns-clause-one_more c = resolved_push

pub returns-clause-idle : goal.returns-clause-idle
returns-clause-idle c = idle_leaves
