use Rattle.st_wallet.proofs.CountersLemmas.{counters_ascend, spent_lie_below}
use Rattle.st_wallet.proofs.wallet.counters_law.Goals as goal

pub returns-clause-ascend : goal.returns-clause-ascend
returns-clause-ascend c = counters_ascend

pub returns-clause-below : goal.returns-clause-below
returns-clause-below c = spent_lie_below
