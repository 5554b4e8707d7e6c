use Rattle.st_apply.proofs.ResolvedLemmas as laws
use Rattle.st_apply.proofs.OneMoreLemmas.{one_more}
use Rattle.st_apply.proofs.LawLemmas.{leaves_it}
use Rattle.st_apply.proofs.laws.resolution_laws.Goals as goal

pub returns-clause-fold_is_walk : goal.returns-clause-fold_is_walk
returns-clause-fold_is_walk g c = laws.fold_is_walk

pub returns-clause-goes_on : goal.returns-clause-goes_on
returns-clause-goes_on g c = laws.goes_on

pub returns-clause-one_more : goal.returns-clause-one_more
returns-clause-one_more g c = one_more

pub returns-clause-walks_lead : goal.returns-clause-walks_lead
returns-clause-walks_lead g c = laws.walks_lead

pub returns-clause-stays_deactivated : goal.returns-clause-stays_deactivated
returns-clause-stays_deactivated g c = laws.stays_deactivated

pub returns-clause-leaves_it : goal.returns-clause-leaves_it
returns-clause-leaves_it g c = leaves_it
