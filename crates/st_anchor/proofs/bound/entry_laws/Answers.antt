use Rattle.std.proofs.Common.{arith}
use Rattle.st_anchor.proofs.ComingLemmas.{known_from-unmissed}
use Rattle.st_anchor.proofs.CountLemmas.{decided_roles-small, decided_roles-with}
use Rattle.st_anchor.proofs.KnownLemmas.{known_from-rest, known_from-with}
use Rattle.st_anchor.proofs.GivesLemmas.{gives-once, opened_proofs-few}
use Rattle.st_anchor.specs.BoundValue.{bound_with}
use Rattle.st_anchor.proofs.bound.entry_laws.Goals as goal

pub returns-clause-may_be_read : goal.returns-clause-may_be_read
returns-clause-may_be_read c files bound role file come = known_from-with role files bound file come

pub returns-clause-all_is_known : goal.returns-clause-all_is_known
returns-clause-all_is_known c = known_from-rest

pub returns-clause-leaves_known : goal.returns-clause-leaves_known
returns-clause-leaves_known c files bound file unmissed = known_from-unmissed file files bound unmissed

pub returns-clause-decides_one : goal.returns-clause-decides_one
returns-clause-decides_one c bound role uri file is =
    let one = decided_roles-with role bound uri file is in
    (one, omega (arith, one, decided_roles-small (bound_with role file bound)))

pub returns-clause-opens_few : goal.returns-clause-opens_few
returns-clause-opens_few c = opened_proofs-few

pub returns-clause-gives_once : goal.returns-clause-gives_once
returns-clause-gives_once c = gives-once
