use Rattle.std.proofs.Common.{rules}
use Rattle.st_workload.proofs.OrderLemmas.{each_more}
use Rattle.st_workload.specs.Identifier.{identity_of}
use Rattle.st_workload.proofs.identity.all_identities.Goals as goal

pub identities-preserved : goal.identities-preserved
identities-preserved c = rw (each_more (identity_of c.args.seed c.args.rounds) c.identities.number) (search rules)
