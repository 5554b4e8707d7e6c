use Rattle.st_io.proofs.CrashLemmas.{next_begins}
use Rattle.st_io.proofs.history.crash_of.Goals as goal

pub go_on-requires : goal.go_on-requires
go_on-requires c = next_begins c.steps.invariant c.step-item.result c.steps-test.true c.step-item.is c.requires
