use Rattle.st_io.proofs.CrashLemmas.{HasGone}
use Rattle.st_io.proofs.history.crash_of.Given as goal

abbrev pub invariant-steps : goal.invariant-steps
invariant-steps l = HasGone l.pick l.first l.steps l.step-index l.reads.items l.image.items
