use Rattle.st_wallet.specs.Drafts.{IsFoundOn}
use Rattle.st_writing_tests.proofs.wallet.first_other.Given as goal

abbrev pub invariant-lines : goal.invariant-lines
invariant-lines g l = IsFoundOn (g.D.Disk.reads l.disk) l.wallet
