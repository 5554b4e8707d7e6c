use Rattle.st_vault.specs.Vault.{ReadsAs}
use Rattle.st_keys_tests.proofs.vault.spend.Given as goal

abbrev pub invariant-spent : goal.invariant-spent
invariant-spent g l = ReadsAs (g.D.Disk.reads l.disk) l.vault
