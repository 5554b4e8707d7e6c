use Rattle.st_vault.specs.Vault.{ReadsAs}
use Rattle.st_keys_tests.proofs.hss.vaults.sign_all.Given as goal

abbrev pub invariant-signed : goal.invariant-signed
invariant-signed g l = ReadsAs (g.D.Disk.reads l.disk) l.hss
