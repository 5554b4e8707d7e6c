use Rattle.st_vault.proofs.RunLemmas.{none_twice}
use Rattle.st_vault.proofs.vault.no_counter_comes_twice.Goals as goal

pub returns : goal.returns
returns g c = none_twice (λ disk. g.D.Disk.past disk)
