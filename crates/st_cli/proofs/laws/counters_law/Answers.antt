use Rattle.st_drive.proofs.RunLemmas.{never_twice}
use Rattle.st_vault.specs.Image.{IsSpent}
use Rattle.st_cli.proofs.laws.counters_law.Goals as goal

pub returns : goal.returns
returns c image runs chained = never_twice IsSpent image runs chained
