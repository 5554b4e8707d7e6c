use Rattle.std.proofs.Common.{◌≡◌, ◌+◌}
use Rattle.st_workload.specs.Identifier.{each, key, submit_line}
use Rattle.st_vault.specs.Vault.{ReadsAs}
use Rattle.st_workload.proofs.identity.push_updates.Given as goal

-- the lines up to this round; the vault has spent a counter for each update
abbrev pub invariant-rounds : goal.invariant-rounds
invariant-rounds g l = record {
  lines : l.lines ≡ each (l.before + 1) (λ round. submit_line l.seed round l.number);
  vault : l.vault ≡ record { key = key l.seed l.number; next = l.before };
  reads : ReadsAs (g.D.Disk.reads l.disk) l.vault;
}
