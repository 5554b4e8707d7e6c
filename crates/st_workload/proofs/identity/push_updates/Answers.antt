use Rattle.std.proofs.Common.{◌∙◌, ◌+◌, ap, rules}
use Rattle.st_workload.proofs.OrderLemmas.{each_more}
use Rattle.st_workload.specs.Identifier.{submit_line}
use Rattle.st_vault.specs.Image.{vault_after}
use Rattle.st_workload.proofs.identity.push_updates.Goals as goal

pub rounds-preserved : goal.rounds-preserved
rounds-preserved g c = record {
  lines = rw (each_more (λ round. submit_line c.args.seed round c.args.number) (c.rounds.before + 1)) (search rules);
  vault = c.in_ok-next.ensures.value.0 ∙ ap vault_after c.rounds.invariant.vault;
  reads = c.in_ok-next.ensures.reads;
}
