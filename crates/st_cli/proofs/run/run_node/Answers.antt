use Rattle.std.proofs.Common.{◌∙◌, refl}
use Rattle.st_cli.proofs.RunLemmas.{begun_none, node_lines}
use Rattle.st_cli.proofs.run.run_node.Goals as goal

pub returns-in-Ok : goal.returns-in-Ok
returns-in-Ok g c = node_lines c.args.options c.args.work.now c.run_machine.new.context (c.new-lines.ensures ∙ c.in-Ok.ensures) c.run_machine.ensures

pub returns-in-Err : goal.returns-in-Err
returns-in-Err g c = begun_none c.args.options c.args.work.now (record { left_is = refl; holds_is = refl; finished_is = refl })
