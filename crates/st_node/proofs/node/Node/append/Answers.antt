use Rattle.std.specs.Prelude.{Ok}
use Rattle.st_node.proofs.WorkLemmas.{none_counted}
use Rattle.st_node.specs.declared.command.Command.TheVariants.{Anchor}
use Rattle.st_node.proofs.node.Node.append.Goals as goal

pub returns-in_err-text-2-clause-counts : goal.returns-in_err-text-2-clause-counts
returns-in_err-text-2-clause-counts c = none_counted c.args.self c.args.work.now (Ok (Anchor c.args.height c.args.text.now))
