use Rattle.st_node.proofs.WorkLemmas.{line_due, none_counted}
use Rattle.st_node.specs.Command.{command_of}
use Rattle.st_node.proofs.node.Node.answer.Goals as goal

pub returns-in-Err-WantOfMemory-clause-counts : goal.returns-in-Err-WantOfMemory-clause-counts
returns-in-Err-WantOfMemory-clause-counts c = none_counted c.args.self c.args.work.now (command_of c.args.line.now)

pub returns-in-Err-WantOfMemory-clause-due : goal.returns-in-Err-WantOfMemory-clause-due
returns-in-Err-WantOfMemory-clause-due c =
    line_due c.args.self c.args.work.now c.args.work.now (command_of c.args.line.now) (none_counted c.args.self c.args.work.now (command_of c.args.line.now))
