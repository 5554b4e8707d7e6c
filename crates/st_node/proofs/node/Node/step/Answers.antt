use Rattle.st_node.proofs.ChangedLemmas.{command_tells, tells_as}
use Rattle.st_node.proofs.WorkLemmas.{command_due}
use Rattle.st_node.specs.Machine.{answered_command}
use Rattle.st_node.proofs.node.Node.step.Goals as goal

pub returns-in-Ok-clause-due : goal.returns-in-Ok-clause-due
returns-in-Ok-clause-due c = command_due c.args.self c.args.work.now c.carry_out.new.work c.args.command c.carry_out.ensures.counts

pub returns-in-Err-clause-due : goal.returns-in-Err-clause-due
returns-in-Err-clause-due c = command_due c.args.self c.args.work.now c.carry_out.new.work c.args.command c.carry_out.ensures.counts

pub returns-in-Ok-clause-changing : goal.returns-in-Ok-clause-changing
returns-in-Ok-clause-changing c =
    tells_as c.args.self (answered_command c.args.self c.args.command) c.in-Ok.done c.in-Ok.ensures.answer
    (command_tells c.args.self c.args.command c.in-Ok.ensures.serves)
