use Rattle.st_node.proofs.WorkLemmas.{line_within}
use Rattle.st_node.proofs.peer.NodePeer.answer.Goals as goal

pub returns-clause-due : goal.returns-clause-due
returns-clause-due c = line_within c.args.self c.args.line.now c.args.work.now c.answer.new.work c.answer.ensures.due

pub returns-in_err-node-clause-due : goal.returns-in_err-node-clause-due
returns-in_err-node-clause-due c = line_within c.args.self c.args.line.now c.args.work.now c.answer.new.work c.answer.ensures.due
