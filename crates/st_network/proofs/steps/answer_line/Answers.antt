use Rattle.st_network.proofs.NetworkLemmas.{line_due}
use Rattle.st_network.proofs.steps.answer_line.Goals as goal

pub returns-in_err-nodes-clause-due : goal.returns-in_err-nodes-clause-due
returns-in_err-nodes-clause-due g c =
    line_due g.N.Peer.peer c.network.view_is c.args.i c.args.line.now c.args.work.now c.answer_at.new.work c.answer_at.ensures.due

pub returns-clause-due : goal.returns-clause-due
returns-clause-due g c =
    line_due g.N.Peer.peer c.network.view_is c.args.i c.args.line.now c.args.work.now c.answer_at.new.work c.answer_at.ensures.due
