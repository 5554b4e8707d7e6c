use Rattle.st_network.proofs.NetworkLemmas.{set_with}
use Rattle.st_network.proofs.steps.answer_at.Goals as goal

pub returns-clause-answer : goal.returns-clause-answer
returns-clause-answer g c =
    set_with c.args.nodes c.remove-node.new.self c.insert.new.self c.args.at c.remove-node.result c.in_ok-node.node
    c.requires c.remove-node.ensures.item c.remove-node.ensures.rest c.in_ok-insert.ensures.ok
    (λ node. g.N.Peer.peer.next node c.args.line.now) (λ node. g.N.Peer.peer.reply node c.args.line.now) c.in_ok-node.text
    c.in_ok-node.ensures.next c.in_ok-node.ensures.reply

pub returns-clause-due : goal.returns-clause-due
returns-clause-due g c = (c.remove-node.result, c.remove-node.ensures.item, c.answer.ensures.due)

pub returns-in_err-node-clause-due : goal.returns-in_err-node-clause-due
returns-in_err-node-clause-due g c = (c.remove-node.result, c.remove-node.ensures.item, c.answer.ensures.due)

pub returns-in_err-insert-clause-due : goal.returns-in_err-insert-clause-due
returns-in_err-insert-clause-due g c = (c.remove-node.result, c.remove-node.ensures.item, c.answer.ensures.due)
