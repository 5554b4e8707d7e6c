use Rattle.st_network.proofs.NetworkLemmas.{file_due}
use Rattle.st_network.proofs.steps.store.Goals as goal

pub returns-in_err-nodes-clause-due : goal.returns-in_err-nodes-clause-due
returns-in_err-nodes-clause-due g c =
    file_due g.N.Peer.peer c.network.view_is c.args.i c.args.bytes c.args.work.now c.store_at.new.work c.store_at.ensures.due

pub returns-clause-due : goal.returns-clause-due
returns-clause-due g c =
    file_due g.N.Peer.peer c.network.view_is c.args.i c.args.bytes c.args.work.now c.store_at.new.work c.store_at.ensures.due
