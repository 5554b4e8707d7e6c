use Rattle.st_node.proofs.WorkLemmas.{arrival_counts, file_within}
use Rattle.st_node.proofs.peer.NodePeer.keep.Goals as goal

pub returns-clause-due : goal.returns-clause-due
returns-clause-due c =
    file_within c.args.self c.args.bytes c.args.work.now c.arrive.new.work
    (arrival_counts c.self.view_is c.args.bytes c.arrive.ensures.few)

pub returns-in_err-observer-clause-due : goal.returns-in_err-observer-clause-due
returns-in_err-observer-clause-due c =
    file_within c.args.self c.args.bytes c.args.work.now c.arrive.new.work
    (arrival_counts c.self.view_is c.args.bytes c.arrive.ensures.few)
