use Rattle.std.proofs.Common.{◌∙◌, ap}
use Rattle.st_generate.proofs.SummaryLemmas.{none_read}
use Rattle.st_generate.proofs.talk.Talk.new.Goals as goal

pub invariant_of-talk : goal.invariant_of-talk
invariant_of-talk g c =
    none_read (g.N.Peer.peer.due c.in_ok-node.node) (ap g.N.Peer.peer.due c.in_ok-node.ensures ∙ g.met.N.Peer.laws.none_due)
