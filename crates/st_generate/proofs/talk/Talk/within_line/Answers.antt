use Rattle.st_generate.proofs.SummaryLemmas.{within}
use Rattle.st_generate.proofs.talk.Talk.within_line.Goals as goal

pub returns : goal.returns
returns g c =
    absurd (within c.self.inside.read (g.N.Peer.peer.due c.self.inside.node) c.self.inside.accepted.anchors c.self.invariant c.if-self-most.false)
