use Rattle.st_network.proofs.LawLemmas.{are-addressed, are-four, stores-only-wanted}
use Rattle.st_network.proofs.network.exchange_law.Goals as goal

pub returns-clause-stores : goal.returns-clause-stores
returns-clause-stores g c = stores-only-wanted g.N.Peer.peer g.met.N.Peer.laws

pub returns-clause-four : goal.returns-clause-four
returns-clause-four g c = are-four g.N.Peer.peer

pub returns-clause-addressed : goal.returns-clause-addressed
returns-clause-addressed g c = are-addressed g.N.Peer.peer
