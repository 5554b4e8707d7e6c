use Rattle.st_node.proofs.LawLemmas.{isolates}
use Rattle.st_node.proofs.peer.isolation_law.Goals as goal

pub returns : goal.returns
returns c = isolates
