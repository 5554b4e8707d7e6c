use Rattle.st_node.proofs.ChangedLemmas.{tells_changes}
use Rattle.st_node.proofs.peer.changes_law.Goals as goal

pub returns : goal.returns
returns c = tells_changes c.batch_laws.ensures.takes_the_first
