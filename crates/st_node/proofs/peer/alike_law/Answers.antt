use Rattle.st_node.proofs.ContentLemmas.{explain-same, resolve-same}
use Rattle.st_node.proofs.peer.alike_law.Goals as goal

pub returns-clause-resolves : goal.returns-clause-resolves
returns-clause-resolves c = resolve-same

pub returns-clause-explains : goal.returns-clause-explains
returns-clause-explains c = explain-same
