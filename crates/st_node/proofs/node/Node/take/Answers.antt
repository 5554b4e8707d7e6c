use Rattle.st_node.proofs.WorkLemmas.{arrival_counts}
use Rattle.st_node.proofs.node.Node.take.Goals as goal

pub returns-in_err-uri-clause-counts : goal.returns-in_err-uri-clause-counts
returns-in_err-uri-clause-counts c = arrival_counts c.self.view_is c.args.bytes c.arrive.ensures.few

pub returns-in_err-text-clause-counts : goal.returns-in_err-text-clause-counts
returns-in_err-text-clause-counts c = arrival_counts c.self.view_is c.args.bytes c.arrive.ensures.few

pub returns-clause-counts : goal.returns-clause-counts
returns-clause-counts c = arrival_counts c.self.view_is c.args.bytes c.arrive.ensures.few
