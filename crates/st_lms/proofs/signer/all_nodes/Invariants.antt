use Rattle.std.proofs.Common.{◌-◌}
use Rattle.st_lms.specs.Tree.{HoldsFrom, past_last}
use Rattle.st_lms.proofs.signer.all_nodes.Given as goal

abbrev pub invariant-nodes : goal.invariant-nodes
invariant-nodes l = HoldsFrom l.secret (past_last l.secret.tree - l.k) l.nodes
