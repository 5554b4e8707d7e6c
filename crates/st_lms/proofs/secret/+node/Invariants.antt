use Rattle.st_lms.proofs.secret.+node.Given as goal

abbrev pub decreases-node : goal.decreases-node
decreases-node l = l.height
