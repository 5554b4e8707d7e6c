use Rattle.std.proofs.Common.{ap}
use Rattle.st_lms.specs.Tree.{node}
use Rattle.st_lms.proofs.secret.leaf_of.Goals as goal

pub returns : goal.returns
unfolding node
returns c =
    rw (c.leaf.ensures, c.one_time_public-key.ensures, c.leaf_count.ensures.count)
    (ap (λ secret. node secret 0 c.args.r) c.secret.view_is)
