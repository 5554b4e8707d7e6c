use Rattle.std.proofs.Common.{◌<◌, ap, arith}
use Rattle.st_lms.proofs.TreeLemmas.{left_node, right_node, node_small, node-level}
use Rattle.st_lms.proofs.secret.+node.Goals as goal

pub overflow_mul-r : goal.overflow_mul-r
overflow_mul-r t c = omega (arith, node_small c.args.secret.now.tree c.args.height c.args.r c.requires)

pub node-left-requires : goal.node-left-requires
node-left-requires t c =
    let some : 0 < c.args.height = omega arith in
    (omega (arith, c.decreases), left_node c.args.secret.now.tree c.args.height c.args.r some c.requires)

pub overflow_mul-r-2 : goal.overflow_mul-r-2
overflow_mul-r-2 t c = omega (arith, node_small c.args.secret.now.tree c.args.height c.args.r c.requires)

pub overflow_add-r : goal.overflow_add-r
overflow_add-r t c = omega (arith, node_small c.args.secret.now.tree c.args.height c.args.r c.requires)

pub node-right-requires : goal.node-right-requires
node-right-requires t c =
    let some : 0 < c.args.height = omega arith in
    (omega (arith, c.decreases), right_node c.args.secret.now.tree c.args.height c.args.r some c.requires)

pub returns : goal.returns
returns t c =
    let some : 0 < c.args.height = omega arith in
    let id = ap (λ secret. secret.id) c.secret.view_is in
    rw (c.inner.ensures, id, c.node-left.ensures, c.node-right.ensures) (node-level c.args.secret.now c.args.height c.args.r some)
