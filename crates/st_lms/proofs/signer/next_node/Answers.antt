use Rattle.std.proofs.Common.{◌∙◌, ◌^◌, ◌<◌, ◌≤◌, sym, ap, arith}
use Rattle.st_lms.specs.OneTime.{height}
use Rattle.st_lms.specs.Tree.{node}
use Rattle.st_lms.proofs.TreeLemmas.{inner_of_kept, leaf_level}
use Rattle.st_lms.proofs.signer.next_node.Goals as goal

pub returns-then-r-leaf_count-clause-value : goal.returns-then-r-leaf_count-clause-value
returns-then-r-leaf_count-clause-value c = λ n is.
    let past : 2 ^ height c.args.secret.now.tree ≤ c.args.r = omega (arith, c.leaf_count.ensures.count) in
    c.leaf_of.ensures ∙ ap (λ k. node c.args.secret.now k c.args.r) (sym (leaf_level c.args.secret.now.tree n c.args.r is past))

pub returns-clause-value : goal.returns-clause-value
returns-clause-value c = λ n is.
    let below : c.args.r < 2 ^ height c.args.secret.now.tree = omega (arith, c.leaf_count.ensures.count) in
    let id = ap (λ secret. secret.id) c.secret.view_is in
    rw (c.inner.ensures, id, c.kept_node-left.ensures.value, c.kept_node-right.ensures.value)
    (inner_of_kept c.args.secret.now c.args.r n c.args.nodes.now c.requires.some below c.requires.holds is)
