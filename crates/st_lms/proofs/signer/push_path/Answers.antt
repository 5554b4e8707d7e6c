use Rattle.std.proofs.Common.{◌≡◌, ◌∙◌, ◌++◌, ◌^◌, ◌<◌, ◌≤◌, ap, arith}
use Rattle.st_lms.specs.OneTime.{height}
use Rattle.st_lms.specs.Tree.{node, sibling}
use Rattle.st_lms.proofs.TreeLemmas.{node_small, sibling_node, whole_path, on_way_first, on_way_next, on_way_last}
use Rattle.st_lms.proofs.signer.push_path.Goals as goal

pub levels-init : goal.levels-init
levels-init c =
    let leaves : c.leaf_count.result ≡ 2 ^ height c.args.secret.now.tree =
    c.leaf_count.ensures.count ∙ ap (λ secret. 2 ^ height secret.tree) c.secret.view_is in
    rw leaves (on_way_first c.args.secret.now c.args.out.now c.args.q c.height-level-end.ensures.known.tree c.requires)

pub sibling-requires : goal.sibling-requires
sibling-requires c = omega (arith, node_small c.args.secret.now.tree c.levels.level c.levels.r c.levels.invariant.at)

pub node-other-requires : goal.node-other-requires
node-other-requires c =
    let below : c.levels.level < height c.args.secret.now.tree = omega (arith, c.height-level-end.ensures.height) in
    rw c.sibling.ensures (sibling_node c.args.secret.now.tree c.levels.level c.levels.r below c.levels.invariant.at)

pub levels-preserved : goal.levels-preserved
levels-preserved c =
    let secret = c.args.secret.now in
    let below : c.levels.level < height secret.tree = omega (arith, c.height-level-end.ensures.height) in
    let other : c.node-other.result ≡ node secret c.levels.level (sibling c.levels.r) = rw c.sibling.ensures at c.node-other.ensures in
    on_way_next secret (whole_path secret c.args.out.now c.args.q) (record { out = c.levels.out; level = c.levels.level; r = c.levels.r })
    c.push_all.new.self below c.levels.invariant (c.in_ok-push_all.ensures.ok ∙ ap (λ xs. c.levels.out ++ xs) other)

pub returns : goal.returns
returns c =
    let past : height c.args.secret.now.tree ≤ c.levels.level = omega (arith, c.height-level-end.ensures.height) in
    on_way_last c.args.secret.now (whole_path c.args.secret.now c.args.out.now c.args.q)
    (record { out = c.levels.out; level = c.levels.level; r = c.levels.r }) past c.levels.invariant
