use Rattle.std.proofs.Common.{◌≡◌, ◌∙◌, ◌++◌, ◌<◌, ◌≤◌, ap, arith}
use Rattle.st_lms.specs.OneTime.{height}
use Rattle.st_lms.specs.Tree.{node, sibling}
use Rattle.st_lms.proofs.TreeLemmas.{node_below, node_some, node_small, sibling_node, whole_path, on_way_first, on_way_next, on_way_last}
use Rattle.st_lms.proofs.signer.push_kept_path.Goals as goal

pub levels-init : goal.levels-init
levels-init c =
    rw c.leaf_count.ensures.count (on_way_first c.args.secret.now c.args.out.now c.args.q c.leaf_count.ensures.known.tree c.requires.leaf)

pub sibling-requires : goal.sibling-requires
sibling-requires c = omega (arith, node_small c.args.secret.now.tree c.levels.level c.levels.r c.levels.invariant.at)

pub kept_node-other-requires-clause-small : goal.kept_node-other-requires-clause-small
kept_node-other-requires-clause-small c =
    let below : c.levels.level < height c.args.secret.now.tree = omega (arith, c.height-level-end.ensures.height) in
    rw c.sibling.ensures (node_below c.args.secret.now.tree c.levels.level _ (sibling_node c.args.secret.now.tree c.levels.level c.levels.r below c.levels.invariant.at))

pub kept_node-other-requires-clause-there : goal.kept_node-other-requires-clause-there
kept_node-other-requires-clause-there c =
    let below : c.levels.level < height c.args.secret.now.tree = omega (arith, c.height-level-end.ensures.height) in
    let some = node_some c.args.secret.now.tree c.levels.level _ (sibling_node c.args.secret.now.tree c.levels.level c.levels.r below c.levels.invariant.at) in
    rw c.sibling.ensures (omega (arith, some, c.requires.holds.long))

pub levels-preserved : goal.levels-preserved
levels-preserved c =
    let secret = c.args.secret.now in
    let below : c.levels.level < height secret.tree = omega (arith, c.height-level-end.ensures.height) in
    let is = sibling_node secret.tree c.levels.level c.levels.r below c.levels.invariant.at in
    let other : c.kept_node-other.result ≡ node secret c.levels.level (sibling c.levels.r) =
    (rw c.sibling.ensures at c.kept_node-other.ensures.value) ∙ c.requires.holds.each c.levels.level (sibling c.levels.r) is (node_some _ _ _ is) in
    on_way_next secret (whole_path secret c.args.out.now c.args.q) (record { out = c.levels.out; level = c.levels.level; r = c.levels.r })
    c.push_all.new.self below c.levels.invariant (c.in_ok-push_all.ensures.ok ∙ ap (λ xs. c.levels.out ++ xs) other)

pub returns : goal.returns
returns c =
    let past : height c.args.secret.now.tree ≤ c.levels.level = omega (arith, c.height-level-end.ensures.height) in
    on_way_last c.args.secret.now (whole_path c.args.secret.now c.args.out.now c.args.q)
    (record { out = c.levels.out; level = c.levels.level; r = c.levels.r }) past c.levels.invariant
