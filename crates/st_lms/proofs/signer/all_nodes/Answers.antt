use Rattle.std.proofs.Common.{◌≡◌, ◌+◌, ◌-◌, ◌*◌, ◌^◌, ◌<◌, arith}
use Rattle.std.proofs.lemmas.Nat.{pow_pos}
use Rattle.st_lms.specs.Tree.{HoldsFrom, past_last}
use Rattle.st_lms.specs.OneTime.{height}
use Rattle.st_lms.proofs.TreeLemmas.{holds_next, holds_none}
use Rattle.st_lms.proofs.signer.all_nodes.Goals as goal

pub nodes-init : goal.nodes-init
nodes-init c =
    let none : past_last c.args.secret.now.tree - 0 ≡ past_last c.args.secret.now.tree = omega arith in
    rw (none, c.new-nodes.ensures) (holds_none c.args.secret.now)

pub next_node-node-requires-clause-holds : goal.next_node-node-requires-clause-holds
next_node-node-requires-clause-holds c =
    let first : 2 * c.leaf_count.result - 1 - c.nodes.k + 1 ≡ past_last c.args.secret.now.tree - c.nodes.k = omega (arith, c.leaf_count.ensures.count) in
    rw (first, c.as_slice.ensures) c.nodes.invariant

pub nodes-preserved : goal.nodes-preserved
nodes-preserved c =
    let secret = c.args.secret.now in
    let r = 2 * c.leaf_count.result - 1 - c.nodes.k in
    let first : past_last secret.tree - c.nodes.k ≡ r + 1 = omega (arith, c.leaf_count.ensures.count) in
    let next : past_last secret.tree - (c.nodes.k + 1) ≡ r = omega (arith, c.leaf_count.ensures.count) in
    let holds : HoldsFrom secret (r + 1) c.nodes.nodes = rw first at c.nodes.invariant in
    rw (next, c.in_ok-push_all.ensures.ok)
    (holds_next secret r c.nodes.nodes c.next_node-node.result (omega (arith, c.leaf_count.ensures.count)) holds c.next_node-node.ensures.long c.next_node-node.ensures.value)

pub returns : goal.returns
returns c =
    let some : 0 < 2 ^ height c.args.secret.now.tree = pow_pos _ in
    let first : past_last c.args.secret.now.tree - c.nodes.k ≡ 1 = omega (arith, c.leaf_count.ensures.count) in
    rw first at c.nodes.invariant
