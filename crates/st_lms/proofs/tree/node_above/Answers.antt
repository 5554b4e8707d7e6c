use Rattle.std.proofs.Common.{◌≡◌, ◌∙◌, ◌+◌, ◌-◌, ◌*◌, drop, arith}
use Rattle.st_lms.proofs.TreeLemmas.{node_above-level, node_above-none}
use Rattle.st_lms.proofs.tree.node_above.Goals as goal

pub levels-init : goal.levels-init
levels-init c = let all : c.args.levels - 0 ≡ c.args.levels = omega arith in rw all

pub levels-preserved : goal.levels-preserved
levels-preserved c =
    let part : 32 * c.levels.level + 32 - 32 * c.levels.level ≡ 32 = omega arith in
    let step = node_above-level c.args.id.now c.levels.number c.levels.node c.args.path.now c.levels.level c.args.levels c.levels-test.true in
    rw (c.parent-node.ensures, part) step ∙ c.levels.invariant

pub returns : goal.returns
returns c =
    let last : c.args.levels - c.levels.level ≡ 0 = omega arith in
    (rw (last, node_above-none c.args.id.now c.levels.number c.levels.node (drop (32 * c.levels.level) c.args.path.now)) at c.levels.invariant)
