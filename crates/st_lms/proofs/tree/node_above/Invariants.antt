use Rattle.std.proofs.Common.{◌≡◌, ◌-◌, ◌*◌, drop}
use Rattle.st_lms.specs.Tree.{node_above}
use Rattle.st_lms.proofs.tree.node_above.Given as goal

abbrev pub invariant-levels : goal.invariant-levels
invariant-levels l =
    node_above l.id l.number l.node (drop (32 * l.level) l.path) (l.levels - l.level) ≡ node_above l.id l.r l.fn.leaf l.path l.levels
