use Rattle.std.proofs.Common.{◌≤◌, length, ap, arith}
use Rattle.st_node.proofs.WorkLemmas.{rollback_counts}
use Rattle.st_node.proofs.node.Node.cut.Goals as goal

pub returns-in_err-observer-clause-counts : goal.returns-in_err-observer-clause-counts
returns-in_err-observer-clause-counts c =
    let inside : c.args.n ≤ length c.self.inside.observer.ledger = omega (arith, c.if-n-len.false, c.len.ensures.value, ap length c.ledger.ensures) in
    rollback_counts c.self.view_is c.args.n inside c.cut.ensures.few

pub returns-in_err-text-2-clause-counts : goal.returns-in_err-text-2-clause-counts
returns-in_err-text-2-clause-counts c =
    let inside : c.args.n ≤ length c.self.inside.observer.ledger = omega (arith, c.if-n-len.false, c.len.ensures.value, ap length c.ledger.ensures) in
    rollback_counts c.self.view_is c.args.n inside c.cut.ensures.few

pub returns-clause-counts : goal.returns-clause-counts
returns-clause-counts c =
    let inside : c.args.n ≤ length c.self.inside.observer.ledger = omega (arith, c.if-n-len.false, c.len.ensures.value, ap length c.ledger.ensures) in
    rollback_counts c.self.view_is c.args.n inside c.cut.ensures.few
