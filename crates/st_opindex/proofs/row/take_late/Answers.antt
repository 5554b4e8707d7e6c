use Rattle.std.proofs.Common.{arith, inl}
use Rattle.st_opindex.proofs.Placed.{taken_late, taken_rest, taken_more, not_later}
use Rattle.st_opindex.proofs.row.take_late.Goals as goal

pub late-init : goal.late-init
late-init g c = record { each = λ at key was. inl was }

pub late-preserved : goal.late-preserved
late-preserved g c =
    let last = c.in-Some.last.now in
    rw c.in_ok-push.ensures.items (taken_more c.late.invariant c.remove.new.self.keys last.0 last.1 (omega arith) c.remove.ensures.updates.0)

pub returns-then-at-place : goal.returns-then-at-place
returns-then-at-place g c =
    let last = c.in-Some.last.now in
    record {
      late = taken_late c.late.invariant (λ at key still. omega (arith, not_later g.K.Ord.cmp last.0 at last.1 key (c.in-Some.ensures.greatest (at, key) still)));
      rest = taken_rest c.late.invariant;
    }
