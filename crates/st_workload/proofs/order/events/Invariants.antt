use Rattle.std.proofs.Common.{◌≡◌}
use Rattle.st_workload.specs.Identifier.{all_left, turns}
use Rattle.st_workload.proofs.order.events.Given as goal

-- the turns so far
abbrev pub invariant-turns : goal.invariant-turns
invariant-turns l = l.feed ≡ turns l.seed l.stream l.anchors l.n (all_left l.fn.files)
