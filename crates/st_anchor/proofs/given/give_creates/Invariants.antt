use Rattle.std.proofs.Common.{◌≡◌, ◌++◌, map, take}
use Rattle.st_ops.specs.Operation.{creating}
use Rattle.st_anchor.specs.Gives.{beside, plain_given, with_suffix}
use Rattle.st_anchor.proofs.given.give_creates.Given as goal

abbrev pub invariant-creates : goal.invariant-creates
invariant-creates l =
    map plain_given l.list
    ≡ map plain_given l.initial.list ++ map (λ entry. with_suffix (creating entry.0 entry.1)) (take l.at (beside l.creates l.deltas))
