use Rattle.std.proofs.Common.{◌≡◌, ◌++◌, map, option_and_then, take}
use Rattle.st_anchor.specs.Gives.{beside, plain_given, with_suffix}
use Rattle.st_anchor.specs.inside.Coming.{made}
use Rattle.st_anchor.proofs.given.give_signed.Given as goal

abbrev pub invariant-targets : goal.invariant-targets
invariant-targets l =
    map plain_given l.list
    ≡ map plain_given l.initial.list
    ++ map (λ entry. with_suffix (made l.kind entry.0.0 (option_and_then (λ proof. proof) entry.0.1) entry.1))
    (take l.at (beside (beside l.targets l.proofs) l.deltas))
