use Rattle.std.proofs.Common.{◌≡◌, drop, map}
use Rattle.st_plain.specs.Objects.{has_only}
use Rattle.st_canon.specs.View.{plain_members}
use Rattle.st_canon.proofs.object.Object.has_only.Given as goal

abbrev pub invariant-loop-name : goal.invariant-loop-name
invariant-loop-name l =
    has_only (map (λ n. n.now) l.names) (plain_members l.name-items) ≡ has_only (map (λ n. n.now) l.names) (plain_members (drop l.name-index l.name-items))
