use Rattle.std.proofs.Common.{◌≡◌, ◌∷◌, length, map}
use Rattle.st_plain.specs.Objects.{has_only}
use Rattle.st_scan.specs.Standing.{IsText, members_left}
use Rattle.st_scan.proofs.members.have_only.Given as goal

abbrev pub invariant-members : goal.invariant-members
invariant-members l = record {
  text : IsText (123 ∷ l.rest);
  value : has_only (map (λ n. n.now) l.names) (members_left l.left) ≡ has_only (map (λ n. n.now) l.names) (members_left l.rest);
}

abbrev pub decreases-members : goal.decreases-members
decreases-members l = length l.rest
