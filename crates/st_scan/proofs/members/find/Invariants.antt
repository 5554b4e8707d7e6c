use Rattle.std.proofs.Common.{◌≡◌, ◌∷◌, length}
use Rattle.st_plain.specs.Objects.{member_at}
use Rattle.st_scan.specs.Standing.{IsText, members_left}
use Rattle.st_scan.proofs.members.find.Given as goal

abbrev pub invariant-members : goal.invariant-members
invariant-members l = record {
  text : IsText (123 ∷ l.rest);
  value : member_at l.name (members_left l.left) ≡ member_at l.name (members_left l.rest);
}

abbrev pub decreases-members : goal.decreases-members
decreases-members l = length l.rest
