use Rattle.std.proofs.Common.{◌≡◌, drop}
use Rattle.std.specs.Map.{lookup}
use Rattle.st_plain.specs.Objects.{member_at}
use Rattle.st_plain.specs.Names.{is_name}
use Rattle.st_canon.specs.View.{plain_members}
use Rattle.st_canon.proofs.object.scanned.Given as goal

-- a lookup among all is a lookup among the remaining ones
abbrev pub invariant-loop-other : goal.invariant-loop-other
invariant-loop-other l =
    (member_at l.name (plain_members l.pairs) ≡ member_at l.name (plain_members (drop l.other-index l.pairs)))
    × (lookup (is_name l.name) l.pairs ≡ lookup (is_name l.name) (drop l.other-index l.pairs))
