use Rattle.std.proofs.Common.{◌≡◌, ◌++◌, None, drop, false}
use Rattle.std.specs.Prelude.{is_some}
use Rattle.st_plain.specs.inside.Objects.{joined, once}
use Rattle.st_plain.proofs.objects.append_members.Given as goal

-- the remaining members are written after those already written
abbrev pub invariant-places : goal.invariant-places
invariant-places l =
    l.out.items ++ joined (is_some l.last) (once l.text l.last (drop l.place-index l.places)) ≡ l.initial.out.items ++ joined false (once l.text None l.places)
