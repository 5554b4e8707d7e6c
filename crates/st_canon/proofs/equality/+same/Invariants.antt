use Rattle.std.proofs.Common.{◌≡◌, ◌↔◌, drop}
use Rattle.st_canon.specs.View.{plain_items, plain_members}
use Rattle.st_canon.proofs.equality.+same.Given as goal

abbrev pub invariant-same_items-loop-at : goal.invariant-same_items-loop-at
invariant-same_items-loop-at l =
    (plain_items (drop l.at l.items) ≡ plain_items (drop l.at l.others)) ↔ (plain_items l.items ≡ plain_items l.others)

abbrev pub invariant-same_members-loop-at : goal.invariant-same_members-loop-at
invariant-same_members-loop-at l =
    (plain_members (drop l.at l.pairs) ≡ plain_members (drop l.at l.others)) ↔ (plain_members l.pairs ≡ plain_members l.others)
