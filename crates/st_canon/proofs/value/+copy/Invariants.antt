use Rattle.std.proofs.Common.{◌≡◌, take}
use Rattle.st_canon.proofs.value.+copy.Given as goal

abbrev pub invariant-copy_items-loop-item : goal.invariant-copy_items-loop-item
invariant-copy_items-loop-item l = l.copies ≡ take l.item-index l.item-items

abbrev pub invariant-copy_members-loop-name : goal.invariant-copy_members-loop-name
invariant-copy_members-loop-name l = l.pairs.items ≡ take l.name-index l.name-items
