use Rattle.std.proofs.Common.{◌≡◌, map, take}
use Rattle.st_observer.specs.Work.{anchored_item, plain_held}
use Rattle.st_observer.proofs.held.copy_items.Given as goal

abbrev pub invariant-items : goal.invariant-items
invariant-items l = map plain_held l.held ≡ map anchored_item (take l.item-index l.items)
