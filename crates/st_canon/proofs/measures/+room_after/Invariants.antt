use Rattle.std.proofs.Common.{◌≡◌, drop, false, length}
use Rattle.st_plain.specs.Plain.{canonical_items, canonical_members}
use Rattle.st_plain.specs.Measures.{items_depth, members_depth}
use Rattle.st_plain.specs.inside.Walk.{room_after}
use Rattle.st_canon.specs.View.{plain_items, plain_members}
use Rattle.st_canon.proofs.measures.+room_after.Given as goal

abbrev pub invariant-room_after_items-loop-item : goal.invariant-room_after_items-loop-item
invariant-room_after_items-loop-item l =
    let all = plain_items l.item-items in
    let rest = plain_items (drop l.item-index l.item-items) in
    room_after l.max_depth l.room (items_depth all) (length (canonical_items false all))
    ≡ room_after l.max_depth l.left (items_depth rest) (length (canonical_items l.comma rest))

abbrev pub invariant-room_after_members-loop-name : goal.invariant-room_after_members-loop-name
invariant-room_after_members-loop-name l =
    let all = plain_members l.name-items in
    let rest = plain_members (drop l.name-index l.name-items) in
    room_after l.max_depth l.room (members_depth all) (length (canonical_members false all))
    ≡ room_after l.max_depth l.left (members_depth rest) (length (canonical_members l.comma rest))
