use Rattle.std.proofs.Common.{◌≡◌, ◌<◌, ◌^◌, drop}
use Rattle.std.specs.Prelude.{max}
use Rattle.st_plain.specs.Measures.{items_depth, members_depth}
use Rattle.st_plain.specs.inside.Walk.{saturated}
use Rattle.st_canon.specs.View.{plain_items, plain_members}
use Rattle.st_canon.proofs.measures.+depth.Given as goal

abbrev pub invariant-deepest_item-loop-item : goal.invariant-deepest_item-loop-item
invariant-deepest_item-loop-item l = record {
  depth : saturated (max l.deepest (items_depth (plain_items (drop l.item-index l.item-items)))) ≡ saturated (items_depth (plain_items l.item-items));
  fits : l.deepest < 2 ^ 64;
}

abbrev pub invariant-deepest_member-loop-member : goal.invariant-deepest_member-loop-member
invariant-deepest_member-loop-member l = record {
  depth : saturated (max l.deepest (members_depth (plain_members (drop l.member-index l.member-items))))
      ≡ saturated (members_depth (plain_members l.member-items));
  fits : l.deepest < 2 ^ 64;
}
