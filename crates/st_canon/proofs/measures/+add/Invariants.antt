use Rattle.std.proofs.Common.{◌≡◌, ◌+◌, ◌<◌, ◌^◌, drop, length, false}
use Rattle.st_plain.specs.Plain.{canonical_items, canonical_members, ItemsAreProper, MembersAreProper}
use Rattle.st_plain.specs.inside.Walk.{saturated}
use Rattle.st_canon.specs.View.{plain_items, plain_members}
use Rattle.st_canon.proofs.measures.+add.Given as goal

abbrev pub invariant-add_items-loop-item : goal.invariant-add_items-loop-item
invariant-add_items-loop-item l = record {
  size : saturated (l.initial.size + length (canonical_items false (plain_items l.item-items)))
      ≡ saturated (l.size + length (canonical_items l.comma (plain_items (drop l.item-index l.item-items))));
  fits : l.size < 2 ^ 64;
  proper : ItemsAreProper (plain_items (drop l.item-index l.item-items)) → ItemsAreProper (plain_items l.item-items);
}

abbrev pub invariant-add_members-loop-name : goal.invariant-add_members-loop-name
invariant-add_members-loop-name l = record {
  size : saturated (l.initial.size + length (canonical_members false (plain_members l.name-items)))
      ≡ saturated (l.size + length (canonical_members l.comma (plain_members (drop l.name-index l.name-items))));
  fits : l.size < 2 ^ 64;
  proper : MembersAreProper (plain_members (drop l.name-index l.name-items)) → MembersAreProper (plain_members l.name-items);
}
