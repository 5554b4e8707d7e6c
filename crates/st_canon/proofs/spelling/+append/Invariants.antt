use Rattle.std.proofs.Common.{◌≡◌, ◌++◌, drop, false}
use Rattle.st_plain.specs.Plain.{canonical_items, canonical_members, ItemsAreProper, MembersAreProper}
use Rattle.st_canon.specs.View.{plain_items, plain_members}
use Rattle.st_canon.proofs.spelling.+append.Given as goal

abbrev pub invariant-append_items-loop-item : goal.invariant-append_items-loop-item
invariant-append_items-loop-item l = record {
  text : l.initial.out ++ canonical_items false (plain_items l.item-items) ≡ l.out ++ canonical_items l.comma (plain_items (drop l.item-index l.item-items));
  proper : ItemsAreProper (plain_items (drop l.item-index l.item-items)) → ItemsAreProper (plain_items l.item-items);
}

abbrev pub invariant-append_members-loop-name : goal.invariant-append_members-loop-name
invariant-append_members-loop-name l = record {
  text : l.initial.out ++ canonical_members false (plain_members l.name-items)
      ≡ l.out ++ canonical_members l.comma (plain_members (drop l.name-index l.name-items));
  proper : MembersAreProper (plain_members (drop l.name-index l.name-items))
      → MembersAreProper (plain_members l.name-items);
}
