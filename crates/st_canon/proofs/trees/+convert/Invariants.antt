use Rattle.std.proofs.Common.{◌≡◌, ◌++◌}
use Rattle.std.specs.Map.{keys_of}
use Rattle.std.specs.Vec.Iter.{into_iter_items}
use Rattle.st_plain.specs.Plain.{ItemsAreProper}
use Rattle.st_canon.specs.View.{plain_items}
use Rattle.st_canon.proofs.TreeLemmas.{ItemsSoFar, MembersSoFar, names_in}
use Rattle.st_canon.proofs.MemberLemmas.{PairsAreProper}
use Rattle.st_canon.proofs.trees.+convert.Given as goal

abbrev pub invariant-convert_items-loop-item : goal.invariant-convert_items-loop-item
invariant-convert_items-loop-item l = record {
  whole : ItemsSoFar (into_iter_items l.initial.item-iterator) (into_iter_items l.item-iterator) l.found.items;
  proper : ItemsAreProper (plain_items l.found.items);
}

abbrev pub invariant-convert_members-loop-key : goal.invariant-convert_members-loop-key
invariant-convert_members-loop-key l = record {
  whole : MembersSoFar l.initial.key-iterator l.key-iterator l.pairs.items;
  names : names_in l.initial.key-iterator ≡ keys_of l.pairs.items ++ names_in l.key-iterator;
  proper : PairsAreProper l.pairs.items;
}
