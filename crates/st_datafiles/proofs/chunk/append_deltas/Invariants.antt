use Rattle.std.proofs.Common.{◌≡◌, ◌++◌, drop, false}
use Rattle.st_plain.specs.Plain.{canonical_items, ItemsAreProper}
use Rattle.st_plain.specs.Objects.{items_of}
use Rattle.st_datafiles.proofs.chunk.append_deltas.Given as goal

abbrev pub invariant-deltas : goal.invariant-deltas
invariant-deltas l = record {
  text : l.fn.out ++ canonical_items false (items_of l.deltas) ≡ l.out ++ canonical_items l.comma (items_of (drop l.delta-index l.deltas));
  proper : ItemsAreProper (items_of (drop l.delta-index l.deltas)) → ItemsAreProper (items_of l.deltas);
}
