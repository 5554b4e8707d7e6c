use Rattle.std.proofs.Common.{◌≡◌, ◌+◌, length, map}
use Rattle.std.specs.Vec.Iter.{into_iter_items}
use Rattle.st_doc.specs.Document.{plain_document}
use Rattle.st_doc.specs.Patch.{plain_patch}
use Rattle.st_doc.specs.Patched.{patched}
use Rattle.st_doc.proofs.changes.apply_all.Given as goal

abbrev pub invariant-patches : goal.invariant-patches
invariant-patches l = record {
  after : patched l.params 0 (map plain_patch l.fn.delta.patches) (plain_document l.fn.document)
      ≡ patched l.params l.at (map plain_patch (into_iter_items l.patch-iterator)) (plain_document l.now);
  left : l.at + length (into_iter_items l.patch-iterator) ≡ length l.fn.delta.patches;
}
