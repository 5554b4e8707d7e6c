use Rattle.std.proofs.Common.{◌≡◌, length, map}
use Rattle.st_doc.specs.Delta.{patches_of}
use Rattle.st_doc.specs.Patch.{plain_patch}
use Rattle.st_doc.proofs.PatchLemmas.{patches_after}
use Rattle.st_doc.proofs.delta.read_patches.Given as goal

abbrev pub invariant-patches : goal.invariant-patches
invariant-patches l = patches_of l.params 0 l.fn.patches ≡ patches_after (map plain_patch l.read) (patches_of l.params (length l.read) l.left)

abbrev pub decreases-patches : goal.decreases-patches
decreases-patches l = length l.left
