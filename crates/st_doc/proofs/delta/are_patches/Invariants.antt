use Rattle.std.proofs.Common.{◌≡◌, length}
use Rattle.std.specs.List.{list_all}
use Rattle.std.specs.Prelude.{is_some}
use Rattle.st_doc.specs.Patch.{patch_of}
use Rattle.st_doc.proofs.delta.are_patches.Given as goal

abbrev pub invariant-patches : goal.invariant-patches
invariant-patches l = list_all (λ patch. is_some (patch_of l.params patch)) l.fn.patches ≡ list_all (λ patch. is_some (patch_of l.params patch)) l.left

abbrev pub decreases-patches : goal.decreases-patches
decreases-patches l = length l.left
