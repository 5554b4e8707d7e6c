use Rattle.std.proofs.Common.{◌≡◌, length}
use Rattle.st_base.specs.Lists.{each_is}
use Rattle.st_datafiles.specs.ProofFiles.{signed_in}
use Rattle.st_datafiles.proofs.proof_files.is_each_signed.Given as goal

abbrev pub invariant-entries : goal.invariant-entries
invariant-entries l = each_is signed_in l.initial.left ≡ each_is signed_in l.left

abbrev pub decreases-entries : goal.decreases-entries
decreases-entries l = length l.left
