use Rattle.std.proofs.Common.{◌≡◌, ◌++◌, length}
use Rattle.std.specs.List.{filter_map}
use Rattle.st_datafiles.specs.ProofFiles.{signed_in}
use Rattle.st_datafiles.proofs.proof_files.texts_of.Given as goal

abbrev pub invariant-entries : goal.invariant-entries
invariant-entries l = filter_map signed_in l.initial.left ≡ l.texts ++ filter_map signed_in l.left

abbrev pub decreases-entries : goal.decreases-entries
decreases-entries l = length l.left
