use Rattle.std.proofs.Common.{◌≡◌, take, map}
use Rattle.st_canon.specs.View.{plain}
use Rattle.st_datafiles.specs.ProofFiles.{signed_json}
use Rattle.st_datafiles.proofs.proof_files.signed_entries.Given as goal

abbrev pub invariant-texts : goal.invariant-texts
invariant-texts l = map plain l.entries ≡ map signed_json (take l.text-index l.texts)
