use Rattle.std.proofs.Common.{◌≡◌, drop, map, Some}
use Rattle.std.specs.List.{list_all}
use Rattle.st_base.specs.Lists.{each_is}
use Rattle.st_datafiles.specs.ProofFiles.{proofs_of, signed_in}
use Rattle.st_datafiles.proofs.proof_files.are_signed.Given as goal

abbrev pub invariant-kinds : goal.invariant-kinds
invariant-kinds l =
    list_all (λ kind. each_is signed_in (proofs_of kind (Some l.file))) (map (λ n. n.now) l.kinds)
    ≡ list_all (λ kind. each_is signed_in (proofs_of kind (Some l.file))) (map (λ n. n.now) (drop l.kind-index l.kinds))
