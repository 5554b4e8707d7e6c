use Rattle.std.specs.Prelude.{List, Option}
use Rattle.std.specs.Coded.{Coded, coded_list, coded_option}
use Rattle.st_ops.specs.Operation.{Proof, coded_proof}

-- a list of proofs, some of which may be missing
abbrev pub coded_proofs : Coded (List (Option Proof))
coded_proofs = coded_list (coded_option coded_proof)
