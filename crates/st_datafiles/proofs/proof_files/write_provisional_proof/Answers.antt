use Rattle.std.proofs.Common.{◌≡◌, ◌∙◌, Some, codes, ap}
use Rattle.st_base.proofs.ListLemmas.{none_fails, passes}
use Rattle.st_plain.proofs.ListedLemmas.{json_in-written}
use Rattle.st_plain.specs.Shapes.{json_in}
use Rattle.st_datafiles.specs.ProofFiles.{provisional_proof_json, signed_of, provisional_proof_rules}
use Rattle.st_datafiles.proofs.FileLemmas.{signed_of-provisional_proof_json}
use Rattle.st_datafiles.proofs.proof_files.write_provisional_proof.Goals as goal

pub returns-clause-read : goal.returns-clause-read
returns-clause-read c = λ limits updates none.
    let proofs = c.args.proofs.now in
    let text = c.in_ok-write.field-0 in
    let rules = none_fails (provisional_proof_rules limits updates text) none in
    let again : json_in text ≡ Some (provisional_proof_json proofs) =
    json_in-written text (provisional_proof_json proofs) (passes _ rules.1.0) (λ other is. c.in_ok-write.ensures.same other is ∙ c.in_ok-json.ensures) in
    ap (signed_of (codes "update")) again ∙ signed_of-provisional_proof_json proofs
