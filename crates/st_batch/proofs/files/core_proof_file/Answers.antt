use Rattle.std.proofs.Common.{◌∙◌, Some, sym, ap}
use Rattle.st_plain.specs.Plain.{canonical}
use Rattle.st_datafiles.specs.ProofFiles.{core_proof_json}
use Rattle.st_datafiles.specs.declared.role.Role.TheVariants.{CoreProof}
use Rattle.st_batch.specs.Batch.{filed}
use Rattle.st_batch.specs.inside.Groups.{plain_groups, where_small}
use Rattle.st_batch.proofs.FlushLemmas.{are_some, core_proof_none, core_proof_some, no_more}
use Rattle.st_batch.proofs.files.core_proof_file.Goals as goal

pub returns-then-not-has_core_proof : goal.returns-then-not-has_core_proof
returns-then-not-has_core_proof c =
    let none = no_more _ _ c.has_core_proof.ensures c.if-not-has_core_proof.true in
    ap Some c.new.ensures ∙ ap (λ file. where_small c.args.params.now (filed CoreProof file)) (sym (core_proof_none (plain_groups c.args.groups.now) none))

pub returns : goal.returns
returns c =
    let groups = plain_groups c.args.groups.now in
    let some = are_some _ _ c.has_core_proof.ensures c.if-not-has_core_proof.false in
    let text = c.in_ok-bytes.ensures.text ∙ ap (λ proofs. canonical (core_proof_json proofs)) c.in_ok-proofs.ensures in
    c.in_ok-filed.ensures ∙ ap (λ file. where_small c.args.params.now (filed CoreProof file)) (ap Some text ∙ sym (core_proof_some groups some))
