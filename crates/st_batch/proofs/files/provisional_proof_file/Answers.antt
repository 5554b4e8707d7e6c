use Rattle.std.proofs.Common.{◌≡◌, ◌∙◌, ◌≤◌, length, map, Some, sym, ap, arith}
use Rattle.std.specs.List.{filter_map}
use Rattle.std.proofs.lemmas.List.{length-map}
use Rattle.st_plain.specs.Plain.{canonical}
use Rattle.st_datafiles.specs.ProofFiles.{provisional_proof_json}
use Rattle.st_datafiles.specs.declared.role.Role.TheVariants.{ProvisionalProof}
use Rattle.st_ops.specs.Operation.{plain_operation}
use Rattle.st_batch.specs.Batch.{filed}
use Rattle.st_batch.specs.inside.Groups.{plain_groups, where_small}
use Rattle.st_batch.specs.Groups.{signed_text_in}
use Rattle.st_batch.proofs.FlushLemmas.{provisional_proof_none, provisional_proof_some}
use Rattle.st_batch.proofs.files.provisional_proof_file.Goals as goal

pub returns-then-len-eq0 : goal.returns-then-len-eq0
returns-then-len-eq0 c =
    let none : length (plain_groups c.args.groups.now).updates ≡ 0 = simp length-map (omega (arith, c.len.ensures, c.if-len-eq0.true)) in
    ap Some c.new.ensures ∙ ap (λ file. where_small c.args.params.now (filed ProvisionalProof file)) (sym (provisional_proof_none (plain_groups c.args.groups.now) none))

pub returns : goal.returns
returns c =
    let some : 1 ≤ length (plain_groups c.args.groups.now).updates =
    simp length-map (omega (arith, c.len.ensures, c.if-len-eq0.false)) in
    c.in_ok-filed.ensures ∙ ap (λ file. where_small c.args.params.now (filed ProvisionalProof file)) (ap Some (c.in_ok-bytes.ensures.text
    ∙ ap (λ proofs. canonical (provisional_proof_json proofs)) (c.as_slice-2.ensures ∙ (c.in_ok-proofs.ensures
    ∙ ap (λ operations. filter_map signed_text_in (map plain_operation operations)) c.as_slice.ensures)))
    ∙ sym (provisional_proof_some (plain_groups c.args.groups.now) some))
