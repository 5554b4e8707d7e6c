use Rattle.std.proofs.Common.{◌∙◌, ◌+◌, ap, length}
use Rattle.st_anchor.specs.SignedTexts.{opened_of}
use Rattle.st_anchor.specs.States.{core_proof_count}
use Rattle.st_anchor.specs.declared.part.Part.TheVariants.{Is}
use Rattle.st_anchor.proofs.CountLemmas.{file-none, file-then, file-then_few, file_with-few}
use Rattle.st_anchor.proofs.SettleLemmas.{core_proof-count, core_proof-fails, core_proof-says, count-rejected}
use Rattle.st_anchor.proofs.files.core_proof_part.Goals as goal

pub returns-in_err-opened-in-Ok-clause-few : goal.returns-in_err-opened-in-Ok-clause-few
returns-in_err-opened-in-Ok-clause-few c =
    file-then_few _ (length c.in-Ok.proofs.recovers + length c.in-Ok.proofs.deactivates) c.args.work.now c.read_core_proof.new.work c.open_core.new.work
    (core_proof-count c.args.context.now c.args.core.now c.args.file.now c.len-recovers.result c.len-deactivates.result
    c.len-recovers.ensures c.len-deactivates.ensures c.in-Ok.proofs c.in-Ok.ensures.answers.0 c.in-Ok.ensures.answers.1)
    c.in-Ok.ensures.counted c.in_err-opened-in-Ok.ensures.few

pub returns-in_ok-opened-in-Ok-clause-value : goal.returns-in_ok-opened-in-Ok-clause-value
returns-in_ok-opened-in-Ok-clause-value c =
    ap (λ opened. Is opened) (c.in_ok-opened-in-Ok.ensures.value ∙ ap (λ limit. opened_of limit c.in-Ok.proofs) c.max_signed.ensures)
    ∙ core_proof-says c.args.context.now c.args.core.now c.args.file.now c.len-recovers.result c.len-deactivates.result
    c.len-recovers.ensures c.len-deactivates.ensures c.in-Ok.proofs c.in-Ok.ensures.answers.0 c.in-Ok.ensures.answers.1

pub returns-in_ok-opened-in-Ok-clause-work : goal.returns-in_ok-opened-in-Ok-clause-work
returns-in_ok-opened-in-Ok-clause-work c =
    file-then _ (length c.in-Ok.proofs.recovers + length c.in-Ok.proofs.deactivates) c.args.work.now c.read_core_proof.new.work c.open_core.new.work
    (core_proof-count c.args.context.now c.args.core.now c.args.file.now c.len-recovers.result c.len-deactivates.result
    c.len-recovers.ensures c.len-deactivates.ensures c.in-Ok.proofs c.in-Ok.ensures.answers.0 c.in-Ok.ensures.answers.1)
    c.in-Ok.ensures.counted c.in_ok-opened-in-Ok.ensures.work

pub returns-in_ok-opened-in-Ok-clause-few : goal.returns-in_ok-opened-in-Ok-clause-few
returns-in_ok-opened-in-Ok-clause-few c = file_with-few _ c.args.work.now c.open_core.new.work (returns-in_ok-opened-in-Ok-clause-work c)

pub returns-in-Err-Rejected-clause-value : goal.returns-in-Err-Rejected-clause-value
returns-in-Err-Rejected-clause-value c =
    let is = rw c.in-Err-Rejected.field-0-is at c.in-Err-Rejected.ensures.answers in
    rw c.in-Err-Rejected.field-0-is
    (core_proof-fails c.args.context.now c.args.core.now c.args.file.now c.len-recovers.result c.len-deactivates.result
    c.len-recovers.ensures c.len-deactivates.ensures c.in-Err-Rejected.rule is)

pub returns-in-Err-Rejected-clause-work : goal.returns-in-Err-Rejected-clause-work
returns-in-Err-Rejected-clause-work c =
    file-none _ c.args.work.now c.read_core_proof.new.work (count-rejected core_proof_count _ _ (returns-in-Err-Rejected-clause-value c)) c.in-Err-Rejected.ensures.counted
