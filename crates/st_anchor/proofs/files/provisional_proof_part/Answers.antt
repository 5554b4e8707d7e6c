use Rattle.std.proofs.Common.{◌∙◌, ap, length, map, subst}
use Rattle.st_anchor.specs.States.{WorkedAtMost}
use Rattle.st_anchor.specs.inside.Coming.{more_proofs}
use Rattle.st_anchor.specs.SignedTexts.{proof_of}
use Rattle.st_anchor.specs.declared.part.Part.TheVariants.{Is}
use Rattle.st_anchor.proofs.CountLemmas.{file-none, file-then, file-then_few, file_with-few}
use Rattle.st_anchor.proofs.SettleLemmas.{count-rejected, provisional_proof-count, provisional_proof-fails, provisional_proof-says}
use Rattle.st_anchor.proofs.files.provisional_proof_part.Goals as goal

pub returns-in_err-proofs-in-Ok-clause-few : goal.returns-in_err-proofs-in-Ok-clause-few
returns-in_err-proofs-in-Ok-clause-few c =
    file-then_few _ (length c.in-Ok.texts) c.args.work.now c.read_provisional_proof.new.work c.open.new.work
    (provisional_proof-count c.args.context.now c.args.provisional.now c.args.file.now c.len.result c.len.ensures
    c.in-Ok.texts c.in-Ok.ensures.answers.0 c.in-Ok.ensures.answers.1)
    c.in-Ok.ensures.counted
    (subst (λ texts. WorkedAtMost 0 (length texts) c.read_provisional_proof.new.work c.open.new.work) c.as_slice.ensures c.in_err-proofs-in-Ok.ensures.few)

pub returns-in_ok-proofs-in-Ok-clause-value : goal.returns-in_ok-proofs-in-Ok-clause-value
returns-in_ok-proofs-in-Ok-clause-value c =
    ap (λ proofs. Is proofs) (c.in_ok-proofs-in-Ok.ensures.value ∙ (λ i. map (proof_of (c.max_signed.ensures i)) (c.as_slice.ensures i)))
    ∙ provisional_proof-says c.args.context.now c.args.provisional.now c.args.file.now c.len.result c.len.ensures
    c.in-Ok.texts c.in-Ok.ensures.answers.0 c.in-Ok.ensures.answers.1

pub returns-in_ok-proofs-in-Ok-clause-work : goal.returns-in_ok-proofs-in-Ok-clause-work
returns-in_ok-proofs-in-Ok-clause-work c =
    file-then _ (length c.in-Ok.texts) c.args.work.now c.read_provisional_proof.new.work c.open.new.work
    (provisional_proof-count c.args.context.now c.args.provisional.now c.args.file.now c.len.result c.len.ensures
    c.in-Ok.texts c.in-Ok.ensures.answers.0 c.in-Ok.ensures.answers.1)
    c.in-Ok.ensures.counted
    (c.in_ok-proofs-in-Ok.ensures.work ∙ ap (λ texts. more_proofs (length texts) c.read_provisional_proof.new.work) c.as_slice.ensures)

pub returns-in_ok-proofs-in-Ok-clause-few : goal.returns-in_ok-proofs-in-Ok-clause-few
returns-in_ok-proofs-in-Ok-clause-few c = file_with-few _ c.args.work.now c.open.new.work (returns-in_ok-proofs-in-Ok-clause-work c)

pub returns-in-Err-Rejected-clause-value : goal.returns-in-Err-Rejected-clause-value
returns-in-Err-Rejected-clause-value c =
    let is = rw c.in-Err-Rejected.field-0-is at c.in-Err-Rejected.ensures.answers in
    rw c.in-Err-Rejected.field-0-is
    (provisional_proof-fails c.args.context.now c.args.provisional.now c.args.file.now c.len.result c.len.ensures c.in-Err-Rejected.rule is)

pub returns-in-Err-Rejected-clause-work : goal.returns-in-Err-Rejected-clause-work
returns-in-Err-Rejected-clause-work c =
    file-none _ c.args.work.now c.read_provisional_proof.new.work (count-rejected length _ _ (returns-in-Err-Rejected-clause-value c)) c.in-Err-Rejected.ensures.counted
