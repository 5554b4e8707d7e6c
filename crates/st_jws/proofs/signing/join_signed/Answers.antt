use Rattle.std.proofs.Common.{◌≡◌, ◌∙◌, ◌≤◌, length, ap, subst, refl, arith}
use Rattle.base64.specs.GeneralPurpose.{IsBytes}
use Rattle.st_jws.specs.Signing.{opened, signing_input, join_signed}
use Rattle.st_jws.proofs.SignedLemmas.{opened-joined}
use Rattle.st_jws.proofs.signing.join_signed.Goals as goal

pub returns-clause-value : goal.returns-clause-value
returns-clause-value c = c.in_ok-text.ensures.value ∙ rw (c.as_slice.ensures, c.as_slice-2.ensures) refl

pub returns-clause-opens : goal.returns-clause-opens
returns-clause-opens c = λ payload key limit signs over within.
    let signature = c.args.signature.now in
    let joined : c.in_ok-text.text ≡ join_signed (signing_input payload) signature = returns-clause-value c ∙ ap (λ input. join_signed input signature) over in
    let are_bytes : IsBytes signature = subst IsBytes c.as_slice-2.ensures c.in_ok-text.ensures.bytes in
    let short : length (join_signed (signing_input payload) signature) ≤ limit = omega (arith, ap length joined, within) in
    ap (λ text. opened text limit) joined ∙ opened-joined payload key signature limit signs are_bytes short
