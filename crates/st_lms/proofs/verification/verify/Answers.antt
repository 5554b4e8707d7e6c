use Rattle.std.proofs.Common.{◌∙◌, ◌*◌, false, sym, arith}
use Rattle.st_lms.specs.OneTime.{chains}
use Rattle.st_lms.specs.inside.Parts.{parts_seen}
use Rattle.st_lms.proofs.LawLemmas.{decided}
use Rattle.st_lms.proofs.KeyLemmas.{IsCut, length-signature, parts_hold_of, signature_of_parts}
use Rattle.st_lms.proofs.verification.verify.Goals as goal
use Rattle.st_lms.proofs.verification.verify.Goals.{After-parts_hold}

pub returns-then-signature-signature_len-clause-holds : goal.returns-then-signature-signature_len-clause-holds
returns-then-signature-signature_len-clause-holds c = (
  λ h. absurd cc,
  λ is. absurd (c.if-signature-signature_len.true (length-signature c.args.public.now c.args.message.now c.args.signature.now is ∙ sym c.signature_len.ensures.value)),
)

pub returns-then-signature-signature_len-clause-value : goal.returns-then-signature-signature_len-clause-value
returns-then-signature-signature_len-clause-value c =
    decided c.args.public.now c.args.message.now c.args.signature.now false (λ i. omega (arith, c.type_inv.signature i)) (returns-then-signature-signature_len-clause-holds c)

cut : (c : After-parts_hold) → IsCut (32 * chains c.args.public.now.ots) c.args.signature.now (parts_seen c.parts_of-parts.result)
cut c =
    let found = c.parts_of-parts.ensures in
    record {
      whole = found.whole;
      q = found.q;
      ots = found.ots;
      randomizer = found.randomizer;
      values = found.values ∙ c.values_len.ensures.len;
      tree = found.tree;
    }

pub returns-clause-holds : goal.returns-clause-holds
returns-clause-holds c = (
  λ holds. signature_of_parts c.args.public.now c.args.message.now c.args.signature.now (parts_seen c.parts_of-parts.result) (cut c)
      (c.if-signature-signature_len.false ∙ c.signature_len.ensures.value) (λ i. omega (arith, c.type_inv.signature i)) (c.parts_hold.ensures.0 holds),
  λ is. c.parts_hold.ensures.1 (parts_hold_of c.args.public.now c.args.message.now c.args.signature.now (parts_seen c.parts_of-parts.result) (cut c) is),
)

pub returns-clause-value : goal.returns-clause-value
returns-clause-value c =
    decided c.args.public.now c.args.message.now c.args.signature.now c.parts_hold.result (λ i. omega (arith, c.type_inv.signature i)) (returns-clause-holds c)
