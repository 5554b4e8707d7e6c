use Rattle.std.proofs.Common.{◌∙◌, arith}
use Rattle.st_hss.proofs.VaultLemmas.{Cut, least, parts_hold_of, signature_len, signature_of_parts}
use Rattle.st_hss.proofs.public.verify_hss.Goals as goal

pub returns-then-signature-key_signature_len : goal.returns-then-signature-key_signature_len
returns-then-signature-key_signature_len c = (
  λ h. absurd cc,
  λ is. absurd (omega (
    arith,
    least c.args.public.now c.args.message.now c.args.signature.now is,
    c.signature_len-key_signature_len.ensures.value,
    c.if-signature-key_signature_len.true,
  )),
)

pub returns : goal.returns
returns c =
    let parts = c.parts_of-parts.result in
    let is = c.parts_of-parts.ensures in
    let cut : Cut (signature_len c.args.public.now.top) c.args.signature.now = record {
      a = parts.signed_keys.now;
      b = parts.key_signature.now;
      c = parts.key_text.now;
      d = parts.message_signature.now;
      whole = is.whole;
      a_long = is.signed_keys;
      b_long = is.key_signature ∙ c.signature_len-key_signature_len.ensures.value;
      c_long = is.key_text;
    } in (
      λ holds. signature_of_parts c.args.public.now c.args.message.now c.args.signature.now cut (c.parts_hold.ensures.0 holds),
      λ is. c.parts_hold.ensures.1 (parts_hold_of c.args.public.now c.args.message.now c.args.signature.now cut is),
    )
