use Rattle.std.proofs.Common.{◌≡◌, ap}
use Rattle.st_lms.specs.OneTime.{checked, message_hash}
use Rattle.st_lms.specs.Signature.{randomizer_of}
use Rattle.st_lms.specs.inside.Parts.{front_of}
use Rattle.st_lms.proofs.signer.begin_signature.Goals as goal

pub returns : goal.returns
unfolding front_of
returns c =
    let digits : c.checked-digits.result ≡
    checked c.args.secret.now.ots (message_hash c.args.secret.now.id c.args.q (randomizer_of c.args.secret.now c.args.q) c.args.message.now) =
    rw (c.checked-digits.ensures, c.message_hash-hash.ensures, c.randomizer_of-randomizer.ensures)
    (ap (λ secret. checked secret.ots (message_hash secret.id c.args.q (randomizer_of c.args.secret.now c.args.q) c.args.message.now)) c.secret.view_is) in
    rw (
      c.in_ok-push_all-4.ensures.ok,
      c.u32str-3.ensures,
      c.tree.ensures.value,
      c.in_ok-push_values.ensures,
      digits,
      c.in_ok-push_all-3.ensures.ok,
      c.randomizer_of-randomizer.ensures,
      c.in_ok-push_all-2.ensures.ok,
      c.u32str-2.ensures,
      c.ots.ensures.value,
      c.in_ok-push_all.ensures.ok,
      c.u32str.ensures,
      c.new-signature.ensures,
    )
