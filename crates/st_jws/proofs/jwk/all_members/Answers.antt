use Rattle.std.proofs.Common.{◌∙◌, ap}
use Rattle.st_plain.specs.Plain.{object}
use Rattle.st_jws.specs.Jwk.{jwk_of}
use Rattle.st_jws.proofs.KeyLemmas.{jwk_of-jwk_json}
use Rattle.st_jws.proofs.jwk.all_members.Goals as goal

pub returns-clause-read : goal.returns-clause-read
returns-clause-read c =
    let is = c.in_ok-members.ensures in
    ap (λ members. jwk_of (object members)) is.members ∙ jwk_of-jwk_json c.args.key.now is.public is.public_long is.public_bytes is.nonce
