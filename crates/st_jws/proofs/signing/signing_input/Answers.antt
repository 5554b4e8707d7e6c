use Rattle.std.proofs.Common.{◌≡◌, ◌∙◌, refl, sym, ap, subst}
use Rattle.std.specs.Str.{IsAscii}
use Rattle.st_plain.specs.Plain.{canonical}
use Rattle.st_canon.specs.View.{plain}
use Rattle.st_hash.specs.Hash.{base64url}
use Rattle.st_jws.specs.Signing.{header_text}
use Rattle.st_jws.proofs.SignedLemmas.{IsAscii-signing_input}
use Rattle.st_jws.proofs.signing.signing_input.Goals as goal

pub returns-clause-value : goal.returns-clause-value
returns-clause-value c =
    let first : c.as_bytes.result.now ≡ base64url header_text = c.as_bytes.ensures.value ∙ c.as_str.ensures ∙ c.in_ok-header.ensures.value in
    let second : c.as_bytes-2.result.now ≡ base64url (canonical (plain c.args.payload.now)) =
    c.as_bytes-2.ensures.value ∙ c.as_str-2.ensures ∙ c.in_ok-payload.ensures.value ∙ ap base64url (c.as_slice.ensures ∙ c.in_ok-canonical.ensures.text) in
    c.in_ok-input.ensures ∙ rw (first, second) refl

pub returns-clause-ascii : goal.returns-clause-ascii
returns-clause-ascii c =
    subst IsAscii (sym (returns-clause-value c)) (IsAscii-signing_input (plain c.args.payload.now))
