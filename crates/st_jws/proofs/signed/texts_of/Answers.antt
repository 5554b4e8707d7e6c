use Rattle.std.proofs.Common.{◌∙◌, ◌++◌, ◌∷◌, sym, ap}
use Rattle.st_jws.specs.Texts.{dot}
use Rattle.st_jws.proofs.SignedLemmas.{regrouped, texts_found}
use Rattle.st_jws.proofs.signed.texts_of.Goals as goal

pub returns : goal.returns
returns c =
    let first = c.in_ok-header.ensures in
    let second = c.in_ok-payload.ensures in
    let header = c.in_ok-header.header.now in
    let payload = c.in_ok-payload.payload.now in
    let signature = c.in_ok-payload.signature.now in
    texts_found c.args.text.now header c.in_ok-header.rest.now payload signature
    (first.whole ∙ ap (λ rest. header ++ dot ∷ rest) second.whole ∙ regrouped header payload signature) (sym first.value) (sym second.value)
