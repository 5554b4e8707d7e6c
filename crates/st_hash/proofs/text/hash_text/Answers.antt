use Rattle.std.proofs.Common.{◌≡◌, ◌∙◌, ap, arith, length, subst, sym, Some}
use Rattle.std.proofs.lemmas.Grind.{common_steps}
use Rattle.st_hash.specs.Hash.{hash_of_text, hash_of_text_at, hash_text}
use Rattle.st_hash.proofs.HashLemmas.{hash_of_text_at-hash_text, hash_of_text-hash_text, length-hash_text}
use Rattle.st_hash.proofs.text.hash_text.Goals as goal

pub returns-clause-read : goal.returns-clause-read
returns-clause-read c = λ version of_version.
    let same : c.in_ok-enc.field-0 ≡ hash_text c.args.hash.now = grind (arith, common_steps) in
    subst (λ text. hash_of_text_at version text ≡ Some c.args.hash.now) (sym same)
    (hash_of_text_at-hash_text version c.args.hash.now c.code.ensures.is of_version)

pub returns-clause-uri : goal.returns-clause-uri
returns-clause-uri c = λ of_sha256.
    let same : c.in_ok-enc.field-0 ≡ hash_text c.args.hash.now = grind (arith, common_steps) in
    subst (λ text. hash_of_text text ≡ Some c.args.hash.now) (sym same)
    (hash_of_text-hash_text c.args.hash.now c.code.ensures.is of_sha256)

pub returns-clause-characters : goal.returns-clause-characters
returns-clause-characters c =
    let same : c.in_ok-enc.field-0 ≡ hash_text c.args.hash.now = grind (arith, common_steps) in
    ap length same ∙ length-hash_text c.args.hash.now c.code.ensures.is
