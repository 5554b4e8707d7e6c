use Rattle.std.proofs.Common.{◌≡◌, ◌∙◌, Some, ap, sym}
use Rattle.st_hash.specs.Hash.{hash_of_text_at, hash_text}
use Rattle.st_resolve.proofs.SpellingLemmas.{did_of-short_form}
use Rattle.st_resolve.proofs.identifier.read_suffix.Goals as goal

pub returns-in-Ok-clause-short : goal.returns-in-Ok-clause-short
returns-in-Ok-clause-short c =
    let version = c.args.version in
    let suffix = c.in-Ok.suffix in
    let again : hash_of_text_at version (hash_text suffix) ≡ Some suffix = ap (hash_of_text_at version) (sym c.in-Ok.ensures.spelled) ∙ sym c.in-Ok.ensures.value in
    did_of-short_form version suffix again
