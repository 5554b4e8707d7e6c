use Rattle.st_plain.proofs.ReadableLemmas.{refused}
use Rattle.st_plain.proofs.respelling.canonical_text.Goals as goal

pub returns-in_default-clause-refusal : goal.returns-in_default-clause-refusal
returns-in_default-clause-refusal c = refused c.args.bytes.now (λ utf8. absurd (c.in_default.ensures.cases.0 utf8))
