use Rattle.std.proofs.Common.{◌∙◌, ◌≡◌, ◌↔◌, subst, List, ℕ}
use Rattle.std.specs.Prelude.{IsTrue}
use Rattle.st_plain.specs.Plain.{quoted}
use Rattle.st_plain.proofs.QuotedLemmas.{named_quoted, name_turned}
use Rattle.st_plain.proofs.quoted.is_named.Goals as goal

tells : (c : goal.After-is_quoted) → IsTrue c.is_quoted.result ↔ (c.args.text.now ≡ quoted c.args.name.now)
tells c = subst (λ (bytes : List ℕ). IsTrue c.is_quoted.result ↔ (c.args.text.now ≡ quoted bytes)) c.as_bytes.ensures.value c.is_quoted.ensures

pub returns-clause-asked : goal.returns-clause-asked
returns-clause-asked c = λ word utf8 is. named_quoted c.is_quoted.result c.args.text.now c.args.name.now word c.utf8.name utf8 is (tells c)

pub returns-clause-among : goal.returns-clause-among
returns-clause-among c = λ word utf8 is.
    named_quoted c.is_quoted.result c.args.text.now c.args.name.now word c.utf8.name utf8 is (tells c) ∙ name_turned c.args.name.now word
