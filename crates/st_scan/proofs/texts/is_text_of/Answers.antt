use Rattle.std.proofs.Common.{◌∙◌, ◌≡◌, ◌↔◌, List, ℕ, sym, subst}
use Rattle.std.specs.Prelude.{IsTrue}
use Rattle.st_plain.specs.Plain.{quoted}
use Rattle.st_scan.proofs.ContentLemmas.{text_tells}
use Rattle.st_scan.proofs.texts.is_text_of.Goals as goal

pub returns : goal.returns
returns c =
    let tells = subst (λ (bytes : List ℕ). IsTrue c.is_quoted.result ↔ (c.args.canonical.now ≡ quoted bytes)) c.as_bytes.ensures.value c.is_quoted.ensures in
    text_tells c.is_quoted.result c.args.canonical.now c.args.word.now c.requires c.utf8.word (sym c.is_text.ensures ∙ c.if-not-is_text.false) tells
