use Rattle.std.proofs.Common.{◌∙◌, ◌++◌, ap, sym}
use Rattle.st_doc.specs.Document.{plain_document}
use Rattle.st_resolve.proofs.ResultLemmas.{canonical_described}
use Rattle.st_resolve.proofs.document.append_described.Goals as goal

pub returns : goal.returns
returns c = c.in_ok-append_described_parts.ensures ∙ ap (λ t. c.args.out.now ++ t) (sym (canonical_described c.args.did.now (plain_document c.args.document.now)))
