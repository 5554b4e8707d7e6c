use Rattle.std.proofs.Common.{◌∙◌, ap}
use Rattle.st_doc.specs.Document.{document_in, plain_document}
use Rattle.st_doc.proofs.TakenLemmas.{document_in-json}
use Rattle.st_apply.proofs.document.KeptDocument.pack.Goals as goal

pub returns : goal.returns
returns c = ap document_in (c.in_ok-json-2.ensures ∙ c.in_ok-json.ensures) ∙ document_in-json (plain_document c.args.document)
