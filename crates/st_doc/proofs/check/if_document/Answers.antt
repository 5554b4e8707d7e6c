use Rattle.std.proofs.Common.{sym, ◌∙◌}
use Rattle.st_canon.specs.View.{plain}
use Rattle.st_doc.specs.Document.{plain_document}
use Rattle.st_doc.proofs.TakenLemmas.{none_is, taken_is}
use Rattle.st_doc.proofs.check.if_document.Goals as goal

pub returns : goal.returns
returns c =
    taken_is c.args.params.now (plain_document c.args.document) (plain_document c.in_ok-from_json.field-0) (plain c.in_ok-json.json)
    (sym c.in_ok-is_right.ensures ∙ c.if-not-branch.false) c.in_ok-json.ensures c.in_ok-from_json.ensures

pub returns-then-not-branch : goal.returns-then-not-branch
returns-then-not-branch c =
    none_is c.args.params.now (plain_document c.args.document) (plain c.in_ok-json.json)
    (sym c.in_ok-is_right.ensures ∙ c.if-not-branch.true) c.in_ok-json.ensures
