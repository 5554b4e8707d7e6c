use Rattle.std.proofs.Common.{◌≡◌, drop}
use Rattle.std.specs.List.{list_all}
use Rattle.st_doc.specs.Document.{is_id}
use Rattle.st_doc.proofs.patch.are_ids.Given as goal

abbrev pub invariant-loop-text : goal.invariant-loop-text
invariant-loop-text l = list_all is_id l.texts ≡ list_all is_id (drop l.text-index l.texts)
