use Rattle.std.proofs.Common.{◌≡◌, take, map}
use Rattle.st_plain.specs.Plain.{text}
use Rattle.st_canon.specs.View.{plain}
use Rattle.st_doc.proofs.document.text_list.Given as goal

abbrev pub invariant-loop-text : goal.invariant-loop-text
invariant-loop-text l = map plain l.list ≡ map text (take l.text-index l.texts)
