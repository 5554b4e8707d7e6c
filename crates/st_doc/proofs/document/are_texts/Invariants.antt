use Rattle.std.proofs.Common.{◌≡◌, drop, map}
use Rattle.st_canon.specs.View.{plain}
use Rattle.st_base.specs.Lists.{each_is}
use Rattle.st_plain.specs.Objects.{text_in}
use Rattle.st_doc.proofs.document.are_texts.Given as goal

abbrev pub invariant-loop-value : goal.invariant-loop-value
invariant-loop-value l = each_is text_in (map plain l.values) ≡ each_is text_in (map plain (drop l.value-index l.values))
