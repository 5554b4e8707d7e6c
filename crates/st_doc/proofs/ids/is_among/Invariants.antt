use Rattle.std.proofs.Common.{◌≡◌, drop}
use Rattle.st_doc.specs.Alike.{is_among}
use Rattle.st_doc.proofs.ids.is_among.Given as goal

abbrev pub invariant-loop-other : goal.invariant-loop-other
invariant-loop-other l = is_among l.texts l.text ≡ is_among (drop l.other-index l.texts) l.text
