use Rattle.std.proofs.Common.{◌≡◌, drop}
use Rattle.st_doc.specs.Alike.{none_twice}
use Rattle.st_doc.proofs.ids.few_texts_stand_once.Given as goal

abbrev pub invariant-loop-at : goal.invariant-loop-at
invariant-loop-at l = none_twice l.texts ≡ none_twice (drop l.at l.texts)
