use Rattle.std.proofs.Common.{◌≡◌, take, map}
use Rattle.st_doc.proofs.ids.strs_of.Given as goal

abbrev pub invariant-loop-text : goal.invariant-loop-text
invariant-loop-text l = map (λ text. text.now) l.strs.items ≡ take l.text-index l.texts
