use Rattle.std.proofs.Common.{◌≡◌, take, filter, not}
use Rattle.st_doc.specs.Alike.{is_among}
use Rattle.st_doc.proofs.effects.other_names.Given as goal

abbrev pub invariant-loop-name : goal.invariant-loop-name
invariant-loop-name l = l.others.items ≡ filter (λ name. not (is_among l.names name)) (take l.name-index l.new)
