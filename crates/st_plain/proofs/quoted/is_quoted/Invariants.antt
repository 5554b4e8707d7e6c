use Rattle.std.proofs.Common.{◌≡◌, ◌↔◌, ◌++◌, ◌∷◌, [], drop}
use Rattle.std.specs.List.{flat_map}
use Rattle.st_plain.specs.Plain.{escape, quoted}
use Rattle.st_plain.proofs.quoted.is_quoted.Given as goal

abbrev pub invariant-bytes : goal.invariant-bytes
invariant-bytes l = (l.text ≡ quoted l.word) ↔ (l.rest ≡ flat_map escape (drop l.byte-index l.others) ++ 34 ∷ [])
