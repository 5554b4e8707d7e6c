use Rattle.std.proofs.Common.{◌≡◌, length}
use Rattle.std.specs.List.{flat_map}
use Rattle.st_plain.specs.Plain.{escape}
use Rattle.st_plain.specs.inside.Walk.{less}
use Rattle.st_canon.proofs.measures.less_bytes.Given as goal

abbrev pub invariant-loop-byte : goal.invariant-loop-byte
invariant-loop-byte l =
    less l.initial.left (length (flat_map escape l.initial.rest)) ≡ less l.left (length (flat_map escape l.rest))

abbrev pub decreases-loop-byte : goal.decreases-loop-byte
decreases-loop-byte l = length l.rest
