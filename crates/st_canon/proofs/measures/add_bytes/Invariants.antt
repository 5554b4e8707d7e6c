use Rattle.std.proofs.Common.{◌≡◌, ◌+◌, ◌<◌, ◌^◌, length}
use Rattle.std.specs.List.{flat_map}
use Rattle.st_plain.specs.Plain.{escape}
use Rattle.st_plain.specs.inside.Walk.{saturated}
use Rattle.st_canon.proofs.measures.add_bytes.Given as goal

abbrev pub invariant-loop-byte : goal.invariant-loop-byte
invariant-loop-byte l = record {
  size : saturated (l.initial.size + length (flat_map escape l.initial.rest)) ≡ saturated (l.size + length (flat_map escape l.rest));
  fits : l.size < 2 ^ 64;
}

abbrev pub decreases-loop-byte : goal.decreases-loop-byte
decreases-loop-byte l = length l.rest
