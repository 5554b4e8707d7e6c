use Rattle.std.proofs.Common.{◌≡◌, ◌≤◌, length}
use Rattle.st_plain.specs.inside.Walk.{behind_scalar}
use Rattle.st_plain.proofs.values.behind_scalar.Given as goal

abbrev pub invariant-bytes : goal.invariant-bytes
invariant-bytes l = record {
  value : behind_scalar l.rest ≡ behind_scalar l.bytes;
  shorter : length l.rest ≤ length l.bytes;
}

abbrev pub decreases-bytes : goal.decreases-bytes
decreases-bytes l = length l.rest
