use Rattle.std.proofs.Common.{◌≡◌, ◌≤◌, false, length}
use Rattle.st_plain.specs.inside.Walk.{behind_text}
use Rattle.st_plain.proofs.values.behind_text.Given as goal

abbrev pub invariant-marks : goal.invariant-marks
invariant-marks l = record {
  value : behind_text false l.rest ≡ behind_text false l.bytes;
  shorter : length l.rest ≤ length l.bytes;
}

abbrev pub decreases-marks : goal.decreases-marks
decreases-marks l = length l.rest
