use Rattle.std.proofs.Common.{◌≡◌, ◌≤◌, ◌+◌, length}
use Rattle.st_plain.specs.inside.Walk.{outside, behind_brackets}
use Rattle.st_plain.proofs.values.behind_brackets.Given as goal

abbrev pub invariant-bytes : goal.invariant-bytes
invariant-bytes l = record {
  value : behind_brackets l.depth outside l.rest ≡ behind_brackets 0 outside l.bytes;
  shorter : l.depth + length l.rest ≤ length l.bytes;
}

abbrev pub decreases-bytes : goal.decreases-bytes
decreases-bytes l = length l.rest
