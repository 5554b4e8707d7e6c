use Rattle.std.proofs.Common.{◌≡◌, ◌≤◌, false, length}
use Rattle.st_plain.specs.inside.Walk.{behind_text}
use Rattle.st_plain.proofs.spans.next_mark.Given as goal

abbrev pub invariant-steps : goal.invariant-steps
invariant-steps l = record {
  value : behind_text false l.rest ≡ behind_text false l.bytes;
  shorter : length l.rest ≤ length l.bytes;
}

abbrev pub decreases-steps : goal.decreases-steps
decreases-steps l = l.steps
