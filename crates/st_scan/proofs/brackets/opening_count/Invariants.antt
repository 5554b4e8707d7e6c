use Rattle.std.proofs.Common.{◌≡◌, ◌+◌, ◌≤◌, length}
use Rattle.st_plain.specs.Measures.{opening_count}
use Rattle.st_scan.proofs.brackets.opening_count.Given as goal

abbrev pub invariant-steps : goal.invariant-steps
invariant-steps l = record {
  value : l.count + opening_count l.rest ≡ opening_count l.text;
  within : l.count + length l.rest ≤ length l.text;
}

abbrev pub decreases-steps : goal.decreases-steps
decreases-steps l = length l.rest
