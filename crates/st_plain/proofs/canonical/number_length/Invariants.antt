use Rattle.std.proofs.Common.{◌≤◌, length}
use Rattle.st_plain.proofs.canonical.number_length.Given as goal

abbrev pub invariant-digits : goal.invariant-digits
invariant-digits l = length l.rest ≤ length l.bytes

abbrev pub decreases-digits : goal.decreases-digits
decreases-digits l = length l.rest
