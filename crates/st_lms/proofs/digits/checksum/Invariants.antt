use Rattle.std.proofs.Common.{◌≡◌}
use Rattle.st_lms.specs.OneTime.{shortfall, one_time_number}
use Rattle.st_lms.proofs.digits.checksum.Given as goal

abbrev pub invariant-digits : goal.invariant-digits
invariant-digits l = l.sum ≡ shortfall (one_time_number l.kind) l.hash l.i
