use Rattle.std.proofs.Common.{◌+◌}
use Rattle.st_lanes.proofs.Lanes.{IsFilled}
use Rattle.st_lms.specs.OneTime.{width, one_time_number}
use Rattle.st_lms.specs.Strings.{coef}
use Rattle.st_lms.proofs.digits.digit_places.Given as goal

abbrev pub invariant-digits : goal.invariant-digits
invariant-digits l = IsFilled (λ i. coef l.digits i (width (one_time_number l.kind)) + 1) 265 l.places l.i
