use Rattle.std.proofs.Common.{◌≡◌, ◌*◌, length, take}
use Rattle.st_lms.specs.Strings.{joined}
use Rattle.st_lms.proofs.digits.repeated.Given as goal

abbrev pub invariant-values : goal.invariant-values
invariant-values l = (length l.row ≡ 8480) × (take (32 * l.i) l.row ≡ joined (λ i. l.value) l.i)
