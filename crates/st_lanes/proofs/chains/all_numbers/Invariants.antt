use Rattle.st_lanes.proofs.Lanes.{IsFilled}
use Rattle.st_lanes.proofs.chains.all_numbers.Given as goal

abbrev pub invariant-numbers : goal.invariant-numbers
invariant-numbers l = IsFilled (λ k. k) 265 l.numbers l.i
