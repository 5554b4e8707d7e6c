use Rattle.std.proofs.Common.{◌≡◌, ◌++◌}
use Rattle.st_observer.proofs.waiting.listed.Given as goal

abbrev pub invariant-entries : goal.invariant-entries
invariant-entries l = l.numbers ++ l.n-iterator ≡ l.entries.keys
