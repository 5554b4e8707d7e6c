use Rattle.std.proofs.Common.{◌≡◌, ◌++◌, take, map}
use Rattle.st_indexfiles.proofs.entries.push_targets.Given as goal

abbrev pub invariant-loop-target : goal.invariant-loop-target
invariant-loop-target l = l.suffixes ≡ l.fn.suffixes ++ map (λ target. target.suffix) (take l.target-index l.targets)
