use Rattle.st_lms.proofs.TreeLemmas.{IsOnWay, whole_path}
use Rattle.st_lms.proofs.signer.push_path.Given as goal

abbrev pub invariant-levels : goal.invariant-levels
invariant-levels l = IsOnWay l.secret (whole_path l.secret l.fn.out l.q) (record { out = l.out; level = l.level; r = l.r })
