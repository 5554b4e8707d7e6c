use Rattle.std.proofs.Common.{ap}
use Rattle.std.proofs.lemmas.Bool.Decides.{same_from_decides}
use Rattle.std.specs.Cmp.Lexicographic.{bytes_decides}
use Rattle.st_plain.specs.Plain.{canonical}
use Rattle.st_plain.proofs.ReadableLemmas.{same_value}
use Rattle.st_canon.specs.View.{plain}
use Rattle.st_canon.proofs.equality.equal.Goals as goal

pub returns-then-size-clause-texts : goal.returns-then-size-clause-texts
returns-then-size-clause-texts c = (
  λ is. ap canonical (c.same.ensures.0 is),
  λ texts. c.same.ensures.1 (same_value (plain c.args.first.now) (plain c.args.second.now) c.size.ensures.proper c.size-2.ensures.proper texts),
)

pub returns-then-size-clause-value : goal.returns-then-size-clause-value
returns-then-size-clause-value c =
    same_from_decides _ _ (returns-then-size-clause-texts c) (bytes_decides (canonical (plain c.args.first.now)) (canonical (plain c.args.second.now)))
