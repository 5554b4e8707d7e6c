use Rattle.st_apply.proofs.ResolvedLemmas.{given_ascend}
use Rattle.st_apply.proofs.laws.given_law.Goals as goal

pub returns : goal.returns
returns g c = given_ascend
