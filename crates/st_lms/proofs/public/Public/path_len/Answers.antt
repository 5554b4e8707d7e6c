use Rattle.std.proofs.Common.{arith}
use Rattle.st_lms.specs.OneTime.{tree_number}
use Rattle.st_lms.proofs.TreeLemmas.{height-small}
use Rattle.st_lms.proofs.KeyLemmas.{tree_known}
use Rattle.st_lms.proofs.public.Public.path_len.Goals as goal

pub returns-clause-small : goal.returns-clause-small
returns-clause-small c =
    omega (arith, c.height.ensures, height-small (tree_number c.self.inside.tree) (tree_known c.self.inside.tree))
