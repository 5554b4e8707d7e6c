use Rattle.std.proofs.Common.{◌++◌}
use Rattle.st_lms.specs.Strings.{u32str, u16str}
use Rattle.st_lms.specs.Tree.{d_intr, inner}
use Rattle.st_lms.proofs.tree.inner.Goals as goal

pub returns : goal.returns
unfolding inner
returns c =
    let start = c.args.id.now ++ u32str c.args.r ++ u16str d_intr in
    c.finalize.ensures (start ++ c.args.left.now ++ c.args.right.now)
    (c.update-2.ensures (start ++ c.args.left.now) (c.update.ensures start c.hasher-hasher.ensures))
