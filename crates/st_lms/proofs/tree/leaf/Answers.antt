use Rattle.std.proofs.Common.{◌∙◌, ◌++◌, ap}
use Rattle.sha2.specs.Sha256.{sha256}
use Rattle.st_lms.specs.Strings.{u32str, u16str}
use Rattle.st_lms.specs.Tree.{d_leaf, leaf}
use Rattle.st_lms.proofs.tree.leaf.Goals as goal

pub returns : goal.returns
unfolding leaf
returns c =
    let start = c.args.id.now ++ u32str c.args.r ++ u16str d_leaf in
    c.finalize.ensures (start ++ c.as_slice.result.now) (c.update.ensures start c.hasher-hasher.ensures)
    ∙ ap (λ key. sha256 (start ++ key)) c.as_slice.ensures
