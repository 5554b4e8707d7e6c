use Rattle.std.proofs.Common.{arith}
use Rattle.st_hss.proofs.VaultLemmas.{leaf_of_child}
use Rattle.st_hss.specs.Uses.{head_of}
use Rattle.st_hss.proofs.trees.new_head.Goals as goal

pub sign-requires : goal.sign-requires
sign-requires c = rw c.requires.top (leaf_of_child _ _ _ (omega arith))

pub returns : goal.returns
unfolding head_of
returns c = rw (
  c.in_ok-push_all-3.ensures.ok,
  c.in_ok-push_all-2.ensures.ok,
  c.in_ok-push_all.ensures.ok,
  c.new-head.ensures,
  c.u32str.ensures,
  c.as_slice.ensures,
  c.in_ok-signature.ensures.value,
  c.requires.top,
  c.requires.text,
)
