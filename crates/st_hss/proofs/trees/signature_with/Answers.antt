use Rattle.std.proofs.Common.{arith}
use Rattle.st_hss.proofs.VaultLemmas.{leaf_of_child}
use Rattle.st_hss.proofs.LawLemmas.{signs_for_public}
use Rattle.st_hss.specs.Uses.{hss_signature_of}
use Rattle.st_hss.proofs.trees.signature_with.Goals as goal

pub sign-requires : goal.sign-requires
sign-requires c = rw c.requires.trees.lower.signer (leaf_of_child _ _ _ (omega arith))

pub returns-clause-value : goal.returns-clause-value
unfolding hss_signature_of
returns-clause-value c = rw (
  c.in_ok-push_all.ensures.ok,
  c.in_ok-whole.ensures,
  c.as_slice.ensures,
  c.as_slice-2.ensures,
  c.requires.trees.lower.head,
  c.in_ok-signature.ensures.value,
  c.requires.trees.lower.signer,
  c.requires.leaf,
  c.number-leaf.ensures.value,
)

pub returns-clause-verifies : goal.returns-clause-verifies
returns-clause-verifies c =
    rw (returns-clause-value c) (signs_for_public c.args.counter.key c.args.counter.number c.args.message.now c.requires.known c.requires.small)
