use Rattle.std.proofs.Common.{ap}
use Rattle.st_lms.specs.Signature.{root_of}
use Rattle.st_lms.proofs.verification.root_of.Goals as goal

pub returns : goal.returns
unfolding root_of
returns c =
    rw (c.node_above.ensures, c.leaf-leaf.ensures, c.candidate_key-key.ensures, c.checked-digits.ensures, c.message_hash-hash.ensures, c.leaf_count.ensures.count, c.height.ensures)
    (ap (λ public. root_of public c.args.q c.args.randomizer.now c.args.values.now c.args.path.now c.args.message.now) c.public.view_is)
