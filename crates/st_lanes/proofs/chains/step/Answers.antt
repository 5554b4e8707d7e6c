use Rattle.std.proofs.Common.{◌++◌, ◌∷◌, slice_index, ◌∙◌}
use Rattle.sha2.specs.Sha256.{digest_bytes}
use Rattle.st_lanes.specs.inside.Lanes.{lane}
use Rattle.st_lanes.proofs.LinkLemmas.{link_block, long_message, hash_of_block}
use Rattle.st_lanes.proofs.chains.step.Goals as goal

pub returns-clause-digest : goal.returns-clause-digest
returns-clause-digest c k p lt head words byte =
    let v = lane k c.args.value.now in
    let j = slice_index c.args.j k in
    let block = c.link.ensures k lt ∙ link_block p (lane k c.args.head.now) v j head words byte in
    hash_of_block (p ++ j ∷ digest_bytes v 8) (long_message p v j head) _ (c.compress.ensures.value k _ lt block) (c.initial_hash.ensures k lt)

pub returns-clause-words : goal.returns-clause-words
returns-clause-words c = c.compress.ensures.words
