use Rattle.std.proofs.Common.{◌∙◌}
use Rattle.std.proofs.lemmas.Map.Views.{btree_set_len-from_list}
use Rattle.st_hash.specs.Hash.{hash_cmp-total}
use Rattle.st_indexfiles.proofs.MemberLemmas.{has_twice-count}
use Rattle.st_indexfiles.proofs.entries.has_twice.Goals as goal

pub returns : goal.returns
returns c =
    has_twice-count c.args.hashes.now c.len.result
    (c.len.ensures.len ∙ btree_set_len-from_list hash_cmp-total c.args.hashes.now c.in_ok-different.different c.in_ok-different.ensures)
