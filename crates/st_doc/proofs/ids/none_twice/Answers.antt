use Rattle.std.proofs.Common.{◌∙◌}
use Rattle.std.proofs.lemmas.Map.Views.{btree_set_len-from_list}
use Rattle.st_doc.proofs.PatchLemmas.{text_cmp-total, none_twice-count}
use Rattle.st_doc.proofs.ids.none_twice.Goals as goal

pub returns : goal.returns
returns c =
    none_twice-count c.args.texts.now c.len.result
    (c.len.ensures.len ∙ btree_set_len-from_list text_cmp-total c.args.texts.now c.in_ok-different.different c.in_ok-different.ensures)
