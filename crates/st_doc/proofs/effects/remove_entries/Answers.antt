use Rattle.std.proofs.Common.{map, filter, not, ap, ◌∙◌}
use Rattle.st_canon.specs.View.{plain}
use Rattle.st_doc.specs.Alike.{is_among}
use Rattle.st_doc.specs.Patch.{removed}
use Rattle.st_doc.specs.Document.{id_of}
use Rattle.st_doc.proofs.PatchLemmas.{filter-plain}
use Rattle.st_doc.proofs.effects.remove_entries.Goals as goal

pub returns : goal.returns
unfolding removed
returns c =
    ap (map plain) (c.from_vec.ensures ∙ c.keep_others.ensures ∙ ap (filter (λ entry. not (is_among c.args.ids.now (id_of (plain entry))))) c.into_vec-kept.ensures)
    ∙ filter-plain (λ entry. not (is_among c.args.ids.now (id_of entry))) c.args.entries
