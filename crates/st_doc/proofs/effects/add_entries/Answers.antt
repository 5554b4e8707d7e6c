use Rattle.std.proofs.Common.{map, nat_eq, length, ap, sym, ◌∙◌}
use Rattle.st_canon.specs.View.{plain}
use Rattle.st_doc.proofs.PatchLemmas.{added_to_none}
use Rattle.st_doc.proofs.effects.add_entries.Goals as goal

pub returns-then-is_empty : goal.returns-then-is_empty
returns-then-is_empty c =
    added_to_none (map plain c.args.new) c.args.entries
    (sym (c.is_empty.ensures ∙ ap (λ entries. nat_eq (length entries) 0) c.as_slice.ensures) ∙ c.if-is_empty.true)
