use Rattle.std.proofs.Common.{map, unwrap_or}
use Rattle.st_canon.specs.View.{plain}
use Rattle.st_doc.specs.Patch.{entry_of}
use Rattle.st_doc.specs.Document.{id_of}
use Rattle.st_doc.proofs.PatchLemmas.{IsChangedBelow, one_effect_more}
use Rattle.st_doc.proofs.effects.replace_entries.Goals as goal

pub loop-entry-preserved : goal.loop-entry-preserved
loop-entry-preserved c =
    let below : IsChangedBelow (λ entry. unwrap_or (entry_of (id_of entry) (map plain c.args.new.now)) entry) c.args.entries.now c.loop-entry.entries c.loop-entry.entry-index
    = record { changed = c.loop-entry.invariant; inside = c.loop-entry-test.true } in
    one_effect_more below c.entry-item.result c.replace_entry.new.entry c.in_ok-replace_entry.ensures
