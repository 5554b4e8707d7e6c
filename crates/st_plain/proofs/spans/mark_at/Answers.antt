use Rattle.std.proofs.Common.{◌+◌, sym, subst}
use Rattle.std.proofs.lemmas.List.{take_rest}
use Rattle.std.specs.Prelude.{slice_index}
use Rattle.st_plain.specs.inside.Walk.{IsNextMark}
use Rattle.st_plain.proofs.MarkLemmas.{found_mark}
use Rattle.st_plain.proofs.spans.mark_at.Goals as goal

pub returns : goal.returns
returns c =
    let bytes = c.args.bytes.now in
    let at = c.args.at in
    subst (IsNextMark bytes (slice_index bytes at)) (sym (take_rest bytes (at + 1))) (found_mark bytes at c.requires)
