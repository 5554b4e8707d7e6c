use Rattle.std.proofs.Common.{◌∙◌, sym, ap}
use Rattle.std.specs.List.{flat_map}
use Rattle.st_plain.specs.Plain.{escape}
use Rattle.st_plain.proofs.MarkLemmas.{plain_front}
use Rattle.st_plain.proofs.canonical.split_unescaped.Goals as goal

pub returns-clause-plain : goal.returns-clause-plain
returns-clause-plain c =
    let span = c.span_length-length.ensures in
    let inside = c.as_bytes.ensures.value in
    let front = c.split_at.ensures.front in
    ap (flat_map escape) front ∙ plain_front c.args.text.now c.span_length-length.result (rw inside at span.within) (rw inside at span.plain) ∙ sym front
