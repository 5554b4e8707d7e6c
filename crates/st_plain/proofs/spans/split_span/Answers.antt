use Rattle.std.proofs.Common.{◌++◌, ◌∙◌, sym, ap, take}
use Rattle.std.proofs.lemmas.List.{take_rest}
use Rattle.std.specs.List.{flat_map}
use Rattle.st_plain.specs.Plain.{escape}
use Rattle.st_plain.proofs.MarkLemmas.{span_first}
use Rattle.st_plain.proofs.spans.split_span.Goals as goal

pub returns-clause-escaped : goal.returns-clause-escaped
returns-clause-escaped c =
    let found = c.span_length-at.ensures in
    span_first c.args.bytes.now c.span_length-at.result found.within found.plain
    ∙ ap (λ rest. take c.span_length-at.result c.args.bytes.now ++ flat_map escape rest) (sym (take_rest c.args.bytes.now c.span_length-at.result))
