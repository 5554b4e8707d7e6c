use Rattle.std.proofs.Common.{◌≡◌, ◌∙◌, ◌+◌, ◌∷◌, drop, ap}
use Rattle.std.proofs.lemmas.List.{drop_more, drop_all}
use Rattle.st_plain.specs.Plain.{quoted}
use Rattle.st_plain.proofs.QuotedLemmas.{at_the_end, first_span, next_byte}
use Rattle.st_plain.proofs.quoted.is_quoted.Goals as goal

pub bytes-preserved : goal.bytes-preserved
bytes-preserved c =
    let others = c.split_span.result.1.now in
    let at = c.bytes.byte-index in
    next_byte (c.args.text.now ≡ quoted c.args.word.now) c.bytes.rest.now c.in-Some-strip_escaped.behind.now (drop (at + 1) others) _
    (drop at others) (drop_more others at 0 c.bytes-test.true) c.in-Some-strip_escaped.ensures.some c.bytes.invariant

pub returns : goal.returns
returns c =
    let others = c.split_span.result.1.now in
    let at = c.bytes.byte-index in
    at_the_end (c.args.text.now ≡ quoted c.args.word.now) c.bytes.rest.now (drop at others) c.is_closing.result
    (drop_all at others c.bytes-test.false) c.is_closing.ensures c.bytes.invariant

pub bytes-init : goal.bytes-init
bytes-init c =
    first_span c.args.text.now c.split_span.result.0.now c.in-Some-strip.rest.now c.args.word.now c.split_span.result.1.now
    (c.in-Some.ensures.some ∙ ap (λ inside. 34 ∷ inside) c.in-Some-strip.ensures.some) c.split_span.ensures.escaped
