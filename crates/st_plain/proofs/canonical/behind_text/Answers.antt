use Rattle.std.proofs.Common.{length, ap, arith, rules, length-append}
use Rattle.st_plain.proofs.AlreadyLemmas.{one_byte_more, one_span_more, text_begins, text_ends}
use Rattle.st_plain.proofs.canonical.behind_text.Goals as goal

pub runs-init : goal.runs-init
runs-init c = record {
  text = search rules;
  shorter = (let is = ap length c.in_ok-rest.ensures in omega (arith, is));
  whole = text_begins c.args.text.now c.in_ok-rest.rest.now c.in_ok-rest.ensures;
}

pub runs-preserved : goal.runs-preserved
runs-preserved c =
    let l = c.runs in
    let span = c.in_ok-_span.ensures in
    let less = c.in_ok-rest-2.ensures.shorter in
    let before = l.invariant.shorter in
    record {
      text = search rules;
      shorter = omega (arith, before, less, ap length span.parted, length-append c.in_ok-_span._span.now c.in_ok-_span.behind.now);
      whole = one_byte_more c.args.text.now c.in_ok-_span.behind.now c.in_ok-rest-2.rest.now
          (one_span_more c.args.text.now l.rest.now c.in_ok-_span._span.now c.in_ok-_span.behind.now l.invariant.whole span.plain span.parted span.utf8)
          c.in_ok-rest-2.ensures.byte;
    }

pub returns-in-Some-clause-text : goal.returns-in-Some-clause-text
returns-in-Some-clause-text c =
    let l = c.runs in
    let span = c.in_ok-_span.ensures in
    text_ends c.args.text.now c.in_ok-_span.behind.now _
    (one_span_more c.args.text.now l.rest.now c.in_ok-_span._span.now c.in_ok-_span.behind.now l.invariant.whole span.plain span.parted span.utf8)
    c.in-Some.ensures
