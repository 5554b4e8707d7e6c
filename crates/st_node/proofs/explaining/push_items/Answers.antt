use Rattle.std.proofs.Common.{◌∙◌, ◌<◌, length, get_or, sym, arith}
use Rattle.std.proofs.lemmas.List.{get_or_default}
use Rattle.st_base.proofs.ListLemmas.{next_item}
use Rattle.st_cert.specs.declared.verdict.Verdict.TheVariants.{Before}
use Rattle.st_node.proofs.ReplyLemmas.{last_line, next_line}
use Rattle.st_node.proofs.explaining.push_items.Goals as goal

pub loop-at-preserved : goal.loop-at-preserved
loop-at-preserved c =
    let inside : c.loop-at.at < length c.args.verdicts.now = omega arith in
    let verdict = get_or c.args.verdicts.now c.loop-at.at Before in
    next_line c.args.items.now c.args.verdicts.now c.loop-at.text.items _ c.loop-at.at c.index-items-at.result verdict
    (next_item c.args.items.now c.loop-at.at c.index-items-at.result c.loop-at-test.true c.index-items-at.is)
    (next_item c.args.verdicts.now c.loop-at.at verdict inside (get_or_default c.args.verdicts.now c.loop-at.at Before verdict inside))
    c.in_ok-push_item.ensures
    ∙ c.loop-at.invariant

pub returns : goal.returns
returns c =
    sym (last_line c.args.items.now c.args.verdicts.now c.loop-at.text.items c.loop-at.at c.loop-at-test.false) ∙ c.loop-at.invariant
