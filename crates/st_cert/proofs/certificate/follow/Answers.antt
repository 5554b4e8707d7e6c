use Rattle.std.proofs.Common.{◌∙◌, ◌+◌, ◌++◌, ap, drop, subst}
use Rattle.st_base.proofs.ListLemmas.{next_item}
use Rattle.st_base.specs.Work.{AppliesAtMost}
use Rattle.st_cert.specs.Certificate.{acting_count, anchored_items}
use Rattle.st_cert.specs.inside.Following.{verdicts_from}
use Rattle.st_cert.proofs.CertificateLemmas.{none_applied, state_next, verdicts_next, work_here, work_next}
use Rattle.st_cert.proofs.certificate.follow.Goals as goal

pub returns-in_err-verdict-clause-acting : goal.returns-in_err-verdict-clause-acting
returns-in_err-verdict-clause-acting c = c.loop-item.invariant.work _ (none_applied _ c.loop-item.work)

pub returns-in_err-standing-clause-acting : goal.returns-in_err-standing-clause-acting
returns-in_err-standing-clause-acting c =
    let next = next_item c.args.items.now c.loop-item.item-index c.item-item.result c.loop-item-test.true c.item-item.is in
    c.loop-item.invariant.work _ (work_here c.args.schedule.now c.args.items.now c.loop-item.item-index c.item-item.result next c.loop-item.standing
    c.in_ok-verdict.verdict c.loop-item.work c.behind.new.work c.in_ok-verdict.ensures c.behind.ensures.work)

pub returns-in_err-push-clause-acting : goal.returns-in_err-push-clause-acting
returns-in_err-push-clause-acting c =
    let next = next_item c.args.items.now c.loop-item.item-index c.item-item.result c.loop-item-test.true c.item-item.is in
    c.loop-item.invariant.work _ (work_here c.args.schedule.now c.args.items.now c.loop-item.item-index c.item-item.result next c.loop-item.standing
    c.in_ok-verdict.verdict c.loop-item.work c.behind.new.work c.in_ok-verdict.ensures c.behind.ensures.work)

pub loop-item-preserved : goal.loop-item-preserved
loop-item-preserved c =
    let next = next_item c.args.items.now c.loop-item.item-index c.item-item.result c.loop-item-test.true c.item-item.is in
    let rest = anchored_items (drop (c.loop-item.item-index + 1) c.args.items.now) in record {
      verdicts = ap (λ vs. vs ++ verdicts_from c.args.schedule.now c.in_ok-standing.standing rest) c.in_ok-push.ensures.ok
          ∙ verdicts_next c.args.schedule.now c.args.items.now c.loop-item.item-index c.item-item.result next c.loop-item.standing
          c.loop-item.verdicts c.in_ok-verdict.verdict c.in_ok-standing.standing c.in_ok-verdict.ensures c.in_ok-standing.ensures.state
          c.loop-item.invariant.verdicts;
      state = state_next c.args.schedule.now c.args.items.now c.loop-item.item-index c.item-item.result next c.loop-item.standing
          c.in_ok-standing.standing c.in_ok-standing.ensures.state c.loop-item.invariant.state;
      work = λ new bound. c.loop-item.invariant.work new
          (work_next c.args.schedule.now c.args.items.now c.loop-item.item-index c.item-item.result next c.loop-item.standing
          c.in_ok-verdict.verdict c.loop-item.work c.behind.new.work new c.in_ok-verdict.ensures c.behind.ensures.work
          (subst (λ after. AppliesAtMost (acting_count (verdicts_from c.args.schedule.now after rest)) c.behind.new.work new)
          c.in_ok-standing.ensures.state bound));
    }

pub returns-clause-acting : goal.returns-clause-acting
returns-clause-acting c = c.loop-item.invariant.work _ (none_applied _ c.loop-item.work)
