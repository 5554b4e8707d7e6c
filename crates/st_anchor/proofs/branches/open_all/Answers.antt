use Rattle.std.proofs.Common.{length}
use Rattle.st_anchor.proofs.CountLemmas.{few-one}
use Rattle.st_anchor.proofs.branches.open_all.Goals as goal

pub returns-in_err-proof-clause-few : goal.returns-in_err-proof-clause-few
returns-in_err-proof-clause-few c =
    few-one c.texts.text-index (length c.args.texts.now) c.args.work.now c.texts.work c.open_one.new.work c.texts-test.true c.texts.invariant.work
    c.in_err-proof.ensures.counted

pub returns-in_err-push-clause-few : goal.returns-in_err-push-clause-few
returns-in_err-push-clause-few c =
    few-one c.texts.text-index (length c.args.texts.now) c.args.work.now c.texts.work c.open_one.new.work c.texts-test.true c.texts.invariant.work
    c.in_ok-proof.ensures.counted
