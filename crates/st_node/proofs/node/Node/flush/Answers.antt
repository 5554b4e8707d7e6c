use Rattle.st_node.proofs.ReplyLemmas.{flush_answer, flush_counts}
use Rattle.st_node.proofs.node.Node.flush.Goals as goal

pub returns-in_err-observer-in-Ok-clause-counts : goal.returns-in_err-observer-in-Ok-clause-counts
returns-in_err-observer-in-Ok-clause-counts c =
    flush_counts c.self.inside.observer c.limits_now-params.ensures c.in-Ok.ensures.flushed c.self.view_is c.take_files.ensures.counts

pub returns-in_ok-observer-in-Ok-clause-answer : goal.returns-in_ok-observer-in-Ok-clause-answer
returns-in_ok-observer-in-Ok-clause-answer c =
    flush_answer c.self.inside.observer c.limits_now-params.ensures c.in-Ok.ensures.flushed c.self.view_is
    c.in_ok-observer-in-Ok.ensures.state c.in_ok-text-in-Ok.ensures

pub returns-in_ok-observer-in-Ok-clause-counts : goal.returns-in_ok-observer-in-Ok-clause-counts
returns-in_ok-observer-in-Ok-clause-counts c =
    flush_counts c.self.inside.observer c.limits_now-params.ensures c.in-Ok.ensures.flushed c.self.view_is c.take_files.ensures.counts
