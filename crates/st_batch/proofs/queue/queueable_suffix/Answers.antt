use Rattle.std.proofs.Common.{◌∙◌, ap, arith, sym, Ok}
use Rattle.st_batch.proofs.QueueLemmas.{may_queue, refused_full, refused_queued}
use Rattle.st_ops.specs.Operation.{plain_operation}
use Rattle.st_batch.proofs.queue.queueable_suffix.Goals as goal

pub returns-then-contains_key-clause-value : goal.returns-then-contains_key-clause-value
returns-then-contains_key-clause-value c =
    refused_queued c.args.queued.now.entries (plain_operation c.args.operation.now) c.contains_key.result
    (record { kept = c.requires; suffix = c.in_ok-suffix.suffix; own = c.in_ok-suffix.ensures; looked = c.contains_key.ensures }) c.if-contains_key.true

pub returns-then-len-ge-MOST_QUEUED-clause-value : goal.returns-then-len-ge-MOST_QUEUED-clause-value
returns-then-len-ge-MOST_QUEUED-clause-value c =
    refused_full c.args.queued.now.entries (plain_operation c.args.operation.now) c.contains_key.result
    (record { kept = c.requires; suffix = c.in_ok-suffix.suffix; own = c.in_ok-suffix.ensures; looked = c.contains_key.ensures }) c.if-contains_key.false
    (omega (arith, c.len.ensures.len, c.if-len-ge-MOST_QUEUED.true))

pub returns-clause-value : goal.returns-clause-value
returns-clause-value c =
    may_queue c.args.queued.now.entries (plain_operation c.args.operation.now) c.contains_key.result
    (record { kept = c.requires; suffix = c.in_ok-suffix.suffix; own = c.in_ok-suffix.ensures; looked = c.contains_key.ensures }) c.if-contains_key.false
    (omega (arith, c.len.ensures.len, c.if-len-ge-MOST_QUEUED.false)) ∙ ap Ok (sym c.in_ok-suffix.ensures)
