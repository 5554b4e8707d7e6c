use Rattle.std.proofs.Common.{◌≡◌, ◌∙◌, length, take, sym, ap, arith}
use Rattle.std.specs.Prelude.{min}
use Rattle.std.specs.Result.{result_ok}
use Rattle.st_batch.specs.Queue.{operations_of}
use Rattle.st_batch.specs.Batch.{are_files_small, batch_count}
use Rattle.st_batch.proofs.PrefixSizeLemmas.{most_go, written_long, written_of, written_small}
use Rattle.st_batch.proofs.QueueLemmas.{length_operations}
use Rattle.st_batch.proofs.batch.longest_batch.Goals as goal

pub halved-requires-clause-long : goal.halved-requires-clause-long
halved-requires-clause-long c =
    written_long c.args.params.now (operations_of c.args.queued.now.entries) c.min-most.result (sym c.in_ok-batch.ensures ∙ ap result_ok c.in-Err.is)

all_taken : (c : goal.In-Ok) → c.min-most.result ≡ batch_count c.args.params.now (operations_of c.args.queued.now.entries)
all_taken c =
    let limits = c.args.params.now in
    let all = operations_of c.args.queued.now.entries in
    let is : c.min-most.result ≡ min (length all) limits.max_operations =
    omega (arith, length_operations c.args.queued.now.entries, c.len.ensures.len, c.min-most.ensures, c.max_operations.ensures) in
    let small = written_small limits all c.min-most.result c.in-Ok.batch (sym c.in_ok-batch.ensures ∙ ap result_ok c.in-Ok.is) in
    is ∙ most_go limits all (ap (λ n. are_files_small limits (take n all)) (sym is) ∙ small)

pub returns-in-Ok-clause-count : goal.returns-in-Ok-clause-count
returns-in-Ok-clause-count c = all_taken c

pub returns-in-Ok-clause-batch : goal.returns-in-Ok-clause-batch
returns-in-Ok-clause-batch c =
    written_of c.args.params.now (operations_of c.args.queued.now.entries) c.min-most.result c.in-Ok.batch (all_taken c)
    (sym c.in_ok-batch.ensures ∙ ap result_ok c.in-Ok.is)
