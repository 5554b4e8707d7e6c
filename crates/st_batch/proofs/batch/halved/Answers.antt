use Rattle.std.proofs.Common.{◌∙◌, ◌<◌, sym, ap, arith}
use Rattle.std.specs.Prelude.{min}
use Rattle.std.specs.Result.{result_ok}
use Rattle.st_batch.specs.Queue.{operations_of}
use Rattle.st_batch.proofs.PrefixSizeLemmas.{at_first, fewer_stop, is_written, more_go, nothing_between, turned, written_long, written_of, written_small}
use Rattle.st_batch.proofs.QueueLemmas.{length_operations}
use Rattle.st_batch.proofs.batch.halved.Goals as goal
use Rattle.st_batch.proofs.batch.halved.Goals.{in-Ok, in-Err}

pub halving-init : goal.halving-init
halving-init c =
    at_first c.args.params.now (operations_of c.args.queued.now.entries) c.requires.some
    (c.requires.most ∙ ap (λ n. min n c.args.params.now.max_operations) (sym (length_operations c.args.queued.now.entries))) c.requires.long

pub halving-preserved : goal.halving-preserved
halving-preserved c =
    let limits = c.args.params.now in
    let all = operations_of c.args.queued.now.entries in
    let between = c.halving.invariant in
    let count = c.min-count.result in
    let above : c.halving.goes < count = omega (arith, c.max.ensures, c.min-count.ensures, c.halving-test.true) in
    let below : count < c.halving.stops = omega (arith, c.max.ensures, c.min-count.ensures, c.halving-test.true) in
    elim c.match-branch-2.branch [
      | in-Ok w ↦
          let small = written_small limits all count _ (sym c.in_ok-_batch.ensures ∙ ap result_ok w.in-Ok.is) in
          turned limits all (more_go limits all between count below small) w.goes-is w.stops-is
      | in-Err w ↦
          let long = written_long limits all count (sym c.in_ok-_batch.ensures ∙ ap result_ok w.in-Err.is) in
          turned limits all (fewer_stop limits all between count above below long) w.goes-is w.stops-is
    ]

pub unreachable-requires : goal.unreachable-requires
unreachable-requires c =
    let limits = c.args.params.now in
    let all = operations_of c.args.queued.now.entries in
    is_written limits all c.halving.goes c.requires.some (nothing_between limits all c.halving.invariant (omega (arith, c.halving-test.false)))
    (sym c.in_ok-batch.ensures ∙ ap result_ok c.in-Err-2.is)

pub returns-clause-count : goal.returns-clause-count
returns-clause-count c =
    nothing_between c.args.params.now (operations_of c.args.queued.now.entries) c.halving.invariant (omega (arith, c.halving-test.false))

pub returns-clause-batch : goal.returns-clause-batch
returns-clause-batch c =
    let limits = c.args.params.now in
    let all = operations_of c.args.queued.now.entries in
    written_of limits all c.halving.goes c.in-Ok-2.batch (nothing_between limits all c.halving.invariant (omega (arith, c.halving-test.false)))
    (sym c.in_ok-batch.ensures ∙ ap result_ok c.in-Ok-2.is)
