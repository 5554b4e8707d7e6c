use Rattle.std.proofs.Common.{◌∙◌, drop, sym, ap, subst, arith}
use Rattle.st_params.specs.ParamsValue.{params_of}
use Rattle.st_batch.specs.Queue.{IsStoredQueue}
use Rattle.st_batch.proofs.FlushLemmas.{MayFlush, count_within, flushed, kept_left, some_taken}
use Rattle.st_batch.proofs.batch.flush.Goals as goal

pub longest_batch-requires : goal.longest_batch-requires
longest_batch-requires c =
    let may : MayFlush c.args.params.now c.args.queued.entries = record {
      kept = c.requires.kept;
      some = c.requires.some;
      apart = c.len-length.ensures.unique;
      versioned = c.version-version.ensures.limits ∙ ap params_of c.version-version.ensures.value;
    } in
    some_taken c.args.params.now c.args.queued.entries may

pub behind-requires : goal.behind-requires
behind-requires c = omega (arith, c.in_ok-count.ensures.count, count_within c.args.params.now c.args.queued.entries)

pub returns-clause-flushed : goal.returns-clause-flushed
returns-clause-flushed c =
    let may : MayFlush c.args.params.now c.args.queued.entries = record {
      kept = c.requires.kept;
      some = c.requires.some;
      apart = c.len-length.ensures.unique;
      versioned = c.version-version.ensures.limits ∙ ap params_of c.version-version.ensures.value;
    } in
    flushed c.args.params.now c.args.queued.entries may
    (c.in_ok-rest.ensures ∙ ap (λ many. drop many c.args.queued.entries) c.in_ok-count.ensures.count) c.in_ok-count.ensures.batch

pub returns-clause-kept : goal.returns-clause-kept
returns-clause-kept c = subst IsStoredQueue (sym c.in_ok-rest.ensures) (kept_left c.in_ok-count.count c.args.queued.entries c.requires.kept)
