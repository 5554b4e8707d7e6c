-- The result of flushing a queue.
use Rattle.std.specs.Prelude.{◌≡◌, ◌≤◌, List, [], length, min}
use Rattle.st_ops.specs.Operation.{PlainOperation}
use Rattle.st_params.specs.ParamsValue.{ParamsValue}
use Rattle.st_batch.specs.Batch.{IsLongest, batch_count, batch_of, batched, rest_of}
use Rattle.st_batch.specs.Laws.{AreNamed, AscendFrom, IsReadBack}
use Rattle.st_batch.specs.declared.batch.Batch.{Batch}
use Rattle.st_batch.specs.declared.queue.FlushRefused.{FlushRefused}
use Rattle.st_batch.specs.declared.queue.FlushRefused.TheVariants.{Nothing, WantOfMemory}

-- The batch is that of the queue at these limits, the other operations stay queued, and at least one was taken. No
-- longer prefix goes into one batch; in version 1 it is the first 1,000, or all if there are fewer. Each file has its
-- own URI, no role appears twice, and the batch is read back as the operations taken.
pub record IsFlushed (limits : ParamsValue) (queue left : List PlainOperation) (made : Batch) : Type 0 where
  pub batch : made ≡ batch_of limits queue
  pub rest : left ≡ rest_of limits queue
  pub some : 1 ≤ batch_count limits queue
  pub longest : IsLongest limits queue (batch_count limits queue)
  pub thousand : limits.version ≡ 1 → batch_count limits queue ≡ min 1000 (length queue)
  pub named : AreNamed made.files
  pub ascend : AscendFrom 0 made.files
  pub read_back : IsReadBack limits made (batched limits queue)

-- An empty queue flushes nothing, and is returned. Memory can run out only if something is queued.
abbrev pub RefusesToFlush : List PlainOperation → FlushRefused → Type 0
RefusesToFlush queue (Nothing back) = (queue ≡ []) × (back ≡ [])
RefusesToFlush queue WantOfMemory = 1 ≤ length queue
