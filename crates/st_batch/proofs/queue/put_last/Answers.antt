use Rattle.std.proofs.Common.{◌∙◌}
use Rattle.indexmap.proofs.CallerLemmas.{insert_entry-new}
use Rattle.st_hash.specs.Hash.{same_hash}
use Rattle.st_batch.proofs.queue.put_last.Goals as goal

pub returns-clause-ok : goal.returns-clause-ok
returns-clause-ok c =
    c.in_ok-insert.ensures.entries ∙ insert_entry-new same_hash c.args.queued.now c.args.suffix c.args.operation c.requires
