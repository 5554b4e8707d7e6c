use Rattle.st_observer.proofs.StoredLemmas.{put_operations}
use Rattle.st_observer.proofs.held.put_one.Goals as goal

pub returns-clause-operations : goal.returns-clause-operations
returns-clause-operations c =
    let given = c.args.given in
    put_operations c.args.place c.args.height given.suffix given.operation c.args.index.items c.in_ok-put.field-0.items c.in_ok-put.ensures.items
