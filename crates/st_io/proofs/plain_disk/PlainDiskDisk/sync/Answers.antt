use Rattle.st_io.proofs.HistoryLemmas.{adds_none_by_sync, one_sync}
use Rattle.st_io.proofs.plain_disk.PlainDiskDisk.sync.Goals as goal

pub returns-in-Ok-clause-images : goal.returns-in-Ok-clause-images
returns-in-Ok-clause-images c = adds_none_by_sync c.args.self.now.history c.sync.new.self c.in-Ok.ensures.ok

pub returns-in-Ok-clause-synced : goal.returns-in-Ok-clause-synced
returns-in-Ok-clause-synced c xs told = one_sync c.args.self.now.history c.sync.new.self c.in-Ok.ensures.ok
