use Rattle.std.proofs.Common.{refl}
use Rattle.st_io.proofs.HistoryLemmas.{follows_write}
use Rattle.st_io.proofs.plain_disk.PlainDiskDisk.write_at.Goals as goal

pub returns-in-Ok-clause-images : goal.returns-in-Ok-clause-images
returns-in-Ok-clause-images c =
    follows_write c.args.at c.args.from.now c.args.self.now.history (c.requires _ refl) c.write.new.self c.in-Ok.ensures.ok
