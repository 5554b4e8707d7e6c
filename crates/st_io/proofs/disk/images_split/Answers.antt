use Rattle.st_io.proofs.HistoryLemmas.{split_since_sync}
use Rattle.st_io.proofs.disk.images_split.Goals as goal

pub returns : goal.returns
returns g c t = split_since_sync _ _ c.requires t
