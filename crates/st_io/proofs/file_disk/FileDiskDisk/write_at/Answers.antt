use Rattle.st_io.proofs.HistoryLemmas.{torn_same}
use Rattle.st_io.proofs.file_disk.FileDiskDisk.write_at.Goals as goal

pub returns-in-Ok-clause-images : goal.returns-in-Ok-clause-images
returns-in-Ok-clause-images g c image left = (image, tt, torn_same _ _ image)

pub returns-in-Err-clause-images : goal.returns-in-Err-clause-images
returns-in-Err-clause-images g c image left = (image, tt, torn_same _ _ image)
