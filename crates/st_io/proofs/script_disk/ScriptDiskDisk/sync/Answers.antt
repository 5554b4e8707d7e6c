use Rattle.std.proofs.Common.{◌∙◌, ap}
use Rattle.st_io.specs.Histories.{with_step, DiskScript}
use Rattle.st_io.specs.declared.history.Step.TheVariants.{Synced}
use Rattle.st_io.proofs.HistoryLemmas.{adds_none_by_sync, one_sync}
use Rattle.st_io.proofs.script_disk.ScriptDiskDisk.sync.Goals as goal

pub returns-in-Ok-clause-images : goal.returns-in-Ok-clause-images
returns-in-Ok-clause-images c =
    let was = ap (λ (d : DiskScript). d.history) c.self.view_is in
    adds_none_by_sync c.args.self.now.history c.sync.new.self (c.in-Ok.ensures.ok ∙ ap (with_step Synced) was)

pub returns-in-Ok-clause-synced : goal.returns-in-Ok-clause-synced
returns-in-Ok-clause-synced c xs told =
    let was = ap (λ (d : DiskScript). d.history) c.self.view_is in
    one_sync c.args.self.now.history c.sync.new.self (c.in-Ok.ensures.ok ∙ ap (with_step Synced) was)
