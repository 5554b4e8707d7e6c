use Rattle.std.proofs.Common.{refl, ◌∙◌, ap}
use Rattle.st_io.specs.Histories.{with_write, DiskScript}
use Rattle.st_io.proofs.HistoryLemmas.{follows_write}
use Rattle.st_io.proofs.script_disk.ScriptDiskDisk.write_at.Goals as goal

pub returns-in-Ok-clause-images : goal.returns-in-Ok-clause-images
returns-in-Ok-clause-images c =
    let was = ap (λ (d : DiskScript). d.history) c.self.view_is in
    follows_write c.args.at c.args.from.now c.args.self.now.history (c.requires _ refl) c.write.new.self
    (c.in-Ok.ensures.ok ∙ ap (with_write c.args.at c.args.from.now) was)
