use Rattle.std.proofs.Common.{◌∙◌}
use Rattle.st_vault.proofs.FormatLemmas.{blank_or_new, blank_stays, formatting_keeps}
use Rattle.st_vault.proofs.formatting.format_vault.Goals as goal

pub returns-in_err-format_synced-clause-stays : goal.returns-in_err-format_synced-clause-stays
returns-in_err-format_synced-clause-stays g c old told =
    formatting_keeps c.args.secret old _ _ _ (g.met.D.Disk.is_image c.args.disk.now old told)
    (record { goes = c.sync.ensures.time; none = c.sync.ensures.images }) (c.format_synced.ensures.moments old (c.sync.ensures.reads ∙ told))

pub returns-clause-stays : goal.returns-clause-stays
returns-clause-stays g c old told =
    formatting_keeps c.args.secret old _ _ _ (g.met.D.Disk.is_image c.args.disk.now old told)
    (record { goes = c.sync.ensures.time; none = c.sync.ensures.images }) (c.format_synced.ensures.moments old (c.sync.ensures.reads ∙ told))

pub returns-in_err-sync-clause-moments : goal.returns-in_err-sync-clause-moments
returns-in_err-sync-clause-moments g c old told all =
    let sync = c.sync.ensures in
    blank_stays c.args.secret _ _ all sync.time sync.images

pub returns-in_err-format_synced-clause-moments : goal.returns-in_err-format_synced-clause-moments
returns-in_err-format_synced-clause-moments g c old told all =
    let sync = c.sync.ensures in
    blank_or_new c.args.secret old _ _ _ (all old (g.met.D.Disk.is_image c.args.disk.now old told))
    (blank_stays c.args.secret _ _ all sync.time sync.images) (c.format_synced.ensures.moments old (sync.reads ∙ told))

pub returns-clause-moments : goal.returns-clause-moments
returns-clause-moments g c old told all =
    let sync = c.sync.ensures in
    blank_or_new c.args.secret old _ _ _ (all old (g.met.D.Disk.is_image c.args.disk.now old told))
    (blank_stays c.args.secret _ _ all sync.time sync.images) (c.format_synced.ensures.moments old (sync.reads ∙ told))
