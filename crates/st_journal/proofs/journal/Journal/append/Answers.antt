use Rattle.std.proofs.Common.{◌≡◌, ◌∙◌, option_map, inl, ap}
use Rattle.st_io.proofs.HistoryLemmas.{stands, turns_weaker}
use Rattle.st_journal.proofs.AppendLemmas.{alike, records_more}
use Rattle.st_journal.specs.Image.{found, records, with_record}
use Rattle.st_journal.specs.inside.Heads.{put_last}
use Rattle.st_journal.proofs.journal.Journal.append.Goals as goal

pub returns-in_err-row-clause-moments : goal.returns-in_err-row-clause-moments
returns-in_err-row-clause-moments g c old told = record {
  goes = stands _;
  each = λ x left. inl (c.requires.ready.images old told x left).1;
}

pub returns-in-Ok-clause-read : goal.returns-in-Ok-clause-read
returns-in-Ok-clause-read g c =
    turns_weaker _ _ (λ old new. found new ≡ option_map (put_last c.args.body.now) (found old)) (λ old new. records new ≡ with_record c.args.body.now (records old))
    (λ old new told more. records_more c.args.self.end old c.args.body.now new (alike c.args.self.end _ _ old c.requires.ready told).ends more)
    c.in-Ok.ensures.written

pub returns-in-Ok-clause-lasting : goal.returns-in-Ok-clause-lasting
returns-in-Ok-clause-lasting g c old told image left =
    let to = c.in-Ok.ensures.written.forward old told in
    ap records (c.in-Ok.ensures.durable to.0 to.1 image left)
    ∙ records_more c.args.self.end old c.args.body.now to.0 (alike c.args.self.end _ _ old c.requires.ready told).ends to.2
