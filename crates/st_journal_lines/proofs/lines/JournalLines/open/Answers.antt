use Rattle.std.proofs.Common.{◌≡◌, ◌∙◌, [], inl, IfOk, refl, sym, subst}
use Rattle.std.proofs.Math.Path.{subst₂}
use Rattle.std.specs.Option.{ok_or}
use Rattle.std.specs.Prelude.{OnErr}
use Rattle.st_base.specs.Answers.{GivesAs}
use Rattle.st_drive.proofs.TableLemmas.{rose_before}
use Rattle.st_io.proofs.HistoryLemmas.{still_as_it_was, more}
use Rattle.st_io.specs.Histories.{Turns}
use Rattle.st_journal.proofs.OpeningLemmas.{synced_on}
use Rattle.st_journal.specs.Opening.{coming, opened, refusal_of}
use Rattle.st_journal.specs.Image.{records, IsOldOrHas}
use Rattle.st_journal.specs.declared.journal.JournalRefused.TheVariants.{Damaged}
use Rattle.st_journal_lines.specs.Answering.{StayedOrWent, WentOverFrom, behind_opened}
use Rattle.st_journal_lines.proofs.ReplayLemmas.{ok_some, on_ok, refused_by, same_error, some_left, stays_unopened, if_left, not_long}
use Rattle.st_journal_lines.proofs.lines.JournalLines.open.Goals as goal

pub returns-in-Ok-start-clause-opens : goal.returns-in-Ok-start-clause-opens
returns-in-Ok-start-clause-opens g c = record {
  gives = λ old told.
      let to = c.in-Ok.ensures.begins.comes.forward old told in
      subst (λ o. GivesAs (λ lines. lines.0) refusal_of (behind_opened g.N.Replayable.answering (g.N.Replayable.start c.args.seed.now) o) c.replay.result) (sym to.2)
      (subst (λ n. GivesAs (λ lines. lines.0) refusal_of (behind_opened g.N.Replayable.answering n (ok_or (coming c.in-Ok.opening to.0) Damaged)) c.replay.result)
      c.in-Ok-start.ensures (c.replay.ensures.gives to.0 to.1));
  ready = c.replay.ensures.ready;
  small = c.replay.ensures.small;
  same = on_ok c.replay.result
      (subst (λ now. Turns (g.D.Disk.reads c.args.disk.now) now (λ old new. records new ≡ records old)) (sym c.replay.ensures.as_it_was.reads) c.in-Ok.ensures.begins.same);
  moments = λ old told.
      let begun = c.begin.ensures.moments old told in
      let images = c.replay.ensures.as_it_was.images in
      more (IsOldOrHas (g.D.Disk.past c.args.disk.now) (records old)) (g.D.Disk.past c.args.disk.now) (g.D.Disk.past c.begin.new.disk) (g.D.Disk.past c.replay.new.disk)
      begun images.goes (λ x left. begun.each x ((g.D.Disk.past c.begin.new.disk).earlier _ _ x begun.goes.later (images.none x left)));
  synced = λ old told.
      synced_on told c.in-Ok.ensures.begins.same c.in-Ok.ensures.begins.reading.only c.replay.ensures.as_it_was.images (g.D.Disk.past c.args.disk.now) (c.in-Ok.ensures.synced old told);
  ran = λ old told r is.
      let to = c.in-Ok.ensures.begins.comes.forward old told in
      subst (λ n. IfOk c.replay.result (λ lines. g.N.Replayable.answering.effect.ran n c.args.context.now r lines.0 c.replay.new.context)) c.in-Ok-start.ensures
      (c.replay.ensures.ran to.0 to.1 r (ok_some (coming c.in-Ok.opening to.0) Damaged r (sym to.2 ∙ is)));
  gave_up = λ old told r is.
      let to = c.in-Ok.ensures.begins.comes.forward old told in
      subst (λ n. OnErr c.replay.result (StayedOrWent g.N.Replayable.answering n r c.args.context.now c.replay.new.context)) c.in-Ok-start.ensures
      (c.replay.ensures.gave_up to.0 to.1 r (ok_some (coming c.in-Ok.opening to.0) Damaged r (sym to.2 ∙ is)));
  within = λ image told. if_left _ c.replay.result c.replay.ensures.refuses (λ left.
      subst₂ (λ n place. OnErr c.replay.result (WentOverFrom g.N.Replayable.answering n place image c.args.context.now c.replay.new.context))
      c.in-Ok-start.ensures c.in-Ok.ensures.begins.first (c.replay.ensures.within image ((c.in-Ok.ensures.unwritten left).reads ∙ told)));
  unmoved = λ old told is.
      let to = c.in-Ok.ensures.begins.comes.forward old told in
      absurd (not_long (coming c.in-Ok.opening to.0) (sym to.2 ∙ is));
  refused = λ is. still_as_it_was (c.in-Ok.ensures.unwritten (some_left c.replay.result c.replay.ensures.refuses is)) c.replay.ensures.as_it_was;
  fault = λ is. rose_before _ _ _ c.begin.ensures.cause.later (c.replay.ensures.cause.rose is);
}

pub returns-in-Err-clause-opens : goal.returns-in-Err-clause-opens
returns-in-Err-clause-opens g c = record {
  gives = λ old told. refused_by g.N.Replayable.answering (g.N.Replayable.start c.args.seed.now) (opened old) c.in-Err.refused (c.in-Err.ensures.refusal old told);
  ready = tt;
  small = tt;
  same = tt;
  moments = c.begin.ensures.moments;
  synced = c.begin.ensures.synced;
  ran = λ old told r is. tt;
  gave_up = λ old told r is. inl refl;
  within = λ image told. ([], 0, refl, inl refl);
  unmoved = λ old told is. refl;
  refused = stays_unopened c.in-Err.ensures.refused;
  fault = λ is. c.in-Err.ensures.cause.rose (same_error is);
}
