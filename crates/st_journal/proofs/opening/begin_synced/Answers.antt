use Rattle.std.proofs.Common.{◌≡◌, ◌∙◌, refl, sym, arith}
use Rattle.std.specs.Option.{ok_or}
use Rattle.st_io.proofs.HistoryLemmas.{only_after, then_on, turns_same}
use Rattle.st_journal.proofs.OpeningLemmas.{closed_begun, opened_long, begun-long, read_moments}
use Rattle.st_journal.specs.Opening.{records_from, begun, opened}
use Rattle.st_journal.specs.Image.{records}
use Rattle.st_journal.specs.declared.journal.JournalRefused.TheVariants.{Damaged}
use Rattle.st_journal.proofs.opening.begin_synced.Goals as goal

pub returns-then-len-lt2-clause-moments : goal.returns-then-len-lt2-clause-moments
returns-then-len-lt2-clause-moments g c old told =
    then_on (λ image. records image ≡ records old) _ _ _
    (read_moments old _ _ (c.requires old told) (record { goes = c.length.ensures.time; none = c.length.ensures.images }))
    (c.begin_closed.ensures.moments old (c.length.ensures.reads ∙ told))

pub returns-clause-begins : goal.returns-clause-begins
returns-clause-begins g c = record {
  reading = record {
    small = omega (arith, c.if-len-gt-LONGEST.false);
    below = omega arith;
    sound = λ more. c.in_ok-window.ensures.sound;
    shows = λ image told. c.in_ok-window.ensures.shows image;
    long = λ image told more. sym (c.in_ok-len.ensures.length image (sym c.length.ensures.reads ∙ told));
    closed = λ image told none. absurd (omega (arith, c.if-len-lt2.false, none));
    gate = λ image told. closed_begun image;
    only = λ image told. only_after _ _ image (c.requires image (sym c.length.ensures.reads ∙ told))
        (record { goes = c.length.ensures.time; none = c.length.ensures.images });
  };
  first = refl;
  comes = turns_same _ _ (λ old new. opened old ≡ ok_or (records_from 0 new) Damaged) c.length.ensures.reads
      (λ image told.
      opened_long image (omega (arith, c.in_ok-len.ensures.length image told, c.if-len-lt2.false)) (omega (arith, c.in_ok-len.ensures.length image told, c.if-len-gt-LONGEST.false)));
  contents = turns_same _ _ (λ old new. new ≡ begun old) c.length.ensures.reads
      (λ image told. begun-long image (omega (arith, c.in_ok-len.ensures.length image told, c.if-len-lt2.false)));
  same = turns_same _ _ (λ old new. records new ≡ records old) c.length.ensures.reads (λ image told. refl);
}
