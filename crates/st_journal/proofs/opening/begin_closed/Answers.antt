use Rattle.std.proofs.Common.{◌≡◌, [], ◌∷◌, refl}
use Rattle.std.specs.Option.{ok_or}
use Rattle.st_io.specs.Histories.{Holds}
use Rattle.st_io.proofs.HistoryLemmas.{turns_weaker}
use Rattle.st_journal.proofs.OpeningLemmas.{opened_short, begin_closed_gate, begin_moments, begun-short, begun_same, closed_at}
use Rattle.st_journal.specs.Opening.{records_from, begun, opened}
use Rattle.st_journal.specs.Image.{records}
use Rattle.st_journal.specs.declared.journal.JournalRefused.TheVariants.{Damaged}
use Rattle.st_journal.proofs.opening.begin_closed.Goals as goal

pub returns-in_err-write_synced-clause-moments : goal.returns-in_err-write_synced-clause-moments
returns-in_err-write_synced-clause-moments g c old told = begin_moments old _ _ (c.requires.short old told) (c.requires.only old told) c.write_synced.ensures.time c.write_synced.ensures.images

pub returns-clause-moments : goal.returns-clause-moments
returns-clause-moments g c old told = begin_moments old _ _ (c.requires.short old told) (c.requires.only old told) c.write_synced.ensures.time c.write_synced.ensures.images

pub returns-clause-begins : goal.returns-clause-begins
returns-clause-begins g c =
    let wrote = c.in_ok-write_synced.ensures in
    record {
      reading = begin_closed_gate _ _ _ c.bare_window.ensures
          (λ image told. let from = wrote.written.back image told in closed_at from.0 image from.2) wrote.durable;
      first = refl;
      comes = turns_weaker _ _ (Holds 0 (0 ∷ [])) (λ old new. opened old ≡ ok_or (records_from 0 new) Damaged)
          (λ old new told holds. opened_short old new (c.requires.short old told) (closed_at old new holds)) wrote.written;
      contents = turns_weaker _ _ (Holds 0 (0 ∷ [])) (λ old new. new ≡ begun old)
          (λ old new told holds. begun-short old new (c.requires.short old told) holds) wrote.written;
      same = turns_weaker _ _ (Holds 0 (0 ∷ [])) (λ old new. records new ≡ records old)
          (λ old new told holds. begun_same old new (c.requires.short old told) holds) wrote.written;
    }
