use Rattle.std.proofs.Common.{◌≡◌, subst}
use Rattle.st_vault.proofs.FormatLemmas.{short-ok, shut-ok, shut_moments, unformatted-not}
use Rattle.st_io.proofs.HistoryLemmas.{stays_only, turns_same}
use Rattle.st_vault.specs.inside.Formatting.{IsShut, Begins}
use Rattle.st_vault.proofs.formatting.shut_gate.Goals as goal

pub returns-in_err-write_synced-in-Short-clause-moments : goal.returns-in_err-write_synced-in-Short-clause-moments
returns-in_err-write_synced-in-Short-clause-moments g c old told =
    shut_moments _ _ _ old (stays_only (λ x. x ≡ old) _ _ old (c.requires old told) c.look.ensures.as_it_was.images (λ x same. same))
    (subst (λ start. Begins start old) c.in-Short.is (c.in_ok-look.ensures.begins old told)) c.write_synced.ensures.time c.write_synced.ensures.images

pub returns-in_ok-write_synced-in-Short-clause-moments : goal.returns-in_ok-write_synced-in-Short-clause-moments
returns-in_ok-write_synced-in-Short-clause-moments g c old told =
    shut_moments _ _ _ old (stays_only (λ x. x ≡ old) _ _ old (c.requires old told) c.look.ensures.as_it_was.images (λ x same. same))
    (subst (λ start. Begins start old) c.in-Short.is (c.in_ok-look.ensures.begins old told)) c.write_synced.ensures.time c.write_synced.ensures.images

pub returns-in-Formatted-clause-gives : goal.returns-in-Formatted-clause-gives
returns-in-Formatted-clause-gives g c old told =
    unformatted-not old (subst (λ start. Begins start old) c.in-Formatted.is (c.in_ok-look.ensures.begins old told))

pub returns-in_ok-write_synced-in-Short-clause-gives : goal.returns-in_ok-write_synced-in-Short-clause-gives
returns-in_ok-write_synced-in-Short-clause-gives g c old told =
    short-ok old (subst (λ start. Begins start old) c.in-Short.is (c.in_ok-look.ensures.begins old told))

pub returns-in-Shut-clause-gives : goal.returns-in-Shut-clause-gives
returns-in-Shut-clause-gives g c old told =
    shut-ok old (subst (λ start. Begins start old) c.in-Shut.is (c.in_ok-look.ensures.begins old told))

pub returns-in-Shut-clause-shut : goal.returns-in-Shut-clause-shut
returns-in-Shut-clause-shut g c =
    turns_same _ _ (λ old image. IsShut image) c.look.ensures.as_it_was.reads
    (λ old told. subst (λ start. Begins start old) c.in-Shut.is (c.in_ok-look.ensures.begins old told))
