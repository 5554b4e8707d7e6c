use Rattle.std.proofs.Common.{◌≡◌, [], ◌∷◌, drop}
use Rattle.std.proofs.lemmas.Result.{on_ok_weaker}
use Rattle.st_io.specs.Histories.{Holds, Torn}
use Rattle.st_vault.proofs.FormatLemmas.{opening, opened_by}
use Rattle.st_io.proofs.HistoryLemmas.{over, turns_weaker, weaker}
use Rattle.st_vault.specs.Formatting.{IsFresh}
use Rattle.st_vault.specs.inside.Formatting.{OpensTo}
use Rattle.st_vault.specs.Image.{open_gate}
use Rattle.st_vault.proofs.formatting.open_gate.Goals as goal

pub returns-clause-opens : goal.returns-clause-opens
returns-clause-opens g c =
    on_ok_weaker c.write_synced.result (turns_weaker _ _ (Holds 0 (open_gate ∷ [])) OpensTo (λ x y told holds key is. opened_by key x y is holds)) c.write_synced.ensures.written

pub returns-clause-moments : goal.returns-clause-moments
returns-clause-moments g c old told key is =
    weaker _ (IsFresh key) _ _ (over (Torn 0 1) _ _ old (c.requires old told) c.write_synced.ensures.time c.write_synced.ensures.images) (λ x torn. opening key old x is torn)

pub returns-clause-written : goal.returns-clause-written
returns-clause-written g c =
    on_ok_weaker c.write_synced.result
    (turns_weaker _ _ (Holds 0 (open_gate ∷ [])) (λ old image. image ≡ open_gate ∷ drop 1 old) (λ x y told holds. holds)) c.write_synced.ensures.written
