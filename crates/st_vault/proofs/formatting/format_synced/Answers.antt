use Rattle.std.proofs.Common.{◌≡◌, drop}
use Rattle.st_io.proofs.HistoryLemmas.{turns_on, turns_weaker}
use Rattle.st_vault.proofs.FormatLemmas.{formatted_bytes, made_moments, ok_blank}
use Rattle.st_vault.specs.Formatting.{formatted_image}
use Rattle.st_vault.proofs.formatting.format_synced.Goals as goal

pub returns-in_err-make-clause-moments : goal.returns-in_err-make-clause-moments
returns-in_err-make-clause-moments g c old told =
    let shut = c.in_ok-shut_gate.ensures in
    let at = shut.shut.forward old told in
    made_moments c.args.secret.now old _ _ _ (ok_blank old _ (shut.gives old told)) (shut.moments old told) (c.make.ensures.moments at.0 at.1)

pub returns-clause-moments : goal.returns-clause-moments
returns-clause-moments g c old told =
    let shut = c.in_ok-shut_gate.ensures in
    let at = shut.shut.forward old told in
    made_moments c.args.secret.now old _ _ _ (ok_blank old _ (shut.gives old told)) (shut.moments old told) (c.make.ensures.moments at.0 at.1)

pub returns-clause-written : goal.returns-clause-written
returns-clause-written g c =
    let key = c.args.secret.now in
    turns_weaker _ _ _ (λ old image. image ≡ formatted_image key old) (λ old image told by. formatted_bytes key old by.0 image by.1 by.2)
    (turns_on _ _ _ (λ old shut. drop 1 shut ≡ drop 1 old) (λ shut image. image ≡ formatted_image key shut) c.in_ok-shut_gate.ensures.same c.in_ok-make.ensures.written)
