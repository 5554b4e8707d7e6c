use Rattle.std.proofs.Common.{◌≡◌, ◌∷◌, drop}
use Rattle.std.proofs.lemmas.Result.{on_ok_weaker}
use Rattle.st_io.proofs.HistoryLemmas.{turns_on, turns_weaker}
use Rattle.st_vault.proofs.FormatLemmas.{made_bytes}
use Rattle.st_vault.specs.Formatting.{behind_gate, formatted_image}
use Rattle.st_vault.specs.Image.{open_gate}
use Rattle.st_vault.proofs.formatting.make.Goals as goal

pub returns-clause-written : goal.returns-clause-written
returns-clause-written g c =
    let key = c.args.secret.now in
    on_ok_weaker c.open_gate.result
    (λ opened. turns_weaker _ _ _ (λ old image. image ≡ formatted_image key old) (λ old image told by. made_bytes key old by.0 image by.1 by.2)
    (turns_on _ _ _ (λ old filled. drop 1 filled ≡ behind_gate key old) (λ filled image. image ≡ open_gate ∷ drop 1 filled) c.in_ok-fill.ensures.written opened))
    c.open_gate.ensures.written
