use Rattle.std.proofs.Common.{◌≡◌, drop, take, subst}
use Rattle.std.proofs.lemmas.Result.{on_ok_weaker}
use Rattle.st_io.specs.Histories.{Holds, Torn}
use Rattle.st_vault.proofs.FormatLemmas.{filled, filled_behind, filling}
use Rattle.st_io.proofs.HistoryLemmas.{over, turns_weaker, weaker}
use Rattle.st_vault.specs.Formatting.{behind_gate}
use Rattle.st_vault.specs.inside.Formatting.{IsFilled}
use Rattle.st_vault.specs.Image.{kind_of}
use Rattle.st_vault.specs.Image.Kind.{Blank}
use Rattle.st_vault.proofs.formatting.fill.Goals as goal

pub returns-clause-filled : goal.returns-clause-filled
returns-clause-filled g c =
    let key = c.args.secret.now in
    on_ok_weaker c.write_synced.result
    (turns_weaker _ _ (Holds 1 (take c.fill_row-len.result c.fill_row-len.new.row)) (λ old image. IsFilled key image)
    (λ x y told holds. filled key x y c.fill_row-len.ensures.known (c.requires x told).0 (subst (λ bytes. Holds 1 bytes x y) c.fill_row-len.ensures.bytes holds)))
    c.write_synced.ensures.written

pub returns-clause-moments : goal.returns-clause-moments
returns-clause-moments g c old told =
    let start = c.requires old told in
    weaker _ (λ image. kind_of image ≡ Blank) _ _ (over (Torn 1 _) _ _ old start.1 c.write_synced.ensures.time c.write_synced.ensures.images)
    (λ x torn. filling _ old x start.0 torn)

pub returns-clause-written : goal.returns-clause-written
returns-clause-written g c =
    let key = c.args.secret.now in
    on_ok_weaker c.write_synced.result
    (turns_weaker _ _ (Holds 1 (take c.fill_row-len.result c.fill_row-len.new.row)) (λ old image. drop 1 image ≡ behind_gate key old)
    (λ x y told holds. filled_behind key x y c.fill_row-len.ensures.known (c.requires x told).0 (subst (λ bytes. Holds 1 bytes x y) c.fill_row-len.ensures.bytes holds)))
    c.write_synced.ensures.written
