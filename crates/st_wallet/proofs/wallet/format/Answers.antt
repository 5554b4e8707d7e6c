use Rattle.std.proofs.Common.{◌∙◌, inr, refl, sym, ap}
use Rattle.st_vault.specs.Vault.{opened}
use Rattle.st_wallet.specs.Drafts.{opens}
use Rattle.st_wallet.specs.Drafts.Found.{Opened}
use Rattle.st_wallet.proofs.StepLemmas.{not_formatted, untold_if}
use Rattle.st_wallet.proofs.wallet.format.Goals as goal

pub returns-in-Err-Formatted-clause-answer_told : goal.returns-in-Err-Formatted-clause-answer_told
returns-in-Err-Formatted-clause-answer_told g c xs told =
    let refused = c.in-Err-Formatted in
    absurd (not_formatted c.args.secret xs refused.field-0 (c.requires xs told) refused.field-0-is (refused.ensures.gives xs told))

pub returns-in-Err-Formatted-clause-answer : goal.returns-in-Err-Formatted-clause-answer
returns-in-Err-Formatted-clause-answer g c =
    let refused = c.in-Err-Formatted in
    inr (
      refl,
      record {
        untold = untold_if (g.D.Disk.reads c.args.disk.now)
            (λ xs told. not_formatted c.args.secret xs refused.field-0 (c.requires xs told) refused.field-0-is
            (refused.ensures.gives xs told));
        blank = refl;
        answers = (c.blank.ensures, c.in_ok-text-in-Err-Formatted.ensures);
      },
    )

pub returns-in-Ok-clause-steps : goal.returns-in-Ok-clause-steps
returns-in-Ok-clause-steps g c =
    let made = c.in-Ok.ensures in
    let is = c.of.ensures ∙ ap Opened c.with_signer.ensures in
    record {
      untouched = λ same. absurd cc;
      moments = c.format_vault.ensures.moments;
      stays = c.format_vault.ensures.stays;
      done = record {
        reads = λ image told. made.reads image told ∙ ap opens (sym is);
        told = made.told;
        fresh = λ image told. tt;
        spent = λ image told. tt;
        all_found = λ image told all x there. ap opened (made.durable image told x there) ∙ made.reads image told ∙ ap opens (sym is);
      };
    }
