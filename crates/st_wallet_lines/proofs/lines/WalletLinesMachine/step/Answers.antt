use Rattle.std.proofs.Common.{◌∙◌, ap, sym, subst}
use Rattle.st_drive.proofs.OnDiskLemmas.{replied}
use Rattle.st_drive.specs.Spending.{spending}
use Rattle.st_wallet.specs.Drafts.{Found, IsFoundOn}
use Rattle.st_wallet.specs.Machine.{AnswersWith, answered}
use Rattle.st_wallet_lines.specs.Run.{wallet_spender}
use Rattle.st_wallet_lines.proofs.StepLemmas.{gave_line, ran_line, told_of}
use Rattle.st_wallet_lines.proofs.lines.WalletLinesMachine.step.Goals as goal

pub returns-in-Ok-clause-reply : goal.returns-in-Ok-clause-reply
returns-in-Ok-clause-reply g c told =
    let both = told_of (AnswersWith (answered c.self.inside.wallet c.args.line.now) (c.in-Ok.next, c.in-Ok.reply))
    (g.D.Disk.reads c.args.device.now) told c.in-Ok.ensures.answer_told in
    replied (spending wallet_spender) c.args.self c.new.result c.args.line.now c.in-Ok.reply
    (both.1 ∙ ap (λ (f : Found). (answered f c.args.line.now).reply) c.self.view_is)
    (c.new.ensures ∙ both.0 ∙ ap (λ (f : Found). (answered f c.args.line.now).next) c.self.view_is)

pub returns-in-Ok-clause-ran : goal.returns-in-Ok-clause-ran
returns-in-Ok-clause-ran g c =
    ran_line (record { reads = g.D.Disk.reads; past = g.D.Disk.past }) g.D.Disk.faults c.self.inside.wallet c.args.line.now c.args.device.now c.step.new.disk
    _ (g.met.D.Disk.is_image c.args.device.now) (subst (λ (f : Found). IsFoundOn (g.D.Disk.reads c.args.device.now) f) (sym c.self.view_is) c.requires)
    c.step.ensures.steps c.self.view_is c.in-Ok.next c.new.ensures c.in-Ok.ensures.steps.done (λ image told. (c.in-Ok.ensures.answer_told image told).0)

pub returns-in-Err-DiskFault-clause-gave_up : goal.returns-in-Err-DiskFault-clause-gave_up
returns-in-Err-DiskFault-clause-gave_up g c =
    gave_line (record { reads = g.D.Disk.reads; past = g.D.Disk.past }) g.D.Disk.faults c.self.inside.wallet c.args.line.now c.args.device.now c.step.new.disk
    _ (g.met.D.Disk.is_image c.args.device.now) (subst (λ (f : Found). IsFoundOn (g.D.Disk.reads c.args.device.now) f) (sym c.self.view_is) c.requires)
    c.step.ensures.steps c.self.view_is

pub returns-in-Err-WantOfMemory-clause-gave_up : goal.returns-in-Err-WantOfMemory-clause-gave_up
returns-in-Err-WantOfMemory-clause-gave_up g c =
    gave_line (record { reads = g.D.Disk.reads; past = g.D.Disk.past }) g.D.Disk.faults c.self.inside.wallet c.args.line.now c.args.device.now c.step.new.disk
    _ (g.met.D.Disk.is_image c.args.device.now) (subst (λ (f : Found). IsFoundOn (g.D.Disk.reads c.args.device.now) f) (sym c.self.view_is) c.requires)
    c.step.ensures.steps c.self.view_is
