use Rattle.std.proofs.Common.{◌∙◌, ◌+◌, ap, length, subst}
use Rattle.st_anchor.specs.States.{WorkedAtMost}
use Rattle.st_anchor.specs.inside.Coming.{more_proofs}
use Rattle.st_anchor.proofs.CountLemmas.{few-both, more_proofs-both, worked-few}
use Rattle.st_anchor.proofs.files.open_core.Goals as goal

pub returns-in_err-deactivates-clause-few : goal.returns-in_err-deactivates-clause-few
returns-in_err-deactivates-clause-few c =
    few-both (length c.args.proofs.now.recovers) (length c.args.proofs.now.deactivates) c.args.work.now c.open.new.work c.open-2.new.work
    (c.in_ok-recovers.ensures.work ∙ ap (λ texts. more_proofs (length texts) c.args.work.now) c.as_slice.ensures)
    (subst (λ texts. WorkedAtMost 0 (length texts) c.open.new.work c.open-2.new.work) c.as_slice-2.ensures c.in_err-deactivates.ensures.few)

pub returns-clause-work : goal.returns-clause-work
returns-clause-work c =
    more_proofs-both (length c.args.proofs.now.recovers) (length c.args.proofs.now.deactivates) c.args.work.now c.open.new.work c.open-2.new.work
    (c.in_ok-recovers.ensures.work ∙ ap (λ texts. more_proofs (length texts) c.args.work.now) c.as_slice.ensures)
    (c.in_ok-deactivates.ensures.work ∙ ap (λ texts. more_proofs (length texts) c.open.new.work) c.as_slice-2.ensures)

pub returns-clause-few : goal.returns-clause-few
returns-clause-few c =
    worked-few 0 (length c.args.proofs.now.recovers + length c.args.proofs.now.deactivates) c.args.work.now c.open-2.new.work (returns-clause-work c)
