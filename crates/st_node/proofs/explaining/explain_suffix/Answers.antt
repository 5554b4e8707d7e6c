use Rattle.std.proofs.Common.{◌≡◌, ◌∙◌, IfOk, List, ℕ, subst}
use Rattle.st_observer.specs.Observed.{operations}
use Rattle.st_node.proofs.ReplyLemmas.{each_told, told}
use Rattle.st_node.proofs.explaining.explain_suffix.Goals as goal

pub tell_items-requires : goal.tell_items-requires
tell_items-requires c =
    each_told c.schedule.result.now c.args.observer.now.schedule c.in_ok-items.items c.as_slice.result.now c.as_slice-2.result.now c.as_slice-3.result.now
    c.in_ok-certificate.certificate c.schedule.ensures c.as_slice.ensures c.as_slice-2.ensures c.as_slice-3.ensures c.in_ok-certificate.ensures.certificate

pub returns-clause-reply : goal.returns-clause-reply
returns-clause-reply c =
    subst (λ (all : List ℕ). IfOk c.tell_items.result (λ reply. reply ≡ all))
    (told c.schedule.result.now c.args.observer.now.schedule c.in_ok-items.items c.as_slice.result.now c.as_slice-2.result.now c.as_slice-3.result.now
    c.in_ok-certificate.certificate c.schedule.ensures c.as_slice.ensures c.as_slice-2.ensures c.as_slice-3.ensures c.in_ok-certificate.ensures.certificate
    (operations c.args.suffix.now c.args.observer.now) (c.in_ok-items.ensures ∙ c.in_ok-held.ensures.items))
    c.tell_items.ensures
