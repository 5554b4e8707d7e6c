use Rattle.std.proofs.Common.{◌≡◌, ◌∙◌, ◌++◌, [], append-nil, map, refl, sym, ap}
use Rattle.std.proofs.lemmas.List.{nil_from_length}
use Rattle.std.specs.Vec.Iter.{into_iter_items}
use Rattle.st_cert.specs.Certificate.{anchored_items}
use Rattle.st_observer.specs.Work.{plain_held}
use Rattle.st_node.proofs.ReplyLemmas.{one_made}
use Rattle.st_node.proofs.explaining.cert_items.Goals as goal

pub loop-kept-init : goal.loop-kept-init
loop-kept-init c =
    ap (λ items. anchored_items items ++ map plain_held (into_iter_items c.into_iter-kept-iterator.result)) c.new-items.ensures
    ∙ ap (λ left. map plain_held left) (c.into_iter-kept-iterator.ensures.into_iter_gives.0 ∙ c.into_vec-kept-items.ensures)

pub loop-kept-preserved : goal.loop-kept-preserved
loop-kept-preserved c =
    one_made c.loop-kept.items c.push.new.self c.in-Some.kept (into_iter_items c.next.new.self) _ c.in_ok-push.ensures.ok refl
    ∙ ap (λ left. anchored_items c.loop-kept.items ++ map plain_held left) (sym c.in-Some.ensures.steps.0) ∙ c.loop-kept.invariant

pub returns : goal.returns
returns c =
    let none : into_iter_items c.loop-kept.kept-iterator ≡ [] = nil_from_length _ (sym c.loop-kept.kept-iterator.rest.ok.0 ∙ c.in-None.ensures.steps.0) in
    sym (append-nil (anchored_items c.loop-kept.items))
    ∙ sym (ap (λ left. anchored_items c.loop-kept.items ++ map plain_held left) none)
    ∙ c.loop-kept.invariant
