use Rattle.std.proofs.Common.{◌≡◌, ◌∙◌, [], ◌∷◌, ◌++◌, ap, get_or, map, option_and_then, sym}
use Rattle.std.proofs.lemmas.List.{map_push}
use Rattle.std.specs.Prelude.{slice_get}
use Rattle.st_anchor.specs.Gives.{beside, plain_given, with_suffix}
use Rattle.st_anchor.specs.inside.Coming.{made}
use Rattle.st_anchor.proofs.GivesLemmas.{at-beside, given-all, given-more, inside-beside, past-beside}
use Rattle.st_anchor.proofs.given.give_signed.Goals as goal

pub targets-preserved : goal.targets-preserved
targets-preserved c =
    let deltas = c.args.deltas.now in
    let signed = beside c.args.targets.now c.args.proofs.now in
    let target = c.index-targets-at.result in
    let proof = slice_get c.args.proofs.now c.targets.at in
    let delta = c.in_ok-delta.delta in
    let inside = inside-beside c.args.targets.now c.args.proofs.now c.targets.at c.targets-test.true in
    let first : (target, proof) ≡ get_or signed c.targets.at (target, proof) =
    (λ i. (c.index-targets-at.is i, proof))
    ∙ sym (at-beside c.args.targets.now c.args.proofs.now c.targets.at target (target, proof) c.targets-test.true) in
    let is : ((target, proof), delta) ≡ get_or (beside signed deltas) c.targets.at ((target, proof), delta) =
    (λ i. (first i, c.in_ok-delta.ensures i)) ∙ sym (at-beside signed deltas c.targets.at (target, proof) ((target, proof), delta) inside) in
    ap (map plain_given) c.in_ok-push.ensures.ok ∙ map_push plain_given c.targets.list c.signed_of.result
    ∙ ap (λ one. map plain_given c.targets.list ++ one ∷ [])
    (c.signed_of.ensures ∙ ap (λ opened. with_suffix (made c.args.kind target opened delta)) c.in_ok-proof.ensures
    ∙ ap (λ entry. with_suffix (made c.args.kind entry.0.0 (option_and_then (λ proof. proof) entry.0.1) entry.1)) is)
    ∙ given-more plain_given with_suffix (λ entry. made c.args.kind entry.0.0 (option_and_then (λ proof. proof) entry.0.1) entry.1) (beside signed deltas)
    c.targets.at ((target, proof), delta) c.targets.list (map plain_given c.args.list.now) (inside-beside signed deltas c.targets.at inside) c.targets.invariant

pub returns : goal.returns
returns c =
    let deltas = c.args.deltas.now in
    let signed = beside c.args.targets.now c.args.proofs.now in
    given-all plain_given with_suffix (λ entry. made c.args.kind entry.0.0 (option_and_then (λ proof. proof) entry.0.1) entry.1)
    (beside signed deltas) c.targets.at
    c.targets.list (map plain_given c.args.list.now)
    (past-beside signed deltas c.targets.at (past-beside c.args.targets.now c.args.proofs.now c.targets.at c.targets-test.false)) c.targets.invariant
