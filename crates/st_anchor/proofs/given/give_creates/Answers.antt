use Rattle.std.proofs.Common.{◌≡◌, ◌∙◌, [], ◌∷◌, ◌++◌, ap, get_or, map, sym}
use Rattle.std.proofs.lemmas.List.{map_push}
use Rattle.st_ops.specs.Operation.{creating}
use Rattle.st_anchor.specs.Gives.{beside, plain_given, with_suffix}
use Rattle.st_anchor.proofs.GivesLemmas.{at-beside, given-all, given-more, inside-beside, past-beside}
use Rattle.st_anchor.proofs.given.give_creates.Goals as goal

pub creates-preserved : goal.creates-preserved
creates-preserved c =
    let deltas = c.args.deltas.now in
    let create = c.index-creates-at.result in
    let delta = c.in_ok-delta.delta in
    let is : (create, delta) ≡ get_or (beside c.args.creates.now deltas) c.creates.at (create, delta) =
    (λ i. (c.index-creates-at.is i, c.in_ok-delta.ensures i))
    ∙ sym (at-beside c.args.creates.now deltas c.creates.at create (create, delta) c.creates-test.true) in
    ap (map plain_given) c.in_ok-push.ensures.ok ∙ map_push plain_given c.creates.list c.in_ok-create_of.field-0
    ∙ ap (λ one. map plain_given c.creates.list ++ one ∷ [])
    (c.in_ok-create_of.ensures ∙ ap (λ entry. with_suffix (creating entry.0 entry.1)) is)
    ∙ given-more plain_given with_suffix (λ entry. creating entry.0 entry.1) (beside c.args.creates.now deltas) c.creates.at (create, delta)
    c.creates.list (map plain_given c.args.list.now) (inside-beside c.args.creates.now deltas c.creates.at c.creates-test.true) c.creates.invariant

pub returns : goal.returns
returns c =
    let deltas = c.args.deltas.now in
    given-all plain_given with_suffix (λ entry. creating entry.0 entry.1)
    (beside c.args.creates.now deltas) c.creates.at c.creates.list (map plain_given c.args.list.now)
    (past-beside c.args.creates.now deltas c.creates.at c.creates-test.false) c.creates.invariant
