use Rattle.std.proofs.Common.{◌≡◌, ◌∙◌, [], ◌++◌, append-nil, ap, sym}
use Rattle.std.proofs.lemmas.List.{nil_from_length}
use Rattle.std.specs.Vec.Iter.{into_iter_items}
use Rattle.st_network.proofs.letters.put_all.Goals as goal

pub returns : goal.returns
returns c =
    let none : into_iter_items c.loop-letter.letter-iterator ≡ [] =
    nil_from_length _ (sym c.loop-letter.letter-iterator.rest.ok.0 ∙ c.in-None.ensures.steps.0) in
    sym (append-nil c.loop-letter.items) ∙ ap (λ rest. c.loop-letter.items ++ rest) (sym none) ∙ c.loop-letter.invariant
