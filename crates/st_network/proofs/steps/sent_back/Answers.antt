use Rattle.std.proofs.Common.{◌≡◌, ◌∙◌, [], ◌++◌, List, map, append-nil, ap, sym}
use Rattle.std.proofs.lemmas.List.{nil_from_length}
use Rattle.std.specs.Vec.Iter.{into_iter_items}
use Rattle.st_exchange.specs.declared.message.Message.{Message}
use Rattle.st_network.specs.Exchange.{back}
use Rattle.st_network.proofs.steps.sent_back.Goals as goal

pub returns : goal.returns
returns c =
    let none : into_iter_items c.loop-message.message-iterator ≡ [] =
    nil_from_length _ (sym c.loop-message.message-iterator.rest.ok.0 ∙ c.in-None.ensures.steps.0) in
    sym (append-nil c.loop-message.letters)
    ∙ ap (λ (rest : List Message). c.loop-message.letters ++ map (back c.args.received.now) rest) (sym none) ∙ c.loop-message.invariant.all
