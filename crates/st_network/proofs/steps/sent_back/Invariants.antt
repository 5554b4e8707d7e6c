use Rattle.std.proofs.Common.{◌≡◌, ◌++◌, map}
use Rattle.std.specs.List.{AllByRecursion}
use Rattle.std.specs.Vec.Iter.{into_iter_items}
use Rattle.st_exchange.specs.Message.{IsShort}
use Rattle.st_network.specs.Exchange.{back}
use Rattle.st_network.proofs.steps.sent_back.Given as goal

-- those so far, followed by the remaining ones, which are short
abbrev pub invariant-loop-message : goal.invariant-loop-message
invariant-loop-message l = record {
  all : l.letters ++ map (back l.received) (into_iter_items l.message-iterator) ≡ map (back l.received) l.fn.messages;
  short : AllByRecursion IsShort (into_iter_items l.message-iterator);
}
