use Rattle.std.proofs.Common.{List, subst, sym}
use Rattle.st_hash.specs.Hash.{HashValue}
use Rattle.st_exchange.proofs.AnswerLemmas.{among_pushed}
use Rattle.st_exchange.specs.inside.Among.{HasThose}
use Rattle.st_exchange.proofs.asking.put_once.Goals as goal

pub returns-in_ok-push-clause-has : goal.returns-in_ok-push-clause-has
returns-in_ok-push-clause-has c =
    subst (λ (uris : List HashValue). HasThose uris c.insert.new.self) (sym c.in_ok-push.ensures.ok)
    (among_pushed c.args.once.now c.args.uri.now c.args.seen.now c.insert.new.self c.requires c.in_ok-insert.ensures.updates)
