use Rattle.std.proofs.Common.{◌∙◌, ◌≤◌, List, length, sym, subst}
use Rattle.st_exchange.proofs.AnswerLemmas.{asked-is, asked-short}
use Rattle.st_exchange.specs.Message.{AreListed, most_uris}
use Rattle.st_hash.specs.Hash.{HashValue}
use Rattle.st_exchange.proofs.asking.ask.Goals as goal

pub returns-clause-is : goal.returns-clause-is
returns-clause-is c = λ each. subst AreListed (sym (c.in_ok-uris.ensures ∙ c.front.ensures)) (asked-is c.args.wanted.now each)

pub returns-clause-short : goal.returns-clause-short
returns-clause-short c =
    subst (λ (uris : List HashValue). length uris ≤ most_uris) (sym (c.in_ok-uris.ensures ∙ c.front.ensures))
    (asked-short c.args.wanted.now)
