use Rattle.st_exchange.proofs.MessageLemmas.{encoded-read}
use Rattle.st_exchange.proofs.message.encode.Goals as goal

pub returns-clause-read : goal.returns-clause-read
returns-clause-read c = λ is. encoded-read c.args.message.now _ is c.spelled.ensures
