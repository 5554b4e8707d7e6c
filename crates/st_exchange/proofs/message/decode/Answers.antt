use Rattle.std.proofs.Common.{arith}
use Rattle.st_exchange.proofs.MessageLemmas.{decoded-is, decoded-none, decoded-short, decoded-spelled}
use Rattle.st_exchange.proofs.message.decode.Goals as goal

pub returns-clause-spelled : goal.returns-clause-spelled
returns-clause-spelled c = decoded-spelled c.args.bytes.now _ (λ i. let fits = c.type_inv.bytes i in omega arith) c.read_message.ensures

pub returns-clause-is : goal.returns-clause-is
returns-clause-is c = decoded-is c.args.bytes.now _ (λ i. let fits = c.type_inv.bytes i in omega arith) c.read_message.ensures

pub returns-clause-no_spelling : goal.returns-clause-no_spelling
returns-clause-no_spelling c = decoded-none c.args.bytes.now _ c.read_message.ensures

pub returns-clause-short : goal.returns-clause-short
returns-clause-short c = decoded-short c.args.bytes.now _ (λ i. let fits = c.type_inv.bytes i in omega arith) c.read_message.ensures
