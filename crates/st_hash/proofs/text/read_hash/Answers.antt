use Rattle.std.proofs.Common.{rules, arith}
use Rattle.st_hash.proofs.HashLemmas.{hash_of_text_with-spelled, hash_of_text_with-none}
use Rattle.st_hash.proofs.text.read_hash.Goals as goal

pub returns-in-Some-clause-spelled : goal.returns-in-Some-clause-spelled
returns-in-Some-clause-spelled c =
    (hash_of_text_with-spelled 18 c.args.text.now c.in-Some.hash (λ i. let fits = c.type_inv.text i in omega arith) (search rules)).0

pub returns-in-None-clause-no_spelling : goal.returns-in-None-clause-no_spelling
returns-in-None-clause-no_spelling c = λ hash is of_code. hash_of_text_with-none 18 c.args.text.now hash (search rules) is of_code
