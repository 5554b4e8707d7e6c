use Rattle.std.proofs.Common.{rules, arith}
use Rattle.st_hash.proofs.HashLemmas.{hash_of_text_with-spelled, hash_of_text_with-none, neither-none}
use Rattle.st_hash.proofs.text.read_hash_at.Goals as goal

pub returns-in-Some-clause-spelled : goal.returns-in-Some-clause-spelled
returns-in-Some-clause-spelled c =
    (hash_of_text_with-spelled 18 c.args.text.now c.in-Some.hash (λ i. let fits = c.type_inv.text i in omega arith) (search rules)).0

pub returns-in-Some-clause-of_version : goal.returns-in-Some-clause-of_version
returns-in-Some-clause-of_version c = λ first.
    (hash_of_text_with-spelled 18 c.args.text.now c.in-Some.hash (λ i. let fits = c.type_inv.text i in omega arith) (search rules)).1

pub returns-then-version-eq1-clause-no_spelling : goal.returns-then-version-eq1-clause-no_spelling
returns-then-version-eq1-clause-no_spelling c =
    λ hash is of_version. hash_of_text_with-none 18 c.args.text.now hash (search rules) is (of_version c.if-version-eq1.true)

pub returns-in-Some-read_sha512-clause-spelled : goal.returns-in-Some-read_sha512-clause-spelled
returns-in-Some-read_sha512-clause-spelled c =
    (hash_of_text_with-spelled 19 c.args.text.now c.in-Some-read_sha512.hash (λ i. let fits = c.type_inv.text i in omega arith) (search rules)).0

pub returns-in-None-clause-no_spelling : goal.returns-in-None-clause-no_spelling
returns-in-None-clause-no_spelling c = λ hash is of_version. neither-none c.args.text.now hash (search rules) (search rules) is
