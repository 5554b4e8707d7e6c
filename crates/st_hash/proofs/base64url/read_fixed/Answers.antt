use Rattle.std.proofs.Common.{◌∙◌, sym, arith}
use Rattle.st_hash.proofs.Base64Lemmas.{fixed_of_text-no, fixed_spelled}
use Rattle.st_hash.proofs.base64url.read_fixed.Goals as goal

pub returns-in-Some-clause-spelled : goal.returns-in-Some-clause-spelled
returns-in-Some-clause-spelled g c =
    fixed_spelled g.row.N c.args.text.now c.in-Some.bytes (λ i. let fits = c.type_inv.text i in omega arith) (sym c.decoded.ensures ∙ c.in-Some.is)

pub returns-in-None-clause-no_spelling : goal.returns-in-None-clause-no_spelling
returns-in-None-clause-no_spelling g c bytes are_bytes long =
    fixed_of_text-no g.row.N c.args.text.now bytes (sym c.decoded.ensures ∙ c.in-None.is) are_bytes long
