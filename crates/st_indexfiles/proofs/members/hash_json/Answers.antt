use Rattle.std.proofs.Common.{◌∙◌, arith, ap, sym}
use Rattle.st_hash.specs.Hash.{hash_of_text_at}
use Rattle.st_indexfiles.proofs.WrittenLemmas.{hash_again}
use Rattle.st_indexfiles.proofs.members.hash_json.Goals as goal

pub returns-clause-read : goal.returns-clause-read
returns-clause-read c =
    let text = c.in_ok-hash_text.ensures in
    hash_again c.args.hash.now (ap (hash_of_text_at 2) (sym text.value) ∙ text.read 2 (λ first. absurd (omega arith)))
