use Rattle.std.proofs.Common.{◌≡◌, sym, ◌∙◌, rules}
use Rattle.st_plain.specs.inside.Objects.{ranks_cmp}
use Rattle.st_plain.proofs.NameLemmas.{same_from_tied}
use Rattle.st_plain.proofs.RankLemmas.{names_ranked}
use Rattle.st_plain.proofs.names.compare.Goals as goal

pub returns-clause-order : goal.returns-clause-order
returns-clause-order c =
    let ranked : c.compare_bytes.result ≡ ranks_cmp c.args.first.now c.args.second.now = search rules in
    ranked ∙ sym (names_ranked c.args.first.now c.args.second.now c.utf8.first c.utf8.second)

pub returns-clause-same : goal.returns-clause-same
returns-clause-same c = λ tied.
    let ranked : c.compare_bytes.result ≡ ranks_cmp c.args.first.now c.args.second.now = search rules in
    same_from_tied c.args.first.now c.args.second.now c.utf8.first c.utf8.second
    (names_ranked c.args.first.now c.args.second.now c.utf8.first c.utf8.second ∙ sym ranked ∙ tied)
