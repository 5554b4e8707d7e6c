use Rattle.std.proofs.Common.{◌∙◌, ap}
use Rattle.st_plain.specs.Plain.{canonical}
use Rattle.st_plain.specs.inside.Walk.{behind_value}
use Rattle.st_plain.proofs.WalkLemmas.{cut_before, behind_value-canonical}
use Rattle.st_plain.proofs.values.split_value.Goals as goal

pub returns : goal.returns
returns c = λ value rest proper whole follow.
    let behind = c.behind_value-rest.ensures.value ∙ ap behind_value whole ∙ behind_value-canonical value rest proper follow in
    (cut_before c.args.text.now (canonical value) rest c.behind_value-rest.result.now whole behind, behind)
