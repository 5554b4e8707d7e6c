use Rattle.std.proofs.Common.{◌∙◌, ap, sym}
use Rattle.std.specs.List.{fold}
use Rattle.st_apply.proofs.ResolvedLemmas.{seen_resolve}
use Rattle.st_apply.specs.Codes.{absent}
use Rattle.st_apply.specs.Applied.{step}
use Rattle.st_apply.proofs.laws.alike_law.Goals as goal

pub returns : goal.returns
returns g c rules place seen place' seen' items others ascend ascend' alike =
    seen_resolve rules place seen items ascend ∙ ap (fold (step rules) absent) alike ∙ sym (seen_resolve rules place' seen' others ascend')
