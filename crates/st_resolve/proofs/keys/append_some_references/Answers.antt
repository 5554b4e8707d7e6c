use Rattle.std.proofs.Common.{◌∙◌, ◌++◌, ap, sym, map}
use Rattle.st_canon.specs.View.{plain}
use Rattle.st_resolve.specs.Result.{references_for}
use Rattle.st_resolve.proofs.ResultLemmas.{list_there}
use Rattle.st_resolve.proofs.keys.append_some_references.Goals as goal

pub returns : goal.returns
returns c = c.in_ok-append_list.ensures ∙ ap (λ t. c.args.out.now ++ t) (sym (list_there c.args.front.now (references_for c.args.purpose.now (map plain c.args.keys.now)) c.args.back.now c.requires))
