use Rattle.std.proofs.Common.{◌∙◌, ◌++◌, ap, sym}
use Rattle.st_canon.specs.View.{plain}
use Rattle.st_resolve.proofs.ResultLemmas.{canonical_method}
use Rattle.st_resolve.proofs.keys.append_method.Goals as goal

pub returns : goal.returns
returns c = c.in_ok-append_method_parts.ensures ∙ ap (λ t. c.args.out.now ++ t) (sym (canonical_method c.args.did.now (plain c.args.key.now)))
