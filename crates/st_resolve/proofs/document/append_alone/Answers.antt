use Rattle.std.proofs.Common.{◌∙◌, ◌++◌, ap, sym}
use Rattle.st_resolve.proofs.ResultLemmas.{canonical_alone}
use Rattle.st_resolve.proofs.document.append_alone.Goals as goal

pub returns : goal.returns
returns c = c.in_ok-append_alone_parts.ensures ∙ ap (λ t. c.args.out.now ++ t) (sym (canonical_alone c.args.did.now))
