use Rattle.std.proofs.Common.{◌∙◌, ◌++◌, ap, sym}
use Rattle.st_apply.specs.Laws.{opened}
use Rattle.st_resolve.specs.Identifier.{plain_did}
use Rattle.st_resolve.proofs.ResultLemmas.{canonical_said}
use Rattle.st_resolve.proofs.result.append_said.Goals as goal

pub returns : goal.returns
returns c = c.in_ok-append_said_parts.ensures ∙ ap (λ t. c.args.out.now ++ t) (sym (canonical_said c.args.published (plain_did c.args.did.now) (opened c.args.state.now)))
