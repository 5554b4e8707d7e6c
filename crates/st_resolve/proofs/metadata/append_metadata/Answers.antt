use Rattle.std.proofs.Common.{◌∙◌, ◌++◌, ap, sym}
use Rattle.st_apply.specs.Laws.{opened}
use Rattle.st_resolve.specs.Identifier.{plain_did}
use Rattle.st_resolve.proofs.ResultLemmas.{canonical_metadata}
use Rattle.st_resolve.specs.inside.Texts.{value_text}
use Rattle.st_resolve.proofs.metadata.append_metadata.Goals as goal

pub returns : goal.returns
unfolding value_text
returns c = c.in_ok-append_metadata_parts.ensures ∙ ap (λ t. c.args.out.now ++ t) (sym (canonical_metadata c.args.published (plain_did c.args.did.now) (opened c.args.state.now)))
