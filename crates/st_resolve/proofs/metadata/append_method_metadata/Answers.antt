use Rattle.std.proofs.Common.{◌∙◌, ◌++◌, ap, sym}
use Rattle.st_apply.specs.Laws.{opened}
use Rattle.st_resolve.proofs.ResultLemmas.{canonical_method_metadata}
use Rattle.st_resolve.specs.inside.Texts.{value_text}
use Rattle.st_resolve.proofs.metadata.append_method_metadata.Goals as goal

pub returns : goal.returns
unfolding value_text
returns c = c.in_ok-append_method_parts.ensures ∙ ap (λ t. c.args.out.now ++ t) (sym (canonical_method_metadata c.args.published (opened c.args.state.now)))
