use Rattle.std.proofs.Common.{ap, ◌∙◌, length, nat_eq}
use Rattle.st_canon.proofs.MemberLemmas.{is_empty-length}
use Rattle.st_canon.proofs.object.Object.is_empty.Goals as goal

pub returns : goal.returns
returns c = c.is_empty.ensures ∙ ap (λ pairs. nat_eq (length pairs) 0) c.pairs.ensures.all ∙ is_empty-length c.args.self.now
