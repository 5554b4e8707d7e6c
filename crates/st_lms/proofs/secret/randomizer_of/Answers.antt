use Rattle.std.proofs.Common.{◌∙◌, ap}
use Rattle.st_lms.specs.Signature.{randomizer_of}
use Rattle.st_lms.proofs.secret.randomizer_of.Goals as goal

pub returns : goal.returns
unfolding randomizer_of
returns c = c.secret_element.ensures ∙ ap (λ secret. randomizer_of secret c.args.q) c.secret.view_is
