use Rattle.std.proofs.Common.{◌∙◌, ◌+◌, ap}
use Rattle.std.proofs.lemmas.List.{get_or-replicate}
use Rattle.st_lms.proofs.digits.last_places.Goals as goal

pub returns : goal.returns
returns c = λ i lt. get_or-replicate 265 i _ 0 lt ∙ ap (λ d. d + 1) c.parameters.ensures.greatest_digit
