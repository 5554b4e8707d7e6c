use Rattle.std.proofs.Common.{◌∷◌, ◌∙◌, ap}
use Rattle.st_plain.proofs.AlreadyLemmas.{false_in_front}
use Rattle.st_plain.proofs.canonical.behind_false.Goals as goal

pub returns-clause-value : goal.returns-clause-value
returns-clause-value c =
    false_in_front c.args.text.now c.in_ok-behind_byte.field-0.now (c.in_ok-rest.ensures ∙ ap (λ t. 102 ∷ t)
    (c.in_ok-rest-2.ensures ∙ ap (λ t. 97 ∷ t) (c.in_ok-rest-3.ensures ∙ ap (λ t. 108 ∷ t)
    (c.in_ok-rest-4.ensures ∙ ap (λ t. 115 ∷ t) c.in_ok-behind_byte.ensures))))
