use Rattle.std.proofs.Common.{◌≡◌, ◌++◌, ◌∙◌, sym, ap₂, rules}
use Rattle.std.specs.Fmt.{signed_decimal}
use Rattle.std.proofs.lemmas.List.{take-append-drop}
use Rattle.st_plain.proofs.AlreadyLemmas.{number_in_front}
use Rattle.st_plain.proofs.canonical.behind_number.Goals as goal

pub returns-then-is_spelling-clause-value : goal.returns-then-is_spelling-clause-value
returns-then-is_spelling-clause-value c =
    let text = c.args.text.now in
    let parts = c.split_at.ensures in
    let spelled : c.split_at.result.0.now ≡ signed_decimal c.value.result = search rules in
    number_in_front text c.split_at.result.0.now c.split_at.result.1.now c.value.result c.value.ensures.whole
    (sym (take-append-drop c.number_length-length.result text) ∙ ap₂ (λ x y. x ++ y) (sym parts.front) (sym parts.back)) spelled
