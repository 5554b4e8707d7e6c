use Rattle.std.proofs.Common.{rules, ◌≡◌, ◌∷◌, refl}
use Rattle.st_plain.proofs.names.control_byte.Goals as goal

pub returns-clause-some : goal.returns-clause-some
returns-clause-some c =
    let one : c.args.bytes.now ≡ c.in_ok-rest.field-0-0.now ∷ c.in_ok-rest.rest.now = search rules in
    let two : c.in_ok-rest.rest.now ≡ c.in_ok-rest-2.field-0-0.now ∷ c.in_ok-rest-2.rest.now = search rules in
    let three : c.in_ok-rest-2.rest.now ≡ c.in_ok-high.high.now ∷ c.in_ok-high.rest.now = search rules in
    let four : c.in_ok-high.rest.now ≡ c.in_ok-low.low.now ∷ c.in_ok-low.rest.now = search rules in
    rw (one, two, three, four, c.digit.ensures.value) refl
