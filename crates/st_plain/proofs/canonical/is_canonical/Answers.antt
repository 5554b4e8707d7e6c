use Rattle.std.proofs.Common.{◌≡◌, length, subst, arith}
use Rattle.std.proofs.lemmas.List.{nil_from_length}
use Rattle.st_plain.specs.inside.Walk.{IsInFront}
use Rattle.st_plain.proofs.AlreadyLemmas.{all_read_again}
use Rattle.st_plain.proofs.canonical.is_canonical.Goals as goal

pub returns-in-Some : goal.returns-in-Some
returns-in-Some c = λ true.
    let none : length c.in-Some.rest.now ≡ 0 = grind arith in
    all_read_again c.args.text.now (subst (IsInFront 127 c.args.text.now) (nil_from_length c.in-Some.rest.now none) c.in-Some.ensures.value)
