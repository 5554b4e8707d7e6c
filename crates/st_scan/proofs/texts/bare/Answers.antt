use Rattle.std.proofs.Common.{◌∙◌, sym, subst}
use Rattle.std.specs.List.{flat_map}
use Rattle.st_base.specs.Texts.{HasNo}
use Rattle.st_plain.specs.Plain.{escape}
use Rattle.st_scan.proofs.TextLemmas.{all_bare, inside_of, not_bare}
use Rattle.st_scan.proofs.texts.bare.Goals as goal

pub returns-in-None-clause-some : goal.returns-in-None-clause-some
returns-in-None-clause-some c = λ word is.
    let left = inside_of c.in_ok-left.left.now word c.args.text.now c.in_ok-left.ensures.some is in
    let inside = c.before_last-inside.ensures (flat_map escape word) 34 left in
    inside ∙ all_bare word (subst (HasNo 92) inside c.in-None.ensures.none)

pub returns-in-Some-clause-none : goal.returns-in-Some-clause-none
returns-in-Some-clause-none c = λ word is same.
    let left = inside_of c.in_ok-left.left.now word c.args.text.now c.in_ok-left.ensures.some is in
    let inside = c.before_last-inside.ensures (flat_map escape word) 34 left in
    not_bare word _ _ (sym inside ∙ c.in-Some.ensures.whole) same
