use Rattle.std.proofs.Common.{◌∙◌, ◌+◌, ◌∷◌, ◌++◌, take, sym, ap}
use Rattle.std.proofs.lemmas.List.{take_rest}
use Rattle.st_base.proofs.TextLemmas.{around, has_none-first, has_none-whole}
use Rattle.st_base.proofs.words.cut_at.Goals as goal

pub returns-in-Some-clause-whole : goal.returns-in-Some-clause-whole
returns-in-Some-clause-whole c =
    around c.args.separator c.args.text.now c.in-Some.at (sym c.in-Some.ensures.first)
    ∙ ap (λ behind. take c.in-Some.at c.args.text.now ++ c.args.separator ∷ behind) (sym (take_rest c.args.text.now (c.in-Some.at + 1)))

pub returns-in-Some-clause-first : goal.returns-in-Some-clause-first
returns-in-Some-clause-first c = has_none-first c.args.separator c.args.text.now c.in-Some.at (sym c.in-Some.ensures.first)

pub returns-in-None-clause-none : goal.returns-in-None-clause-none
returns-in-None-clause-none c = has_none-whole c.args.separator c.args.text.now (sym c.in-None.ensures.first)
