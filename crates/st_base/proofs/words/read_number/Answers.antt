use Rattle.std.proofs.Common.{sym, arith, refl}
use Rattle.st_base.proofs.TextLemmas.{number_of-decimal}
use Rattle.st_base.proofs.words.read_number.Goals as goal

pub returns-then-is_spelling-clause-value : goal.returns-then-is_spelling-clause-value
returns-then-is_spelling-clause-value c = sym (number_of-decimal c.args.most c.in-Some.number c.args.text.now (omega arith) (omega arith) (c.if-is_spelling.ensures.0 refl))
