use Rattle.std.proofs.Common.{◌-◌, ◌^◌, sym, arith, refl}
use Rattle.st_base.proofs.TextLemmas.{number_of-decimal}
use Rattle.st_generate.proofs.plan.read_long.Goals as goal

pub returns-then-is_spelling : goal.returns-then-is_spelling
returns-then-is_spelling c =
    sym (number_of-decimal (2 ^ 64 - 1) c.in-Some.number c.args.text.now (omega arith) (omega arith) (c.if-is_spelling.ensures.0 refl))
