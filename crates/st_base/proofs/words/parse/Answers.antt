use Rattle.std.proofs.Common.{◌∙◌, arith, sym, subst}
use Rattle.std.specs.Str.{IsUtf8}
use Rattle.std.proofs.lemmas.Str.{IsUtf8-from_ascii}
use Rattle.std.proofs.lemmas.Fmt.{parse-decimal, IsAscii-decimal}
use Rattle.st_base.proofs.words.parse.Goals as goal

pub returns-in-Ok-parse : goal.returns-in-Ok-parse
returns-in-Ok-parse c = λ number small spelled.
    let read = parse-decimal 32 number c.in-Ok.text.now c.parse.result small (omega arith) (c.in-Ok.ensures.cases.0 ∙ spelled) c.parse.ensures.value.0 in
    cc

pub returns-in-Err-parse : goal.returns-in-Err-parse
returns-in-Err-parse c = λ number small spelled.
    let read = parse-decimal 32 number c.in-Ok.text.now c.parse.result small (omega arith) (c.in-Ok.ensures.cases.0 ∙ spelled) c.parse.ensures.value.0 in
    cc

pub returns-in-Err : goal.returns-in-Err
returns-in-Err c = λ number small spelled.
    absurd (c.in-Err.ensures.cases.0 (subst IsUtf8 (sym spelled) (IsUtf8-from_ascii _ (IsAscii-decimal number (omega arith)))))
