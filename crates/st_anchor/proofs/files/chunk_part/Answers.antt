use Rattle.std.proofs.Common.{◌+◌, arith}
use Rattle.st_anchor.proofs.SettleLemmas.{chunk-fails, chunk-says}
use Rattle.st_anchor.proofs.files.chunk_part.Goals as goal

pub overflow_add-wanted : goal.overflow_add-wanted
overflow_add-wanted c = omega (arith, c.requires, c.len.ensures, c.len-2.ensures)

pub overflow_add-wanted-2 : goal.overflow_add-wanted-2
overflow_add-wanted-2 c = omega (arith, c.requires, c.len.ensures, c.len-2.ensures, c.len-3.ensures)

pub returns-in-Ok-clause-value : goal.returns-in-Ok-clause-value
returns-in-Ok-clause-value c =
    chunk-says c.args.context.now c.args.core.now c.args.provisional.now c.args.file.now _ (λ i. c.len.ensures i + c.len-2.ensures i + c.len-3.ensures i)
    _ c.in-Ok.ensures.answers.0 c.in-Ok.ensures.answers.1

pub returns-in-Err-Rejected-clause-value : goal.returns-in-Err-Rejected-clause-value
returns-in-Err-Rejected-clause-value c =
    let is = rw c.in-Err-Rejected.field-0-is at c.in-Err-Rejected.ensures.answers in
    chunk-fails c.args.context.now c.args.core.now c.args.provisional.now c.args.file.now _ (λ i. c.len.ensures i + c.len-2.ensures i + c.len-3.ensures i)
    c.in-Err-Rejected.rule is
