use Rattle.std.proofs.Common.{◌≡◌, ◌∙◌, drop, ap, arith}
use Rattle.std.proofs.lemmas.List.{take_rest}
use Rattle.std.specs.Int.{w32, from_be_bytes}
use Rattle.st_journal.proofs.ImageLemmas.{damaged_head, open_head}
use Rattle.st_journal.proofs.layout.by_head.Goals as goal

pub returns-then-rest-from-clause-gives : goal.returns-then-rest-from-clause-gives
returns-then-rest-from-clause-gives c from is long =
    let head = c.args.head.now in
    let read : c.number-n.result ≡ from_be_bytes w32 (drop 1 head) = c.number-n.ensures ∙ ap (from_be_bytes w32) (take_rest head 1) in
    damaged_head head from is c.if-head.false c.number-n.result read (omega (arith, long, c.if-rest-from.true, c.from.ensures))

pub returns-clause-gives : goal.returns-clause-gives
returns-clause-gives c from is long =
    let head = c.args.head.now in
    let read : c.number-n.result ≡ from_be_bytes w32 (drop 1 head) = c.number-n.ensures ∙ ap (from_be_bytes w32) (take_rest head 1) in
    open_head head from is c.if-head.false c.number-n.result read (omega (arith, long, c.requires.rest)) (omega (arith, long, c.if-rest-from.false, c.from.ensures))
