use Rattle.std.proofs.Common.{drop, length-drop, ap, sym, ◌∙◌, arith}
use Rattle.std.proofs.lemmas.List.{drop_all}
use Rattle.st_jsonpatch.specs.Stepped.{is_above}
use Rattle.st_jsonpatch.proofs.PointerLemmas.{above_all, not_above}
use Rattle.st_jsonpatch.proofs.pointer.is_above.Goals as goal

pub returns-then-from-path : goal.returns-then-from-path
returns-then-from-path c = sym (not_above c.args.from.now c.args.path.now c.if-from-path.true)

pub returns : goal.returns
returns c =
    let path = drop c.loop-at.at c.args.path.now in
    let done = ap (λ from. is_above from path) (drop_all c.loop-at.at c.args.from.now (omega arith)) in
    sym (c.loop-at.invariant ∙ done ∙ above_all path (omega (arith, length-drop c.loop-at.at c.args.path.now)))
