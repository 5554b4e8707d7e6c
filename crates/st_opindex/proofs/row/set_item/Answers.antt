use Rattle.std.proofs.Common.{arith, rules, ◌∙◌, sym, ap}
use Rattle.std.proofs.lemmas.List.{get_or_default}
use Rattle.st_opindex.proofs.Placed.{split-within, split-set, split-insert}
use Rattle.st_opindex.proofs.row.set_item.Goals as goal
use Rattle.st_opindex.proofs.row.set_item.Goals.{else-at-len-via-then-at-len+else-index-place, else-at-len-via-else-at-len}

pub returns-then-index-place : goal.returns-then-index-place
returns-then-index-place g c =
    rw (← split-set c.requires c.args.item c.index.result.now (omega arith) c.index.ensures c.if-index-place.true) (search rules)

pub insert-requires : goal.insert-requires
insert-requires g c = omega (arith, split-within c.requires, c.args.items.now.ok.0)

pub returns : goal.returns
returns g c =
    c.in_ok-insert.ensures.items
    ∙ split-insert c.requires c.args.item
    (λ held inside read found. elim c.else-at-len.branch [
      | else-at-len-via-then-at-len+else-index-place w ↦
          let same = w.index.ensures ∙ get_or_default c.args.items.now.items c.args.at w.index.result.now held inside ∙ sym read in
          w.if-index-place.false (ap (λ first. first.0) same ∙ found)
      | else-at-len-via-else-at-len w ↦ absurd (omega (arith, w.if-at-len.false, c.args.items.now.ok.0))
    ])
