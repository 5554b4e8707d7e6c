use Rattle.std.proofs.Common.{◌∙◌, arith}
use Rattle.st_opindex.proofs.RowLemmas.{reached_before}
use Rattle.st_opindex.proofs.row.go_back.Goals as goal

pub returns-then-row-at-clause-row : goal.returns-then-row-at-clause-row
returns-then-row-at-clause-row g c = record {
  ascends = c.requires.ascends;
  within = omega (arith, c.requires.within);
  reached = c.requires.reached (omega arith);
}

pub returns-clause-row : goal.returns-clause-row
returns-clause-row g c =
    let lent = c.as_slice.ensures.value ∙ c.truncate.ensures.items in
    let none = rw lent at c.in_ok-row.ensures.none in
    let some = rw lent at c.in_ok-row.ensures.last in
    record {
      ascends = c.requires.ascends;
      within = omega (arith, c.requires.within);
      reached = rw c.truncate.ensures.items (reached_before (c.requires.kept (omega arith)) _ none some);
    }
