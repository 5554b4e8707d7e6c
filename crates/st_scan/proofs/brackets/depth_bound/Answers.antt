use Rattle.std.proofs.Common.{arith, sym}
use Rattle.std.proofs.lemmas.Grind.{common_steps}
use Rattle.std.proofs.lemmas.List.Sums.{count_by-le-length}
use Rattle.st_plain.specs.ReadAgain.{opens}
use Rattle.st_scan.proofs.ContentLemmas.{depth_within}
use Rattle.st_scan.proofs.brackets.depth_bound.Goals as goal

pub returns-clause-depth : goal.returns-clause-depth
returns-clause-depth c =
    grind (
      arith,
      common_steps,
      depth_within c.args.text.now c.requires,
      count_by-le-length opens c.args.text.now,
      c.opening_count.ensures,
      c.saturating_add.ensures,
      c.type_inv.text,
    )

pub returns-clause-exact : goal.returns-clause-exact
returns-clause-exact c =
    grind (
      arith,
      common_steps,
      sym c.requires.spelled,
      count_by-le-length opens c.args.text.now,
      c.opening_count.ensures,
      c.saturating_add.ensures,
      c.type_inv.text,
    )
