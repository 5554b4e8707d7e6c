use Rattle.std.proofs.Common.{◌+◌, ◌∙◌, ap, drop, arith}
use Rattle.std.proofs.lemmas.List.Sums.{count_by-le-length}
use Rattle.std.proofs.lemmas.Simd.{length-chunk}
use lib.Lanes.{chunk}
use Rattle.st_plain.specs.Measures.{opening_count}
use Rattle.st_plain.specs.ReadAgain.{opens}
use Rattle.st_scan.proofs.ContentLemmas.{counted_near}
use Rattle.st_scan.proofs.brackets.near_count.Goals as goal

pub returns-clause-value : goal.returns-clause-value
returns-clause-value c = ap (λ n. n + opening_count (drop 16 c.args.bytes.now)) c.openings_of_16.ensures ∙ counted_near c.args.bytes.now

pub returns-clause-within : goal.returns-clause-within
returns-clause-within c =
    omega (
      arith,
      c.openings_of_16.ensures,
      count_by-le-length opens (chunk 0 16 c.args.bytes.now),
      length-chunk 0 16 c.args.bytes.now (omega arith),
    )
