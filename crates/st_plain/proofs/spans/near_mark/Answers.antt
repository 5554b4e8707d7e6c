use Rattle.std.proofs.Common.{◌<◌, ap, sym, ◌∙◌, arith, map}
use Rattle.std.proofs.lemmas.Simd.{length-chunk, trailing_mask_l}
use lib.Count.{count_trailing_zeros}
use lib.Lanes.{chunk, mask_l}
use Rattle.memchr.specs.Find.{is_byte2}
use Rattle.st_plain.proofs.MarkLemmas.{first_near, nothing_near}
use Rattle.st_plain.proofs.spans.near_mark.Goals as goal

pub returns-then-marks-eq0-clause-none : goal.returns-then-marks-eq0-clause-none
returns-then-marks-eq0-clause-none c = nothing_near c.args.bytes.now 16 c.requires (sym c.marks_of_16-marks.ensures ∙ c.if-marks-eq0.true)

pub returns-else-marks-eq0-clause-some : goal.returns-else-marks-eq0-clause-some
returns-else-marks-eq0-clause-some c =
    let bytes = c.args.bytes.now in
    let marks = c.marks_of_16-marks.ensures in
    let some : 0 < mask_l (map (is_byte2 34 92) (chunk 0 16 bytes)) = omega (arith, marks) in
    let long = length-chunk 0 16 bytes (omega arith) in
    let counted = ap (count_trailing_zeros 64) marks ∙ trailing_mask_l (is_byte2 34 92) 64 (chunk 0 16 bytes) (omega (arith, long)) some in
    first_near bytes 16 _ c.requires some counted
