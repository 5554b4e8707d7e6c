use Rattle.std.proofs.Common.{◌<◌, ◌∙◌, ap, sym, arith, map, ◌≡◌}
use Rattle.std.proofs.lemmas.Simd.{length-chunk, run_in_chunk_le, trailing_mask_l}
use Rattle.std.specs.Prelude.{not}
use Rattle.std.specs.List.{prefix_len}
use lib.Count.{count_trailing_zeros}
use lib.Lanes.{chunk, mask_l}
use Rattle.json.specs.Run.{is_stop}
use Rattle.st_plain.proofs.MarkLemmas.{all_plain, first_plain}
use Rattle.st_plain.proofs.spans.near_span.Goals as goal

pub returns-then-stops-eq0-clause-plain : goal.returns-then-stops-eq0-clause-plain
returns-then-stops-eq0-clause-plain c =
    all_plain c.args.bytes.now c.args.at 16 c.requires (sym c.stops_of_16-stops.ensures ∙ c.if-stops-eq0.true)

-- the place of the first bit that is set
counted : (c : goal.Else-stops-eq0)
    → count_trailing_zeros 64 c.stops_of_16-stops.result ≡ prefix_len (λ x. not (is_stop x)) (chunk c.args.at 16 c.args.bytes.now)
counted c =
    let stops = c.stops_of_16-stops.ensures in
    let some : 0 < mask_l (map is_stop (chunk c.args.at 16 c.args.bytes.now)) = omega (arith, stops) in
    let long = length-chunk c.args.at 16 c.args.bytes.now (omega arith) in
    ap (count_trailing_zeros 64) stops ∙ trailing_mask_l is_stop 64 (chunk c.args.at 16 c.args.bytes.now) (omega (arith, long)) some

pub returns-else-stops-eq0-clause-plain : goal.returns-else-stops-eq0-clause-plain
returns-else-stops-eq0-clause-plain c = first_plain c.args.bytes.now c.args.at 16 _ c.requires (counted c)

pub returns-else-stops-eq0-clause-few : goal.returns-else-stops-eq0-clause-few
returns-else-stops-eq0-clause-few c = run_in_chunk_le is_stop c.args.bytes.now c.args.at 16 _ 0 c.requires (counted c)
