use Rattle.std.proofs.Common.{◌≡◌, true, ap, sym, ◌∙◌}
use Rattle.std.proofs.lemmas.Result.{OkIff-at_err}
use Rattle.std.proofs.lemmas.Str.Parse.{parse_digits}
use Rattle.st_jsonpatch.specs.Pointer.{is_index}
use Rattle.st_jsonpatch.proofs.PointerLemmas.{digits, is_index-parts, large_index}
use Rattle.st_jsonpatch.proofs.items.read_index.Goals as goal

pub returns-in-Err-clause-index : goal.returns-in-Err-clause-index
returns-in-Err-clause-index c =
    let is : is_index c.args.token.now ≡ true = ap is_index (sym c.as_bytes.ensures.value) ∙ sym c.is_index.ensures ∙ c.if-not-is_index.false in
    let parts = is_index-parts c.args.token.now is in
    large_index c.args.token.now c.args.most is (λ small. OkIff-at_err _ _ _ _ (parse_digits digits 64 c.args.token.now _ c.parse.ensures.value.0 parts.0) c.in-Err.is (parts.1, small)) c.ranges.most.fits
