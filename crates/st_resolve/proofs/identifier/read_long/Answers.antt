use Rattle.std.proofs.Common.{◌≡◌, true, false, Some, sym, ap, ◌∙◌}
use Rattle.std.specs.Prelude.{bytes_eq, option_map}
use Rattle.st_plain.specs.Plain.{canonical}
use Rattle.st_plain.specs.Shapes.{json_in}
use Rattle.st_hash.specs.Hash.{same_hash}
use Rattle.st_indexfiles.specs.CoreIndex.{suffix_of}
use Rattle.st_resolve.specs.LongForm.{long_in, plain_long}
use Rattle.st_resolve.proofs.ResultLemmas.{long_differs, long_holds, no_other, other}
use Rattle.st_resolve.proofs.identifier.read_long.Goals as goal

pub returns-then-ne : goal.returns-then-ne
returns-then-ne c =
    let long = plain_long c.in-Some-2.long in
    let read : json_in c.args.held.now ≡ Some c.in-Some.text = sym c.in_ok-text.ensures ∙ c.in-Some.is in
    let said : long_in c.args.version c.in-Some.text ≡ Some long = sym c.in_ok-long.ensures ∙ ap (option_map plain_long) c.in-Some-2.is in
    let spelled : bytes_eq c.args.held.now (canonical c.in-Some.text) ≡ true = sym c.is_canonical.ensures ∙ c.if-not-is_canonical.false in
    let differs : same_hash (suffix_of long.suffix_data) c.args.suffix.now ≡ false =
    ap (λ found. same_hash found c.args.suffix.now) (sym c.in_ok-suffix_of.ensures) ∙ other _ (sym c.ne.ensures ∙ c.if-ne.true) in
    long_differs c.args.version c.args.suffix.now c.args.held.now c.in-Some.text long read said spelled differs

pub returns : goal.returns
returns c =
    let long = plain_long c.in-Some-2.long in
    let read : json_in c.args.held.now ≡ Some c.in-Some.text = sym c.in_ok-text.ensures ∙ c.in-Some.is in
    let said : long_in c.args.version c.in-Some.text ≡ Some long = sym c.in_ok-long.ensures ∙ ap (option_map plain_long) c.in-Some-2.is in
    let spelled : bytes_eq c.args.held.now (canonical c.in-Some.text) ≡ true = sym c.is_canonical.ensures ∙ c.if-not-is_canonical.false in
    let same : same_hash (suffix_of long.suffix_data) c.args.suffix.now ≡ true =
    ap (λ found. same_hash found c.args.suffix.now) (sym c.in_ok-suffix_of.ensures) ∙ no_other _ (sym c.ne.ensures ∙ c.if-ne.false) in
    long_holds c.args.version c.args.suffix.now c.args.held.now c.in-Some.text long read said spelled same
