use Rattle.std.proofs.Common.{true, ap, arith}
use Rattle.std.proofs.lemmas.Str.Pattern.{strip_prefix_char}
use Rattle.st_jsonpatch.specs.Pointer.{token_from}
use Rattle.st_jsonpatch.proofs.Pieces.{no_escape}
use Rattle.st_jsonpatch.proofs.pointer.read_escape.Goals as goal

pub returns-in-Some-clause-token : goal.returns-in-Some-clause-token
returns-in-Some-clause-token c =
    let begins = rw c.in-Some.is at (strip_prefix_char 48 c.args.text.now c.strip_prefix.result c.strip_prefix.ensures.cases (omega arith)) in
    ap (token_from true) begins

pub returns-in-Some-strip_prefix-clause-token : goal.returns-in-Some-strip_prefix-clause-token
returns-in-Some-strip_prefix-clause-token c =
    let begins = rw c.in-Some-strip_prefix.is at (strip_prefix_char 49 c.args.text.now c.strip_prefix-2.result c.strip_prefix-2.ensures.cases (omega arith)) in
    ap (token_from true) begins

pub returns-clause-token : goal.returns-clause-token
returns-clause-token c = no_escape c.args.text.now
    (rw c.in_default.is at (strip_prefix_char 48 c.args.text.now c.strip_prefix.result c.strip_prefix.ensures.cases (omega arith)))
    (rw c.in_default-strip_prefix.is at (strip_prefix_char 49 c.args.text.now c.strip_prefix-2.result c.strip_prefix-2.ensures.cases (omega arith)))
