use Rattle.std.proofs.Common.{◌≡◌, ap, sym, ◌∙◌, Ok, Err, rules}
use Rattle.st_jsonpatch.specs.Pointer.{pieces_of, tokens_of}
use Rattle.st_jsonpatch.specs.inside.Changed.{after}
use Rattle.st_jsonpatch.proofs.Pieces.{IsCutAtSlash, more_of_pointer, no_pointer, all_of_pointer, no_last, refused_inside}
use Rattle.st_jsonpatch.proofs.pointer.read_tokens.Goals as goal

pub returns-in_err-token : goal.returns-in_err-token
returns-in_err-token c =
    let parts = rw c.in-Some.is at c.cut.ensures in
    let here : IsCutAtSlash (pieces_of c.args.text.now) c.pieces.tokens c.pieces.rest.now c.in-Some.piece.now c.in-Some.more.now
    = record { so_far = c.pieces.invariant.tokens; cut = parts.0; lacks = parts.1 } in
    let is : c.from_residual.result ≡ Err c.in_err-token.field-0.0 = search rules in
    refused_inside c.in_err-token.field-0.0 c.from_residual.result is c.in_err-token.ensures (no_pointer here)

pub pieces-preserved : goal.pieces-preserved
pieces-preserved c =
    let parts = rw c.in-Some.is at c.cut.ensures in
    let here : IsCutAtSlash (pieces_of c.args.text.now) c.pieces.tokens c.pieces.rest.now c.in-Some.piece.now c.in-Some.more.now
    = record { so_far = c.pieces.invariant.tokens; cut = parts.0; lacks = parts.1 } in
    record {
      tokens = more_of_pointer here c.in_ok-token.token c.in_ok-token.ensures
          ∙ ap (λ read. after read (tokens_of (pieces_of c.in-Some.more.now))) (sym c.in_ok-push.ensures.ok);
      text = search rules;
    }

pub returns-in_err-last : goal.returns-in_err-last
returns-in_err-last c =
    let lacks = rw c.in_default.is at c.cut.ensures in
    let is : c.from_residual-in_err-last.result ≡ Err c.in_err-last.field-0.0 = search rules in
    refused_inside c.in_err-last.field-0.0 c.from_residual-in_err-last.result is c.in_err-last.ensures
    (no_last (pieces_of c.args.text.now) c.pieces.tokens c.pieces.rest.now c.pieces.invariant.tokens lacks)

pub returns : goal.returns
returns c =
    let lacks = rw c.in_default.is at c.cut.ensures in
    all_of_pointer (pieces_of c.args.text.now) c.pieces.tokens c.pieces.rest.now c.in_ok-last.last c.pieces.invariant.tokens lacks c.in_ok-last.ensures
    ∙ ap Ok (sym c.in_ok-push-2.ensures.ok)
