use Rattle.std.proofs.Common.{◌++◌, ◌∷◌, [], Ok, string_bytes, ap, sym, ◌∙◌, rules}
use Rattle.st_jsonpatch.specs.Pointer.{token_of}
use Rattle.st_jsonpatch.specs.inside.Changed.{after}
use Rattle.st_jsonpatch.proofs.Pieces.{IsCutAtEscape, nothing_read, more_of_token, no_token, all_of_token}
use Rattle.st_jsonpatch.proofs.pointer.read_token.Goals as goal

pub escapes-init : goal.escapes-init
escapes-init c = record {
  token = nothing_read (token_of c.args.piece.now) (string_bytes c.new-token.result) c.new-token.ensures.bytes;
  text = c.utf8.piece;
}

pub returns-in_default-read_escape : goal.returns-in_default-read_escape
returns-in_default-read_escape c =
    let parts = rw c.in-Some.is at c.cut.ensures in
    let none = rw c.in_default-read_escape.is at c.read_escape.ensures.token in
    let here : IsCutAtEscape c.args.piece.now (string_bytes c.escapes.token) c.escapes.rest.now c.in-Some.plain.now c.in-Some.escape.now
    = record { so_far = c.escapes.invariant.token; cut = parts.0; lacks = parts.1 } in
    no_token here none

pub escapes-preserved : goal.escapes-preserved
escapes-preserved c =
    let parts = rw c.in-Some.is at c.cut.ensures in
    let escape = rw c.in-Some-read_escape.is at c.read_escape.ensures.token in
    let here : IsCutAtEscape c.args.piece.now (string_bytes c.escapes.token) c.escapes.rest.now c.in-Some.plain.now c.in-Some.escape.now
    = record { so_far = c.escapes.invariant.token; cut = parts.0; lacks = parts.1 } in
    let written = c.in_ok-append_sign.ensures ∙ ap (λ w. w ++ c.in-Some-read_escape.meant ∷ []) c.in_ok-append.ensures in
    record {
      token = more_of_token here c.in-Some-read_escape.meant c.in-Some-read_escape.more.now escape
          ∙ ap (λ w. after w (token_of c.in-Some-read_escape.more.now)) (sym written);
      text = search rules;
    }

pub returns : goal.returns
returns c =
    let lacks = rw c.in_default.is at c.cut.ensures in
    all_of_token c.args.piece.now (string_bytes c.escapes.token) c.escapes.rest.now c.escapes.invariant.token lacks
    ∙ ap Ok (sym (c.from_string.ensures ∙ c.in_ok-append-2.ensures))
