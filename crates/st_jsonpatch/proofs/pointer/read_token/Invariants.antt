use Rattle.std.proofs.Common.{◌≡◌, length, string_bytes, IsUtf8}
use Rattle.st_jsonpatch.specs.Pointer.{token_of}
use Rattle.st_jsonpatch.specs.inside.Changed.{after}
use Rattle.st_jsonpatch.proofs.pointer.read_token.Given as goal

abbrev pub invariant-escapes : goal.invariant-escapes
invariant-escapes l = record {
  token : token_of l.piece ≡ after (string_bytes l.token) (token_of l.rest);
  text : IsUtf8 l.rest;
}

abbrev pub decreases-escapes : goal.decreases-escapes
decreases-escapes l = length l.rest
