use Rattle.std.proofs.Common.{◌≡◌, length, IsUtf8}
use Rattle.st_jsonpatch.specs.Pointer.{pieces_of, tokens_of}
use Rattle.st_jsonpatch.specs.inside.Changed.{after}
use Rattle.st_jsonpatch.proofs.pointer.read_tokens.Given as goal

abbrev pub invariant-pieces : goal.invariant-pieces
invariant-pieces l = record {
  tokens : tokens_of (pieces_of l.text) ≡ after l.tokens (tokens_of (pieces_of l.rest));
  text : IsUtf8 l.rest;
}

abbrev pub decreases-pieces : goal.decreases-pieces
decreases-pieces l = length l.rest
