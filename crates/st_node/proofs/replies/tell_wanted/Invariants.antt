use Rattle.std.proofs.Common.{◌≡◌, ◌++◌, decimal, length, map}
use Rattle.st_hash.specs.Hash.{hash_text}
use Rattle.st_base.specs.Texts.{spaced}
use Rattle.st_node.proofs.ReplyLemmas.{with_words}
use Rattle.st_node.proofs.replies.tell_wanted.Given as goal

-- the text and the words of the remaining URIs are all of it
abbrev pub invariant-loop-uri : goal.invariant-loop-uri
invariant-loop-uri l = with_words hash_text l.uris l.rest.items l.uri-index ≡ decimal (length l.uris) ++ spaced (map hash_text l.uris)
