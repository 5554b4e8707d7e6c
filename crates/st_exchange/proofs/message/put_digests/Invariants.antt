use Rattle.std.proofs.Common.{◌≡◌, ◌++◌, take}
use Rattle.st_exchange.specs.Message.{digests}
use Rattle.st_exchange.proofs.message.put_digests.Given as goal

-- the digests so far follow the earlier bytes
abbrev pub invariant-loop-uri : goal.invariant-loop-uri
invariant-loop-uri l = l.bytes.items ≡ l.initial.bytes.items ++ digests (take l.uri-index l.uris)
