use Rattle.std.proofs.Common.{◌≡◌, ◌+◌, ◌*◌, ◌-◌, ◌++◌, length}
use Rattle.st_exchange.specs.Message.{uris_of}
use Rattle.st_exchange.proofs.message.read_digests.Given as goal

-- those that were read, followed by the remaining ones
abbrev pub invariant-loop-i : goal.invariant-loop-i
invariant-loop-i l = record {
  all : l.uris ++ uris_of (l.count - l.i) l.rest ≡ uris_of l.count l.bytes;
  long : length l.rest + 32 * l.i ≡ 32 * l.count;
}
