use Rattle.std.proofs.Common.{◌≡◌, [], take}
use Rattle.std.specs.List.{fold}
use Rattle.st_exchange.specs.inside.Among.{HasThose}
use Rattle.st_exchange.specs.Peer.{with_one}
use Rattle.st_exchange.proofs.asking.once.Given as goal

-- those so far are each there once, and the set has them
abbrev pub invariant-loop-uri : goal.invariant-loop-uri
invariant-loop-uri l = record {
  each : l.once ≡ fold with_one [] (take l.uri-index l.uris);
  has : HasThose l.once l.seen;
}
