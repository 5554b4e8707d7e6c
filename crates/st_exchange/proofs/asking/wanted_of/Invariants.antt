use Rattle.std.proofs.Common.{◌≡◌, take}
use Rattle.std.specs.List.{filter}
use Rattle.st_exchange.specs.Peer.{is_among}
use Rattle.st_exchange.proofs.asking.wanted_of.Given as goal

-- those so far that are wanted
abbrev pub invariant-loop-uri : goal.invariant-loop-uri
invariant-loop-uri g l = l.those ≡ filter (is_among (g.W.Wants.wanted l.wanted)) (take l.uri-index l.uris)
