use Rattle.std.proofs.Common.{◌≡◌, drop, map}
use Rattle.st_workload.specs.inside.Identity.{line_of}
use Rattle.st_generate.specs.Talk.{told}
use Rattle.st_generate.proofs.rounds.tell_round.Given as goal

-- sending the rest now equals sending all from the start
abbrev pub invariant-identities : goal.invariant-identities
invariant-identities g l =
    told g.N.Peer.peer (map (line_of l.round) (drop l.identity-index l.identities)) l.talk
    ≡ told g.N.Peer.peer (map (line_of l.round) l.identities) l.fn.talk
