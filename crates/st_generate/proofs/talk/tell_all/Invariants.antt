use Rattle.std.proofs.Common.{◌≡◌, drop}
use Rattle.st_generate.specs.Talk.{told}
use Rattle.st_generate.proofs.talk.tell_all.Given as goal

-- sending the rest now equals sending all from the start
abbrev pub invariant-lines : goal.invariant-lines
invariant-lines g l =
    told g.N.Peer.peer (drop l.line-index l.lines) l.talk ≡ told g.N.Peer.peer l.lines l.fn.talk
