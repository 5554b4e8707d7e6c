use Rattle.std.proofs.Common.{◌≡◌}
use Rattle.st_generate.specs.Summary.{all_asked}
use Rattle.st_generate.proofs.ends.ask_all.Given as goal

-- their states after the identifiers so far
abbrev pub invariant-identities : goal.invariant-identities
invariant-identities g l = l.ends ≡ all_asked g.N.Peer.peer l.fn.plan.seed l.identity-index l.fn.ends
