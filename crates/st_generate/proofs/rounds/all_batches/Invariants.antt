use Rattle.std.proofs.Common.{◌≡◌}
use Rattle.st_generate.specs.Summary.{batches_of}
use Rattle.st_generate.proofs.rounds.all_batches.Given as goal

-- the batches of the rounds so far
abbrev pub invariant-rounds : goal.invariant-rounds
invariant-rounds g l = l.batches ≡ batches_of g.N.Peer.peer l.fn.plan.seed l.fn.plan.dids l.round
