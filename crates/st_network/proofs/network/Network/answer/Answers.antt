use Rattle.std.proofs.Common.{[], ◌∷◌}
use Rattle.st_network.proofs.NetworkLemmas.{none_over}
use Rattle.st_network.proofs.network.Network.answer.Goals as goal

pub returns-in_err-text-in-Err-Refused-clause-within : goal.returns-in_err-text-in-Err-Refused-clause-within
returns-in_err-text-in-Err-Refused-clause-within g c = (c.args.self, none_over g.N.Peer.peer c.args.self (c.args.line.now ∷ []) c.args.work.now)

pub returns-in_ok-text-in-Err-Refused-clause-within : goal.returns-in_ok-text-in-Err-Refused-clause-within
returns-in_ok-text-in-Err-Refused-clause-within g c = (c.args.self, none_over g.N.Peer.peer c.args.self (c.args.line.now ∷ []) c.args.work.now)

pub returns-in-Err-WantOfMemory-clause-within : goal.returns-in-Err-WantOfMemory-clause-within
returns-in-Err-WantOfMemory-clause-within g c = (c.args.self, none_over g.N.Peer.peer c.args.self (c.args.line.now ∷ []) c.args.work.now)
