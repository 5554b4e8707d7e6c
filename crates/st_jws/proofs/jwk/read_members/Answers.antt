use Rattle.st_canon.specs.View.{plain_members}
use Rattle.st_jws.proofs.KeyLemmas.{members-written}
use Rattle.st_jws.proofs.jwk.read_members.Goals as goal

pub returns-clause-written : goal.returns-clause-written
returns-clause-written c = members-written (plain_members c.args.members.now) c.in_ok-key.key c.in_ok-key.ensures.has
