use Rattle.std.proofs.Common.{sym, subst}
use Rattle.std.specs.Str.{IsAscii}
use Rattle.st_jws.proofs.SignedLemmas.{IsAscii-signing_input}
use Rattle.st_wallet.proofs.requests.sign.Goals as goal

pub join_signed-requires : goal.join_signed-requires
join_signed-requires c = subst IsAscii (sym c.requires.input) (IsAscii-signing_input c.args.draft.payload)
