use Rattle.std.proofs.lemmas.List.{take_rest}
use Rattle.st_anchor.proofs.given.deltas_from.Goals as goal

pub returns-then-at-deltas : goal.returns-then-at-deltas
returns-then-at-deltas c = take_rest c.args.deltas.now c.args.at
