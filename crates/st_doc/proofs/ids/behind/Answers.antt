use Rattle.std.proofs.Common.{◌+◌}
use Rattle.std.proofs.lemmas.List.{take_rest}
use Rattle.st_doc.proofs.ids.behind.Goals as goal

pub returns : goal.returns
returns g c = take_rest c.args.items.now (c.args.at + 1)
