use Rattle.st_scan.proofs.TextLemmas.{last_dropped}
use Rattle.st_scan.proofs.texts.before_last.Goals as goal

pub returns : goal.returns
returns c = λ front b parts. last_dropped c.args.bytes.now front b _ c.saturating_sub.ensures parts
