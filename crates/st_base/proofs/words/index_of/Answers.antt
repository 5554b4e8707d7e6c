use Rattle.st_base.proofs.TextLemmas.{found-position}
use Rattle.st_base.proofs.words.index_of.Goals as goal

pub returns-clause-first : goal.returns-clause-first
returns-clause-first c = found-position c.args.separator c.args.text.now c.memchr.result c.memchr.ensures
