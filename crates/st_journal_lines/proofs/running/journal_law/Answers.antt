use Rattle.st_journal_lines.proofs.RunLemmas.{journal_back}
use Rattle.st_journal_lines.proofs.running.journal_law.Goals as goal

pub returns : goal.returns
returns g c seed r lines = journal_back g.N.Replayable.answering g.met.N.Replayable.idles seed r lines
