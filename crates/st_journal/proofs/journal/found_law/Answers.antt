use Rattle.st_journal.proofs.ImageLemmas.{found-closed, found-few, found-record}
use Rattle.st_journal.proofs.journal.found_law.Goals as goal

pub returns-clause-closed : goal.returns-clause-closed
returns-clause-closed c gate behind closed = found-closed gate behind closed

pub returns-clause-record_first : goal.returns-clause-record_first
returns-clause-record_first c behind enough = found-record behind enough

pub returns-clause-few : goal.returns-clause-few
returns-clause-few c behind few = found-few behind few
