use Rattle.st_batch.proofs.PrefixSizeLemmas.{never_shorter}
use Rattle.st_batch.proofs.GivenBatchLemmas.{batch_is_read_back}
use Rattle.st_batch.proofs.ThousandLemmas.{takes_a_thousand, takes_the_first, thousand_fit}
use Rattle.st_batch.proofs.batch.batch_laws.Goals as goal

pub returns-clause-read_back : goal.returns-clause-read_back
returns-clause-read_back c = λ limits operations are. batch_is_read_back limits operations are are.few

pub returns-clause-takes_the_first : goal.returns-clause-takes_the_first
returns-clause-takes_the_first c = takes_the_first

pub returns-clause-thousand_fit : goal.returns-clause-thousand_fit
returns-clause-thousand_fit c = thousand_fit

pub returns-clause-takes_a_thousand : goal.returns-clause-takes_a_thousand
returns-clause-takes_a_thousand c = takes_a_thousand

pub returns-clause-never_shorter : goal.returns-clause-never_shorter
returns-clause-never_shorter c = never_shorter
