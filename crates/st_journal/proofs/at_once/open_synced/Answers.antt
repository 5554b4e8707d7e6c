use Rattle.st_journal.proofs.at_once.open_synced.Goals as goal

pub returns-in-Err-clause-gives : goal.returns-in-Err-clause-gives
returns-in-Err-clause-gives g c old told = c.in-Err.ensures.refusal old told
