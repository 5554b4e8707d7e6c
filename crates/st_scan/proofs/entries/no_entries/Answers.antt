use Rattle.st_scan.proofs.EntryLemmas.{empty_list, none_left}
use Rattle.st_scan.proofs.entries.no_entries.Goals as goal

pub returns : goal.returns
returns c = record { value = none_left; text = empty_list }
