use Rattle.std.specs.Prelude.{ℕ}
use Rattle.st_journal.specs.declared.journal.JournalRefused.{JournalRefused}
use Rattle.st_journal.specs.declared.journal.JournalRefused.TheVariants.{TooLong, Damaged, DiskFault, WantOfMemory}

-- ---- the statuses

-- of a journal that is refused for this cause
abbrev pub refusal_status : JournalRefused → ℕ
refusal_status DiskFault = 4
refusal_status WantOfMemory = 6
refusal_status Damaged = 7
refusal_status TooLong = 8
