use Rattle.std.specs.Prelude.{◌<◌, ◌≤◌, ◌^◌, length, ⊤}
use Rattle.st_batch.specs.Batch.{batch_count}
use Rattle.st_ledger.specs.Ledger.{most_entries}
use Rattle.st_node.specs.Machine.{Machine, limits_now}
use Rattle.st_node.specs.declared.command.Command.{Command}
use Rattle.st_node.specs.declared.command.Command.TheVariants.{Rollback, Flush}

-- At most as many entries as a ledger may have: this holds for each machine that replay restores.
abbrev pub HasFew : Machine → Type 0
HasFew machine = length machine.observed.ledger ≤ most_entries

-- ---- conditions of commands

-- a batch takes an operation, if one waits
abbrev pub TakesSome : Machine → Type 0
TakesSome machine = 1 ≤ length machine.queue → 1 ≤ batch_count (limits_now machine.observed) machine.queue

-- the number of removed entries fits in a reply
abbrev pub IsCountable : Machine → Type 0
IsCountable machine = length machine.observed.ledger < 2 ^ 64

-- the command's condition holds
abbrev pub Serves : Machine → Command → Type 0
Serves machine (Rollback n) = IsCountable machine
Serves machine Flush = TakesSome machine
Serves machine command = ⊤
