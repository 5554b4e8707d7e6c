-- Isolation: the answers about an identifier follow from its own operations.
use Rattle.std.specs.List.{AllByRecursion}
use Rattle.std.specs.Prelude.{◌≡◌, ℕ, List, Result, Ok, Bool, false, ◌&&◌, ◌||◌, nat_le, [], ◌∷◌, bytes_eq, codes, length, take, drop, ◌≢◌, ◌≤◌, true}
use Rattle.st_hash.specs.Hash.{HashValue}
use Rattle.st_ledger.specs.Ledger.{most_entries}
use Rattle.st_content.specs.Files.{file_at}
use Rattle.st_observer.specs.Observed.{operations}
use Rattle.st_resolve.specs.Identifier.{PlainDid, did_of}
use Rattle.st_batch.specs.Queue.{IsQueued}
use Rattle.st_node.specs.Command.{command_of}
use Rattle.st_node.specs.Machine.{Machine, answered, newest}
use Rattle.st_node.specs.declared.command.Command.{Command}
use Rattle.st_node.specs.declared.command.Command.TheVariants.{Resolve, Explain}
use Rattle.st_node.specs.declared.command.LineCause.{LineCause}

-- a line is a command to resolve a text, or to explain it
pub data AsksAbout (text : List ℕ) : Result Command LineCause → Type 0 where
  to_resolve : AsksAbout text (Ok (Resolve text))
  to_explain : AsksAbout text (Ok (Explain text))

-- the line is a command to a machine to resolve or to explain an identifier of this suffix
pub record AsksFor (machine : Machine) (suffix : HashValue) (line : List ℕ) : Type 0 where
  pub text : List ℕ
  pub did : PlainDid
  pub asks : AsksAbout text (command_of line)
  pub identifies : did_of (newest machine.observed).version text ≡ Ok did
  pub by_suffix : did.suffix ≡ suffix

-- two machines under one schedule of limits have the same operations of a suffix
pub record AgreeOn (suffix : HashValue) (first second : Machine) : Type 0 where
  pub same_schedule : first.observed.schedule ≡ second.observed.schedule
  pub same_operations : operations suffix first.observed ≡ operations suffix second.observed

-- Two machines with the same operations of a suffix give the same reply to each line that resolves or explains an
-- identifier of it. So a reply about it is not changed by an entry that gives no operation for it, a cut of such
-- entries, or a file that leaves its operations (by `isolation_law` of st_observer). Nor is it changed by the queue:
-- no submission changes it, and a flush only through its files.
abbrev pub IsolatesIdentifiers : Type 0
IsolatesIdentifiers = (suffix : HashValue) (first second : Machine) (line : List ℕ) → AgreeOn suffix first second
    → AsksFor first suffix line → (answered first line).reply ≡ (answered second line).reply

-- ---- Nodes with equal ledgers and equal files give the same answers about an identifier.

-- two machines under one schedule have equal ledgers, and the same file or none for each URI
pub record AreAlike (first second : Machine) : Type 0 where
  pub same_schedule : first.observed.schedule ≡ second.observed.schedule
  pub same_ledger : first.observed.ledger ≡ second.observed.ledger
  pub same_files : (uri : HashValue) → file_at uri first.observed.files ≡ file_at uri second.observed.files

-- they give equal replies to each line with this command for a text
abbrev pub AnswersAlike : (List ℕ → Command) → Type 0
AnswersAlike asks = (first second : Machine) (line text : List ℕ) → AreAlike first second → command_of line ≡ Ok (asks text)
    → (answered first line).reply ≡ (answered second line).reply

-- They give equal replies to each `resolve`.
abbrev pub ResolvesAlike : Type 0
ResolvesAlike = AnswersAlike (λ text. Resolve text)

-- They give equal replies to each `explain`.
abbrev pub ExplainsAlike : Type 0
ExplainsAlike = AnswersAlike (λ text. Explain text)

-- ---- Which replies say that the line changed the machine.

-- a text has this prefix
abbrev pub begins_with : List ℕ → List ℕ → Bool
begins_with front text = bytes_eq (take (length front) text) front

-- the first byte is a digit other than 0
abbrev pub is_positive : List ℕ → Bool
is_positive [] = false
is_positive (digit ∷ more) = nat_le 49 digit && nat_le digit 57

-- a reply reports a change: a new file, an entry, removed entries, a queued operation, or a batch
abbrev pub is_changing : List ℕ → Bool
is_changing reply =
    begins_with (codes "have ") reply
    || (begins_with (codes "anchored ") reply
    || (begins_with (codes "cut ") reply && is_positive (drop 4 reply)
    || (begins_with (codes "queued ") reply || begins_with (codes "batch ") reply)))

-- ---- A reply tells whether its line changed the machine.

-- The reply has the form of a change if and only if the machine differs from the one before.
pub record TellsChange (old new : Machine) (reply : List ℕ) : Type 0 where
  pub changed : is_changing reply ≡ true → new ≢ old
  pub same : is_changing reply ≡ false → new ≡ old

-- ---- machines of nodes

-- The properties of each node: at most as many entries as a ledger may have, and a queue of operations that were
-- accepted at the limits of some version.
pub record IsNode (machine : Machine) : Type 0 where
  pub few : length machine.observed.ledger ≤ most_entries
  pub queued : AllByRecursion IsQueued machine.queue

-- For each machine with these properties, the reply to each line tells whether the line changed it.
abbrev pub TellsChanges : Type 0
TellsChanges = (machine : Machine) (line : List ℕ) → IsNode machine
    → TellsChange machine (answered machine line).next (answered machine line).reply
