-- The forms of the command line: the meaning of its words.
use Rattle.std.specs.Prelude.{ℕ, Bool, ◌-◌, ◌^◌, List, [], ◌∷◌, codes, bytes_eq, nat_le, length, take, drop, if◌then◌else◌, Option, Some, None, option_map}
use Rattle.std.specs.Option.{option_or}
use Rattle.st_base.specs.Options.{◌>>=◌, ◌>>◌}
use Rattle.st_base.specs.Texts.{number_of}
use Rattle.st_cli.specs.declared.command_line.Invocation.{Invocation}
use Rattle.st_cli.specs.declared.command_line.Invocation.TheVariants.{Node, Journalled, Wallet, Exchange, Generate}
use Rattle.st_cli.specs.declared.command_line.NodeOptions.{NodeOptions}
use Rattle.st_generate.specs.Plan.{plan_of}

-- the largest number of input bytes of a command: 2^30
abbrev pub max_input : ℕ
max_input = 1073741824

-- ---- options

-- the text after this prefix of a word
abbrev pub behind : List ℕ → List ℕ → Option (List ℕ)
behind front word = if bytes_eq (take (length front) word) front then Some (drop (length front) word) else None

-- `--limit=N`: the largest number of input bytes, from 1 to max_input
abbrev pub limit_of : List ℕ → Option ℕ
limit_of word = do
  text ← behind (codes "--limit=") word
  limit ← number_of max_input text
  nat_le 1 limit
  Some limit

-- `--v2-at=H`: the height from which version 2 of the limits applies
abbrev pub second_of : List ℕ → Option ℕ
second_of word = do
  text ← behind (codes "--v2-at=") word
  number_of (2 ^ 32 - 1) text

-- ---- a node

-- a node with this input limit, and with version 1 of the limits at every height
abbrev pub with_limit : ℕ → NodeOptions
with_limit limit = record { limit = limit; schedule = None }

-- a node with version 2 of the limits from this height on, and with an input limit of max_input bytes
abbrev pub with_second : ℕ → NodeOptions
with_second height = record { limit = max_input; schedule = Some height }

-- one option: a limit or a height
abbrev pub one_option : List ℕ → Option NodeOptions
one_option word = option_or (option_map with_limit (limit_of word)) (option_map with_second (second_of word))

-- a limit, and then a height
abbrev pub both_options : List ℕ → List ℕ → Option NodeOptions
both_options first second = do
  limit ← limit_of first
  height ← second_of second
  Some (record { limit = limit; schedule = Some height })

-- the option for a journal
abbrev pub is_journal : List ℕ → Bool
is_journal word = bytes_eq word (codes "--journal")

-- the words after `node`: a limit and a height, each at most once and in this order, and after them `--journal` or
-- not
abbrev pub node_invocation : List (List ℕ) → Option Invocation
node_invocation [] = Some (Node (with_limit max_input))
node_invocation (word ∷ []) =
    if is_journal word then Some (Journalled (with_limit max_input)) else option_map Node (one_option word)
node_invocation (first ∷ second ∷ []) =
    if is_journal second then option_map Journalled (one_option first) else option_map Node (both_options first second)
node_invocation (first ∷ second ∷ third ∷ []) =
    if is_journal third then option_map Journalled (both_options first second) else None
node_invocation (first ∷ second ∷ third ∷ fourth ∷ more) = None

-- ---- the other commands

-- no word follows `wallet` or `exchange`
abbrev pub alone : Invocation → List (List ℕ) → Option Invocation
alone invocation [] = Some invocation
alone invocation (word ∷ more) = None

-- a seed, a number of identifiers and a number of rounds follow `generate`
abbrev pub generate_invocation : List (List ℕ) → Option Invocation
generate_invocation words = option_map Generate (plan_of words)

-- ---- forms

-- the first word names the command, and the others are its options; `None` if the words are invalid
abbrev pub invocation_of : List (List ℕ) → Option Invocation
invocation_of [] = None
invocation_of (command ∷ options) =
    if bytes_eq command (codes "node") then node_invocation options
    else if bytes_eq command (codes "wallet") then alone Wallet options
    else if bytes_eq command (codes "exchange") then alone Exchange options
    else if bytes_eq command (codes "generate") then generate_invocation options
    else None
