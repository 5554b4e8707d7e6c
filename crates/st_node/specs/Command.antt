-- The command of a line.
use Rattle.std.specs.Prelude.{ℕ, ◌-◌, ◌^◌, nat_le, List, length, bytes_eq, codes, is_none, if◌then◌else◌, Option, Some, None, Result, Ok, Err}
use Rattle.std.specs.Option.{ok_or}
use Rattle.st_base.specs.Answers.{◌>>=◌, ◌>>◌, holds_or}
use Rattle.st_base.specs.Texts.{cut_at, first_word, number_of, other_words}
use Rattle.st_hash.specs.Hash.{bytes_of_text}
use Rattle.st_node.specs.declared.command.Command.{Command}
use Rattle.st_node.specs.declared.command.Command.TheVariants.{Content, Anchor, Rollback, Resolve, Explain, Wanted, Report, Submit, Flush}
use Rattle.st_node.specs.declared.command.LineCause.{LineCause}
use Rattle.st_node.specs.declared.command.LineCause.TheVariants as cause
use Rattle.st_node.specs.declared.command.LineRefused.{LineRefused}
use Rattle.st_node.specs.declared.command.LineRefused.TheVariants.{BadLine, WantOfMemory}

-- the largest number of bytes of a line
abbrev pub longest_line : ℕ
longest_line = 24000000

-- the byte of a space
abbrev pub space : ℕ
space = 32

-- the number in a word: decimal, from 0 to 4,294,967,295
abbrev pub number_in : List ℕ → Option ℕ
number_in word = number_of (2 ^ 32 - 1) word

-- ---- each command, from the text after its word and a space

-- `content <base64url>`
abbrev pub content_of : Option (List ℕ) → Result Command LineCause
content_of behind = do
  text ← ok_or behind cause.Words
  bytes ← ok_or (bytes_of_text text) cause.Base64
  Ok (Content bytes)

-- `anchor <height> <text>`
abbrev pub anchor_of : Option (List ℕ) → Result Command LineCause
anchor_of behind = do
  rest ← ok_or behind cause.Words
  words ← ok_or (cut_at space rest) cause.Words
  height ← ok_or (number_in words.0) cause.Number
  Ok (Anchor height words.1)

-- `rollback <n>`: the number is all the rest
abbrev pub rollback_of : Option (List ℕ) → Result Command LineCause
rollback_of behind = do
  rest ← ok_or behind cause.Words
  n ← ok_or (number_in rest) cause.Number
  Ok (Rollback n)

-- `resolve <did>`
abbrev pub resolve_of : Option (List ℕ) → Result Command LineCause
resolve_of behind = do
  did ← ok_or behind cause.Words
  Ok (Resolve did)

-- `explain <did>`
abbrev pub explain_of : Option (List ℕ) → Result Command LineCause
explain_of behind = do
  did ← ok_or behind cause.Words
  Ok (Explain did)

-- `wanted`, without a space after it
abbrev pub wanted_of : Option (List ℕ) → Result Command LineCause
wanted_of behind = do
  holds_or (is_none behind) cause.Words
  Ok Wanted

-- `report <n>`: the number is all the rest
abbrev pub report_of : Option (List ℕ) → Result Command LineCause
report_of behind = do
  rest ← ok_or behind cause.Words
  n ← ok_or (number_in rest) cause.Number
  Ok (Report n)

-- `submit <request>`: the request is all the rest
abbrev pub submit_of : Option (List ℕ) → Result Command LineCause
submit_of behind = do
  request ← ok_or behind cause.Words
  Ok (Submit request)

-- `flush`, without a space after it
abbrev pub flush_of : Option (List ℕ) → Result Command LineCause
flush_of behind = do
  holds_or (is_none behind) cause.Words
  Ok Flush

-- ---- lines

-- by the command word
abbrev pub command_of_words : List ℕ → Option (List ℕ) → Result Command LineCause
command_of_words word behind =
    if bytes_eq word (codes "content") then content_of behind
    else if bytes_eq word (codes "anchor") then anchor_of behind
    else if bytes_eq word (codes "rollback") then rollback_of behind
    else if bytes_eq word (codes "resolve") then resolve_of behind
    else if bytes_eq word (codes "explain") then explain_of behind
    else if bytes_eq word (codes "wanted") then wanted_of behind
    else if bytes_eq word (codes "report") then report_of behind
    else if bytes_eq word (codes "submit") then submit_of behind
    else if bytes_eq word (codes "flush") then flush_of behind
    else Err cause.Command

-- The command of a line, or the first cause why it is not one. The command word is the part before the first space,
-- or the whole line.
abbrev pub command_of : List ℕ → Result Command LineCause
command_of line = do
  holds_or (nat_le (length line) longest_line) cause.Long
  command_of_words (first_word space line) (other_words space line)

-- the cause of an error, if it has one
abbrev pub cause_of : LineRefused → Option LineCause
cause_of (BadLine cause) = Some cause
cause_of WantOfMemory = None
